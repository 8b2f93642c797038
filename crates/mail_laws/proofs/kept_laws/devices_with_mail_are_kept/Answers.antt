use Rattle.mail_laws.proofs.KeptDevices.{devices_kept, devices_kept_blocking, devices_kept_up_to, none_taken_out}
use Rattle.mail_laws.proofs.kept_laws.devices_with_mail_are_kept.Goals as goal

pub returns-clause-protocol : goal.returns-clause-protocol
returns-clause-protocol c = devices_kept

pub returns-clause-played : goal.returns-clause-played
returns-clause-played c = devices_kept_up_to

pub returns-clause-blocking : goal.returns-clause-blocking
returns-clause-blocking c = devices_kept_blocking

pub returns-clause-all : goal.returns-clause-all
returns-clause-all c = none_taken_out
