use Rattle.world_laws.proofs.KeptDevices.{devices_kept, devices_kept_blocking, none_taken_out}
use Rattle.world_laws.proofs.replay_laws.devices_are_kept.Goals as goal

pub returns-clause-protocol : goal.returns-clause-protocol
returns-clause-protocol c = devices_kept

pub returns-clause-blocking : goal.returns-clause-blocking
returns-clause-blocking c = devices_kept_blocking

pub returns-clause-all : goal.returns-clause-all
returns-clause-all c = none_taken_out
