use Rattle.mail_laws.proofs.AloneLines.{own_lines_alone, own_lines_blocking}
use Rattle.mail_laws.proofs.alone_laws.own_lines_with_mail_are_those_alone.Goals as goal

pub returns-clause-protocol : goal.returns-clause-protocol
returns-clause-protocol c = own_lines_alone

pub returns-clause-blocking : goal.returns-clause-blocking
returns-clause-blocking c = own_lines_blocking
