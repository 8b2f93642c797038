use Rattle.many_host.proofs.MailWorlds.{host_begins}
use Rattle.many_host.proofs.laws.told_lines_with_mail_begin_a_world.Goals as goal

pub returns : goal.returns
returns c = host_begins
