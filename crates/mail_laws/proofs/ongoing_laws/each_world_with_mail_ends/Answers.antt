use Rattle.mail_laws.proofs.GoingOn.{each_world_ends}
use Rattle.mail_laws.proofs.ongoing_laws.each_world_with_mail_ends.Goals as goal

pub returns : goal.returns
returns c = each_world_ends
