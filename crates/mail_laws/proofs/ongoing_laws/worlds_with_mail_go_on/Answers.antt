use Rattle.mail_laws.proofs.PlayedAreTold.{worlds_go_on}
use Rattle.mail_laws.proofs.ongoing_laws.worlds_with_mail_go_on.Goals as goal

pub returns : goal.returns
returns c = worlds_go_on
