use Rattle.mail_laws.proofs.GoneOn.{told_goes_on}
use Rattle.mail_laws.proofs.told_laws.told_worlds_go_on.Goals as goal

pub returns : goal.returns
returns c = told_goes_on
