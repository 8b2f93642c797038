use Rattle.mail_laws.proofs.BegunOn.{begun_goes_on}
use Rattle.mail_laws.proofs.told_laws.begun_turns_go_on.Goals as goal

pub returns : goal.returns
returns c = begun_goes_on
