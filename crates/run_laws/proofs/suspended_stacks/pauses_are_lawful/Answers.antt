use Rattle.run_laws.proofs.LawfulPauses.{pauses_lawful}
use Rattle.run_laws.proofs.suspended_stacks.pauses_are_lawful.Goals as goal

pub returns : goal.returns
returns c = pauses_lawful
