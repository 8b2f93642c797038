use Rattle.assert_laws.proofs.EmittedAsserts.{unpaused_law}
use Rattle.assert_laws.proofs.asserted_modules.asserted_runs_unpaused.Goals as goal

pub returns : goal.returns
returns c = unpaused_law
