use Rattle.assert_laws.proofs.Running.{waiting_stands}
use Rattle.assert_laws.proofs.tested_runs.waiting_stands_at_tests.Goals as goal

pub returns : goal.returns
returns c = waiting_stands
