use Rattle.assert_laws.proofs.TestedCode.{asserted_law, reached_law}
use Rattle.assert_laws.proofs.tested_runs.asserted_code_is_tested.Goals as goal

pub returns-clause-asserted : goal.returns-clause-asserted
returns-clause-asserted c = asserted_law

pub returns-clause-reached : goal.returns-clause-reached
returns-clause-reached c = reached_law
