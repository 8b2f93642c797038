use Rattle.assert_laws.proofs.Carrying.{carried_law}
use Rattle.assert_laws.proofs.TestMet.{met_law}
use Rattle.assert_laws.proofs.tested_links.tests_are_met.Goals as goal

pub returns-clause-met : goal.returns-clause-met
returns-clause-met c = met_law

pub returns-clause-numbers : goal.returns-clause-numbers
returns-clause-numbers c = carried_law
