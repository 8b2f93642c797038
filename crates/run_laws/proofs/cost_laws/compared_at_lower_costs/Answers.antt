use Rattle.run_laws.proofs.Growing.{compared_lower, pauses_lower}
use Rattle.run_laws.proofs.cost_laws.compared_at_lower_costs.Goals as goal

pub returns-clause-runs : goal.returns-clause-runs
returns-clause-runs c = compared_lower

pub returns-clause-pauses : goal.returns-clause-pauses
returns-clause-pauses c = pauses_lower
