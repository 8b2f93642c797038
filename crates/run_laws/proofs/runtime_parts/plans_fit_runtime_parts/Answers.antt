use Rattle.run_laws.proofs.PlanParts.{plans_fit_parts}
use Rattle.run_laws.proofs.runtime_parts.plans_fit_runtime_parts.Goals as goal

pub returns : goal.returns
returns c = plans_fit_parts
