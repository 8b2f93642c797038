use Rattle.world_hosting.proofs.ScriptPrograms.{scripts_fit_plans}
use Rattle.world_hosting.proofs.laws.scripts_fit.Goals as goal

pub returns : goal.returns
returns c = scripts_fit_plans
