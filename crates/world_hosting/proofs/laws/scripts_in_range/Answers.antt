use Rattle.world_hosting.proofs.ScriptPrograms.{scripts_are_in_range}
use Rattle.world_hosting.proofs.laws.scripts_in_range.Goals as goal

pub returns : goal.returns
returns c = scripts_are_in_range
