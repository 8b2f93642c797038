use Rattle.world_laws.proofs.Snapshots.{joined_lines_are_one}
use Rattle.world_laws.proofs.snapshot_laws.joined_lines_are_one.Goals as goal

pub returns : goal.returns
returns c = joined_lines_are_one
