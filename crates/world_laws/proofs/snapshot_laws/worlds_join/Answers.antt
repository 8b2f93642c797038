use Rattle.world_laws.proofs.Snapshots.{worlds_join}
use Rattle.world_laws.proofs.snapshot_laws.worlds_join.Goals as goal

pub returns : goal.returns
returns c = worlds_join
