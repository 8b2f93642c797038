use Rattle.world_laws.proofs.Snapshots.{records_go_on}
use Rattle.world_laws.proofs.snapshot_laws.records_go_on.Goals as goal

pub returns : goal.returns
returns c = records_go_on
