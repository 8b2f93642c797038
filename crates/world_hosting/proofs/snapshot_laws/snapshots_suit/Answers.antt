use Rattle.world_hosting.proofs.SavedPrograms.{snapshots_suit}
use Rattle.world_hosting.proofs.snapshot_laws.snapshots_suit.Goals as goal

pub returns : goal.returns
returns c = snapshots_suit
