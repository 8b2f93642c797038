use Rattle.snapshot_store.proofs.Splits.{one_snapshot}
use Rattle.snapshot_store.proofs.laws.one_snapshot_is_spelled.Goals as goal

pub returns : goal.returns
returns c = one_snapshot
