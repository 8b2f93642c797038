use Rattle.std.proofs.Common.{length, take}
use Rattle.std.specs.List.{flat_map}
use Rattle.snapshot_store.specs.Snapshots.{global_bytes}
use Rattle.snapshot_store.proofs.Counted.{IsCount}
use Rattle.snapshot_store.proofs.counting.globals_length.Given as goal

abbrev pub invariant-loop-value : goal.invariant-loop-value
invariant-loop-value l = IsCount 0 9 (length (flat_map global_bytes (take l.value-index l.globals))) l.value-index l.total
