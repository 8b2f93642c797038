use Rattle.std.proofs.Common.{◌+◌, ◌^◌, length, map, take}
use Rattle.std.specs.List.{flat_map}
use Rattle.snapshot_store.specs.Snapshots.{record_bytes}
use Rattle.snapshot_store.specs.Views.{record_of}
use Rattle.snapshot_store.proofs.Counted.{IsCount}
use Rattle.snapshot_store.proofs.counting.length.Given as goal

abbrev pub invariant-loop-program : goal.invariant-loop-program
invariant-loop-program l = IsCount 20 (2 ^ 50) (20 + length (flat_map record_bytes (map record_of (take l.program-index l.snap.programs.items)))) l.program-index l.total
