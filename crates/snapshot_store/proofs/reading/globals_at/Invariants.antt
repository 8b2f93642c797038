use Rattle.std.proofs.Common.{◌≡◌, ◌≤◌, ◌-◌, ◌++◌, All, drop, length}
use Rattle.std.specs.List.{flat_map}
use Rattle.wa_types.specs.Sizes.{value_fits}
use Rattle.snapshot_store.specs.Snapshots.{global_bytes}
use Rattle.snapshot_store.proofs.reading.globals_at.Given as goal

abbrev pub invariant-globals : goal.invariant-globals
invariant-globals l = record {
  so_far : drop l.fn.at l.bytes ≡ flat_map global_bytes l.globals.items ++ drop l.at l.bytes;
  fit : All value_fits l.globals.items;
  few : length l.globals.items ≤ l.count;
  place : l.at ≤ length l.bytes;
}

abbrev pub decreases-globals : goal.decreases-globals
decreases-globals l = l.count - length l.globals.items
