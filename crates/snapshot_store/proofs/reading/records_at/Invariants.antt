use Rattle.std.proofs.Common.{◌≡◌, ◌≤◌, ◌-◌, ◌++◌, All, drop, length, map}
use Rattle.std.specs.List.{flat_map}
use Rattle.snapshot_store.specs.Snapshots.{RecordFits, record_bytes}
use Rattle.snapshot_store.specs.Views.{record_of}
use Rattle.snapshot_store.proofs.reading.records_at.Given as goal

abbrev pub invariant-records : goal.invariant-records
invariant-records l = record {
  so_far : drop l.fn.at l.bytes ≡ flat_map record_bytes (map record_of l.records.items) ++ drop l.at l.bytes;
  fit : All RecordFits (map record_of l.records.items);
  few : length l.records.items ≤ l.count;
  place : l.at ≤ length l.bytes;
}

abbrev pub decreases-records : goal.decreases-records
decreases-records l = l.count - length l.records.items
