use Rattle.std.proofs.Common.{◌≡◌, All, map, take}
use Rattle.snapshot_store.specs.Views.{record_of}
use Rattle.many_host.specs.Saving.{HasItsPages, records_for}
use Rattle.many_host.proofs.saving.saved_records.Given as goal

-- those of the programs so far
abbrev pub invariant-loop-i : goal.invariant-loop-i
invariant-loop-i l = record {
  so_far : map record_of l.records.items ≡ records_for (take l.i l.dues) (take l.i l.programs);
  pages : All HasItsPages (map record_of l.records.items);
}
