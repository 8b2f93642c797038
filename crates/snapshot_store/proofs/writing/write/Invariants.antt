use Rattle.std.proofs.Common.{◌≡◌, ◌++◌, length, map, take, codes, All, ◌<◌, ◌^◌}
use Rattle.std.specs.List.{flat_map}
use Rattle.wa_types.specs.Memory.{bytes_of}
use Rattle.snapshot_store.specs.Snapshots.{RecordFits, record_bytes}
use Rattle.snapshot_store.specs.Views.{record_of}
use Rattle.snapshot_store.proofs.writing.write.Given as goal

abbrev pub invariant-loop-program : goal.invariant-loop-program
invariant-loop-program l = record {
  puts : l.out.items ≡ codes "ASYNCS01" ++ (bytes_of 8 l.snap.events ++ (bytes_of 4 (length l.snap.programs.items) ++ flat_map record_bytes (map record_of (take l.program-index l.snap.programs.items))));
  fits : All RecordFits (map record_of (take l.program-index l.snap.programs.items));
  events : l.snap.events < 2 ^ 64;
}
