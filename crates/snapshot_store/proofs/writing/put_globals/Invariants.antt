use Rattle.std.proofs.Common.{◌≡◌, ◌++◌, length, take, All}
use Rattle.std.specs.List.{flat_map}
use Rattle.wa_types.specs.Memory.{bytes_of}
use Rattle.wa_types.specs.Sizes.{value_fits}
use Rattle.snapshot_store.specs.Snapshots.{global_bytes}
use Rattle.snapshot_store.proofs.writing.put_globals.Given as goal

abbrev pub invariant-loop-value : goal.invariant-loop-value
invariant-loop-value l = record {
  puts : l.out.items ≡ l.fn.out.items ++ (bytes_of 4 (length l.globals) ++ flat_map global_bytes (take l.value-index l.globals));
  fits : All value_fits (take l.value-index l.globals);
}
