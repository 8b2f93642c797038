use Rattle.std.proofs.Common.{◌≡◌, ◌++◌, drop}
use Rattle.std.specs.List.{flat_map}
use Rattle.wa_types.specs.Encoding.{vector}
use Rattle.wasm_encode.proofs.entry.put_vector.Given as goal

abbrev pub invariant-loop-item : goal.invariant-loop-item
invariant-loop-item g l = l.out.items ++ flat_map g.E.Entry.bytes (drop l.item-index l.items) ≡ l.fn.out.items ++ vector g.E.Entry.bytes l.items
