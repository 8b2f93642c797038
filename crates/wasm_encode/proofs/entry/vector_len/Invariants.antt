use Rattle.std.proofs.Common.{◌≡◌, ◌+◌, length, drop}
use Rattle.std.specs.List.{flat_map}
use Rattle.wa_types.specs.Encoding.{vector}
use Rattle.wasm_encode.proofs.entry.vector_len.Given as goal

abbrev pub invariant-loop-item : goal.invariant-loop-item
invariant-loop-item g l = l.len + length (flat_map g.E.Entry.bytes (drop l.item-index l.items)) ≡ length (vector g.E.Entry.bytes l.items)
