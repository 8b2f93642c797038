use Rattle.std.proofs.Common.{◌≡◌, ◌+◌, arith, length, length-append}
use Rattle.std.specs.List.{flat_map}
use Rattle.leb_numbers.specs.Leb.{shortest}
use Rattle.wa_types.specs.Encoding.{vector}
use Rattle.wasm_encode.proofs.Vectors.{entry_le, entry_length, entry_none_length}
use Rattle.wasm_encode.proofs.entry.vector_len.Goals as goal

pub loop-item-init : goal.loop-item-init
loop-item-init g c =
    let xs = c.args.items.now in
    let whole : length (vector g.E.Entry.bytes xs) ≡ length (shortest (length xs)) + length (flat_map g.E.Entry.bytes xs) = length-append (shortest (length xs)) _ in
    let sum : c.unsigned_len-len.result + length (flat_map g.E.Entry.bytes xs) ≡ length (vector g.E.Entry.bytes xs) = omega (arith, whole, c.unsigned_len-len.ensures.exact) in
    sum

pub size-len-requires-clause-few : goal.size-len-requires-clause-few
size-len-requires-clause-few g c =
    omega (arith, entry_le g.E.Entry.bytes c.args.items.now c.loop-item.item-index c.item-item.result c.loop-item-test.true c.item-item.is, c.requires.few)

pub overflow_add-len : goal.overflow_add-len
overflow_add-len g c =
    let step = entry_length g.E.Entry.bytes c.args.items.now c.loop-item.item-index c.item-item.result c.loop-item-test.true c.item-item.is in
    omega (arith, step, c.loop-item.invariant, c.size-len.ensures, c.requires.few)

pub loop-item-preserved : goal.loop-item-preserved
loop-item-preserved g c =
    let step = entry_length g.E.Entry.bytes c.args.items.now c.loop-item.item-index c.item-item.result c.loop-item-test.true c.item-item.is in
    omega (arith, step, c.loop-item.invariant, c.size-len.ensures)

pub returns : goal.returns
returns g c =
    omega (arith, entry_none_length g.E.Entry.bytes c.args.items.now c.loop-item.item-index c.loop-item-test.false, c.loop-item.invariant)
