use Rattle.std.proofs.Common.{◌++◌, ◌∙◌, ap, append_assoc, length}
use Rattle.std.specs.List.{flat_map}
use Rattle.leb_numbers.specs.Leb.{shortest}
use Rattle.wa_types.specs.Encoding.{vector}
use Rattle.wasm_encode.proofs.Vectors.{put_none, put_step}
use Rattle.wasm_encode.proofs.entry.put_vector.Goals as goal

pub loop-item-init : goal.loop-item-init
loop-item-init g c =
    let xs = c.args.items.now in
    ap (λ s. s ++ flat_map g.E.Entry.bytes xs) c.in_ok-put_unsigned.ensures ∙ append_assoc c.args.out.now.items (shortest (length xs)) (flat_map g.E.Entry.bytes xs)

pub loop-item-preserved : goal.loop-item-preserved
loop-item-preserved g c =
    put_step g.E.Entry.bytes c.args.items.now c.loop-item.item-index c.item-item.result c.loop-item.out.items c.put.new.out.items
    (c.args.out.now.items ++ vector g.E.Entry.bytes c.args.items.now) c.loop-item-test.true c.item-item.is c.in_ok-put.ensures c.loop-item.invariant

pub returns : goal.returns
returns g c =
    put_none g.E.Entry.bytes c.args.items.now c.loop-item.item-index c.loop-item.out.items (c.args.out.now.items ++ vector g.E.Entry.bytes c.args.items.now) c.loop-item-test.false
    c.loop-item.invariant
