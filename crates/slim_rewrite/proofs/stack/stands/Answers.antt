use Rattle.std.proofs.Common.{◌∙◌, ◌<◌, length, sym, arith}
use Rattle.slim_rewrite.proofs.StackLemmas.{get_any, slot_low, stands_is, stands_not}
use Rattle.slim_rewrite.proofs.stack.stands.Goals as goal

pub returns-then-place-len : goal.returns-then-place-len
returns-then-place-len c = sym (
    stands_not c.args.at.now c.args.x c.index-place.result.now c.requires.good
    (c.index-place.ensures ∙ get_any c.args.at.now.places.items _ _ 0 (slot_low c.args.at.now c.args.x c.requires.slot).1)
    (λ lt. let l = c.len.ensures in let n = c.args.at.now.stack.ok.0 in let h = c.if-place-len.true in absurd (omega arith)))

pub returns : goal.returns
returns c =
    let lt : c.index-place.result.now < length c.args.at.now.stack.items = let l = c.len.ensures in let n = c.args.at.now.stack.ok.0 in let h = c.if-place-len.false in omega arith in
    stands_is c.args.at.now c.args.x c.index-place.result.now c.index.result.now c.requires.good
    (c.index-place.ensures ∙ get_any c.args.at.now.places.items _ _ 0 (slot_low c.args.at.now c.args.x c.requires.slot).1) lt
    (c.index.ensures ∙ get_any c.args.at.now.stack.items _ _ 0 lt)
