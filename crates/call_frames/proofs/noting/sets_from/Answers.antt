use Rattle.std.proofs.Common.{◌∙◌, arith, length, nat_eq, refl, sym, subst, []}
use Rattle.std.specs.List.{list_any}
use Rattle.std.proofs.lemmas.List.{get_or_default}
use Rattle.call_frames.specs.Classes.{Noted}
use Rattle.call_frames.proofs.NotedSets.{below_first, below_next, made_again}
use Rattle.call_frames.proofs.noting.sets_from.Goals as goal

pub loop-local-init : goal.loop-local-init
loop-local-init c = below_first c.args.keepers.now c.args.count (length c.args.keepers.now) c.in_ok-sets.sets.items refl c.in_ok-sets.ensures.size c.in_ok-sets.ensures.each

pub note_rows-requires : goal.note_rows-requires
note_rows-requires c = (length c.args.keepers.now, c.loop-local-test.true, c.loop-local.invariant.sized)

pub loop-local-preserved : goal.loop-local-preserved
loop-local-preserved c =
    let kss = c.args.keepers.now in
    let local = c.loop-local.local in
    let ks = c.index-keepers-local.result in
    below_next kss c.args.count local ks c.loop-local.sets.items c.note_rows.new.sets.items
    (c.index-keepers-local.is ∙ get_or_default kss local ks [] c.loop-local-test.true) c.loop-local.invariant
    (subst (λ js. Noted (λ k. list_any (nat_eq k) js) local c.loop-local.sets.items c.note_rows.new.sets.items) (sym c.rows.ensures.numbers) c.note_rows.ensures)

pub returns : goal.returns
returns c = made_again c.args.keepers.now c.args.count c.loop-local.local c.loop-local.sets.items (omega (arith, c.loop-local-test.false)) c.loop-local.invariant
