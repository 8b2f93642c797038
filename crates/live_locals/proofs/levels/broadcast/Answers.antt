use Rattle.std.proofs.Common.{◌∙◌, ap, false, get_or, refl}
use Rattle.std.proofs.lemmas.List.{take_all}
use Rattle.live_locals.specs.Words.{world}
use Rattle.live_locals.proofs.LevelLemmas.{cast_more}
use Rattle.live_locals.proofs.levels.broadcast.Goals as goal

pub loop-told-init : goal.loop-told-init
loop-told-init c = λ i il. ap (world i) c.in_ok-words.ensures.items

pub loop-told-preserved : goal.loop-told-preserved
loop-told-preserved c = λ i il. ap (world i) c.in_ok-push.ensures.items
    ∙ cast_more i c.loop-told.words.items c.everywhere.result c.args.set.now c.loop-told.told-index (get_or c.args.set.now c.loop-told.told-index false) (c.loop-told.invariant i il)
    c.loop-told-test.true refl (c.everywhere.ensures i il)

pub returns : goal.returns
returns c = λ i il. c.loop-told.invariant i il ∙ take_all c.loop-told.told-index c.args.set.now c.loop-told-test.false
