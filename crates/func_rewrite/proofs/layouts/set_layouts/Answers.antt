use Rattle.std.proofs.Common.{arith, ap, length, subst, sym, ◌∙◌, ◌≡◌}
use Rattle.std.specs.Prelude.{Bool, Vec}
use Rattle.std.specs.declared.alloc.Global.{Global}
use Rattle.local_spill.specs.Laying.{SizedAsSaved, in_a_row}
use Rattle.func_rewrite.specs.Layouts.{IsSetFrame}
use Rattle.func_rewrite.proofs.LayoutSteps.{frames_end, frames_step, places_few, set_frame}
use Rattle.func_rewrite.proofs.layouts.set_layouts.Goals as goal

pub set_places-requires-clause-size : goal.set_places-requires-clause-size
set_places-requires-clause-size c =
    ap length c.deref.ensures.value
    ∙ subst (λ (v : Vec Bool Global). length v.items ≡ length c.args.locals.now) (sym c.index-sets-index.is)
    (c.requires.sizes c.loop-index.index c.index-sets-index.result (omega (arith, c.loop-index-test.true)))

pub layout-requires : goal.layout-requires
layout-requires c =
    let e = ap length c.deref-in-loop-index.ensures.value in
    let k = places_few c.in_ok-saved.saved.items c.deref.result.now c.args.locals.now c.in_ok-saved.ensures c.requires.few in omega (arith, e, k)

pub loop-index-preserved : goal.loop-index-preserved
loop-index-preserved c =
    let i = c.loop-index.index in
    let l = c.in_ok-layout.field-0 in
    let set = c.deref.ensures.value ∙ ap (λ (v : Vec Bool Global). v.items) c.index-sets-index.is in
    let frame = set_frame c.args.locals.now c.deref.result.now i l c.in_ok-saved.saved.items c.in_ok-saved.ensures c.in_ok-layout.ensures.index
    (c.in_ok-layout.ensures.places ∙ ap (in_a_row 0) c.deref-in-loop-index.ensures.value) (subst (λ ps. SizedAsSaved ps l.size) c.deref-in-loop-index.ensures.value c.in_ok-layout.ensures.saved) in
    frames_step c.args.locals.now c.args.sets.now c.loop-index.layouts.items c.push.new.self.items i c.index-sets-index.result l (omega (arith, c.loop-index-test.true)) c.in_ok-push.ensures.items
    (subst (λ s. IsSetFrame c.args.locals.now s i l) set frame) c.loop-index.invariant

pub returns : goal.returns
returns c = frames_end c.args.locals.now c.args.sets.now c.loop-index.layouts.items c.loop-index.index (omega (arith, c.loop-index-test.false)) c.loop-index.invariant
