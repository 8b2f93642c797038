use Rattle.std.proofs.Common.{arith, ap, length, subst, ◌∙◌, ◌≡◌, ◌-◌}
use Rattle.std.proofs.lemmas.Result.{IfOk-weaker}
use Rattle.std.specs.Vec.{vec_len}
use Rattle.wa_types.specs.Syntax.{Code, done}
use Rattle.wa_types.specs.View.{code}
use Rattle.local_spill.specs.Spilling.{restoring, saving, spill_indices}
use Rattle.local_spill.proofs.PutLemmas.{whole}
use Rattle.func_rewrite.specs.Bodies.{IsSlimBody}
use Rattle.func_rewrite.proofs.body.written_body.Goals as goal

pub returns : goal.returns
returns c =
    let ids = c.args.ids.now in
    let l = c.args.frame.now in
    let v = c.args.flat.now in
    let n = length v.func.locals.items in
    let long : vec_len v.func.locals ≡ n = let k = v.func.locals.ok in omega arith in
    let base = c.len-base.ensures ∙ long in
    let restored = whole c.in_ok-restored.restored.items (restoring (spill_indices n ids) (l.size - 4) l.places.items)
    (λ k. c.in_ok-restored.ensures k ∙ ap (λ x. restoring (spill_indices x ids) (l.size - 4) l.places.items k) base) in
    let saved = whole c.in_ok-saved.saved.items (saving (spill_indices n ids) (l.size - 4) l.places.items)
    (λ k. c.in_ok-saved.ensures k ∙ ap (λ x. saving (spill_indices x ids) (l.size - 4) l.places.items k) base) in
    IfOk-weaker c.body_around.result _ _
    (λ b h m f is.
    subst (λ (r : Code). IsSlimBody m c.args.numbers.now ids.state v.func.func f r (saving (spill_indices n ids) (l.size - 4) l.places.items done) (code b.items)) restored
    (subst (λ (s : Code). IsSlimBody m c.args.numbers.now ids.state v.func.func f (code c.in_ok-restored.restored.items) s (code b.items)) saved (h m f is)))
    c.body_around.ensures
