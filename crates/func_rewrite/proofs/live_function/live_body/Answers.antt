use Rattle.std.proofs.Common.{arith, ap, length, subst, ◌∙◌, ◌≡◌}
use Rattle.std.proofs.lemmas.Result.{IfOk-weaker}
use Rattle.std.specs.Vec.{vec_len}
use Rattle.wa_types.specs.Syntax.{Code, done}
use Rattle.wa_types.specs.View.{code}
use Rattle.local_spill.proofs.PutLemmas.{whole}
use Rattle.call_frames.specs.FrameParts.{restoring_by_call, saving_by_call}
use Rattle.call_frames.specs.PlainFrames.{frames_of}
use Rattle.call_frames.specs.Views.{told_frames}
use Rattle.func_rewrite.specs.Bodies.{IsSlimBody}
use Rattle.func_rewrite.proofs.live_function.live_body.Goals as goal

pub returns : goal.returns
returns c =
    let ids = c.args.ids.now in
    let v = c.args.flat.now in
    let ls = v.func.locals in
    let parts = c.args.parts.now in
    let long : vec_len ls ≡ length ls.items = let k = ls.ok in omega arith in
    let base = c.len-base.ensures ∙ long in
    IfOk-weaker c.body_around.result _ _
    (λ b h m f count is.
    let told = told_frames count (length ls.items) ids.address parts in
    let restored = whole c.in_ok-restored.restored.items (λ k. restoring_by_call (frames_of told) k)
    (λ k. c.in_ok-restored.ensures count k ∙ ap (λ n. restoring_by_call (frames_of (told_frames count n ids.address parts)) k) base) in
    let saved = whole c.in_ok-saved.saved.items (λ k. saving_by_call (frames_of told) k)
    (λ k. c.in_ok-saved.ensures count k ∙ ap (λ n. saving_by_call (frames_of (told_frames count n ids.address parts)) k) base) in
    subst (λ (r : Code). IsSlimBody m c.args.numbers.now ids.state v.func.func f r (saving_by_call (frames_of told) done) (code b.items)) restored
    (subst (λ (s : Code). IsSlimBody m c.args.numbers.now ids.state v.func.func f (code c.in_ok-restored.restored.items) s (code b.items)) saved (h m f is)))
    c.body_around.ensures
