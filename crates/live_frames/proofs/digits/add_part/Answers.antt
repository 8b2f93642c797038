use Rattle.std.proofs.Common.{List, [], ◌∷◌, ◌+◌, ap, arith, ◌≡◌, ◌∙◌, sym}
use Rattle.std.specs.Prelude.{if◌then◌else◌}
use Rattle.frame_laws.specs.Layout.{fields_size}
use Rattle.call_frames.specs.CallRows.{numbers_in, row_views}
use Rattle.call_frames.specs.PlainFrames.{is_one_of, weight_at, WeighedCalls}
use Rattle.call_frames.specs.Views.{fields_of}
use Rattle.live_frames.proofs.EndSteps.{added_same}
use Rattle.live_frames.proofs.WeightSteps.{weights_of}
use Rattle.live_frames.proofs.digits.add_part.Goals as goal

pub returns-in-Every-clause-added : goal.returns-in-Every-clause-added
returns-in-Every-clause-added c = λ sums last lt h.
    added_same sums (λ k. sums k + weight_at k (weights_of c.args.part.now)) last c.args.number c.args.sizes.now.items c.args.ends.now.items
    (λ k. let z : sums k ≡ sums k + 0 = omega arith in z ∙ ap (λ p. sums k + weight_at k (weights_of p)) (sym c.in-Every.is)) (omega (arith, lt)) h

pub returns-in-These-clause-added : goal.returns-in-These-clause-added
returns-in-These-clause-added c = λ sums last lt h.
    let calls = numbers_in (row_views c.rows.result.now) in
    let bytes = c.size_of.result in
    let size = c.size_of.ensures.size ∙ ap (λ fs. fields_size (fields_of fs)) c.deref.ensures.value in
    let are = ap weights_of c.in-These.is ∙ ap (λ ks. record { calls = ks; bytes = fields_size (fields_of c.in-These.class.fields.items) } ∷ []) c.rows.ensures.numbers
    ∙ ap (λ n. record { calls = calls; bytes = n } ∷ []) (sym size) in
    added_same (λ k. sums k + (if is_one_of calls k then bytes else 0)) (λ k. sums k + weight_at k (weights_of c.args.part.now)) c.args.number c.args.number c.add_rows.new.sizes.items
    c.add_rows.new.ends.items
    (λ k. let z : sums k + (if is_one_of calls k then bytes else 0) ≡ sums k + ((if is_one_of calls k then bytes else 0) + 0) = omega arith in
    z ∙ ap (λ (ws : List WeighedCalls). sums k + weight_at k ws) (sym are)) (omega arith) (c.add_rows.ensures.added sums last lt h)
