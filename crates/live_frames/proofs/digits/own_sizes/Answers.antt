use Rattle.std.proofs.Common.{◌≤◌, ℕ, ◌+◌, get_or, length, take, ap, ◌∙◌, arith, refl, subst, sym}
use Rattle.std.proofs.lemmas.List.{length-replicate, take_all}
use Rattle.call_frames.specs.PlainFrames.{weight_at, weights_end}
use Rattle.call_frames.specs.declared.frames.KeptPart.{KeptPart}
use Rattle.call_frames.specs.Classes.{part_fields}
use Rattle.call_frames.specs.Views.{part_view}
use Rattle.live_frames.specs.Digits.{no_size}
use Rattle.live_frames.specs.Ends.{Added}
use Rattle.live_frames.proofs.DigitSteps.{sums_begin}
use Rattle.live_frames.proofs.EndSteps.{added_begin, added_end, added_same}
use Rattle.live_frames.proofs.FieldSteps.{few_at}
use Rattle.live_frames.proofs.WeightSteps.{at_split, part_end_within, weights_in, weights_more, weights_of}
use Rattle.live_frames.proofs.digits.own_sizes.Goals as goal

pub loop-number-init : goal.loop-number-init
loop-number-init c =
    let none : ℕ → ℕ = λ k. weight_at k (weights_in (take 0 c.args.parts.now)) in (
      ap length c.in_ok-sizes.ensures ∙ length-replicate c.args.end no_size,
      ap length c.in_ok-ends.ensures ∙ length-replicate (c.args.end + 1) 0,
      added_begin none c.in_ok-sizes.sizes.items c.in_ok-ends.ends.items (c.args.end + 1) c.in_ok-ends.ensures (λ k. refl)
          (sums_begin none c.in_ok-sizes.sizes.items c.args.end c.in_ok-sizes.ensures (λ k. refl)),
    )

pub add_part-requires-clause-few : goal.add_part-requires-clause-few
add_part-requires-clause-few c =
    subst (λ (p : KeptPart). part_fields (part_view p) ≤ 50000) (sym c.index-parts-number.is)
    (few_at c.args.parts.now c.loop-number.number c.index-parts-number.result c.requires.few.each c.loop-number-test.true)

pub add_part-requires-clause-sizes : goal.add_part-requires-clause-sizes
add_part-requires-clause-sizes c =
    let d = c.index-parts-number.result in
    let e = ap (λ (p : KeptPart). weights_end (weights_of p)) c.index-parts-number.is in
    let w = part_end_within c.args.parts.now c.loop-number.number d c.loop-number-test.true in
    omega (arith, e, w, c.requires.end, c.loop-number.invariant.0)

pub add_part-requires-clause-ends : goal.add_part-requires-clause-ends
add_part-requires-clause-ends c =
    let d = c.index-parts-number.result in
    let e = ap (λ (p : KeptPart). weights_end (weights_of p)) c.index-parts-number.is in
    let w = part_end_within c.args.parts.now c.loop-number.number d c.loop-number-test.true in
    omega (arith, e, w, c.requires.end, c.loop-number.invariant.1)

pub loop-number-preserved : goal.loop-number-preserved
loop-number-preserved c =
    let xs = c.args.parts.now in
    let i = c.loop-number.number in
    let d = c.index-parts-number.result in
    let before : ℕ → ℕ = λ k. weight_at k (weights_in (take i xs)) in (
      c.add_part.ensures.sizes ∙ c.loop-number.invariant.0,
      c.add_part.ensures.ends ∙ c.loop-number.invariant.1,
      added_same (λ k. before k + weight_at k (weights_of d)) (λ k. weight_at k (weights_in (take (i + 1) xs))) (i + 1) (i + 1) c.add_part.new.sizes.items c.add_part.new.ends.items
          (λ k. ap (λ p. before k + weight_at k (weights_of p)) c.index-parts-number.is ∙ sym (at_split k (weights_in (take i xs)) (weights_of (get_or xs i d)))
          ∙ ap (weight_at k) (sym (weights_more xs i d c.loop-number-test.true))) (omega arith) (c.add_part.ensures.added before i (omega arith) c.loop-number.invariant.2),
    )

pub sum_up-requires : goal.sum_up-requires
sum_up-requires c = let e = ap length c.deref.ensures.value in omega (arith, e, c.loop-number.invariant.0, c.loop-number.invariant.1)

pub returns-clause-length : goal.returns-clause-length
returns-clause-length c = c.sum_up.ensures.length ∙ c.loop-number.invariant.0

pub returns-clause-sizes : goal.returns-clause-sizes
returns-clause-sizes c = λ k lt.
    let n = c.loop-number.number in
    let xs = c.args.parts.now in
    added_end (λ j. weight_at j (weights_in (take n xs))) (λ j. weight_at j (weights_in xs)) n c.loop-number.sizes.items c.sum_up.new.sizes.items c.deref.result.now k
    (ap (λ ps. weight_at k (weights_in ps)) (take_all n xs (omega (arith, c.loop-number-test.false)))) (c.sum_up.ensures.sums k (omega (arith, lt, c.loop-number.invariant.0)))
    (subst (Added (λ j. weight_at j (weights_in (take n xs))) n c.loop-number.sizes.items) (sym c.deref.ensures.value) c.loop-number.invariant.2)
