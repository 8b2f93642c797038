use Rattle.std.proofs.Common.{ℕ, Bool, false, get_or, ◌+◌, ◌-◌, ◌*◌, arith, refl}
use Rattle.live_frames.proofs.WordSteps.{bits_below, bits_last, bits_next, half_below}
use Rattle.live_frames.proofs.words.word_from.Goals as goal

pub overflow_mul-bits : goal.overflow_mul-bits
overflow_mul-bits c =
    let left = c.loop-left.left in
    let h = half_below (λ j. get_or c.args.told.now j false) (64 * c.args.number + left) (64 - left) c.loop-left.bits (omega (arith, c.loop-left-test.true)) c.loop-left.invariant.1 in omega (arith, h)

pub overflow_add-bits : goal.overflow_add-bits
overflow_add-bits c =
    let left = c.loop-left.left in
    let first = 64 * c.args.number in
    let f : ℕ → Bool = λ j. get_or c.args.told.now j false in
    let n = bits_next f first left c.loop-left.bits c.bit.result (f (first + (left - 1))) (omega (arith, c.loop-left-test.true)) c.loop-left.invariant.0 c.loop-left.invariant.1 refl c.bit.ensures in
    let h = bits_below f (first + (left - 1)) (64 - (left - 1)) (2 * c.loop-left.bits + c.bit.result) (omega arith) n in omega (arith, h)

pub loop-left-preserved : goal.loop-left-preserved
loop-left-preserved c =
    let left = c.loop-left.left in
    let first = 64 * c.args.number in
    let f : ℕ → Bool = λ j. get_or c.args.told.now j false in (
      omega (arith, c.loop-left.invariant.0),
      bits_next f first left c.loop-left.bits c.bit.result (f (first + (left - 1))) (omega (arith, c.loop-left-test.true)) c.loop-left.invariant.0 c.loop-left.invariant.1 refl c.bit.ensures,
    )

pub returns : goal.returns
returns c = bits_last (λ j. get_or c.args.told.now j false) c.args.number c.loop-left.left c.loop-left.bits (omega (arith, c.loop-left-test.false)) c.loop-left.invariant.1
