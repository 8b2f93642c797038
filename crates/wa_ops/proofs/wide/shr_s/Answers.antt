use Rattle.std.proofs.Common.{◌≡◌, ◌%◌, ◌∙◌, ap, arith, rules}
use Rattle.std.specs.Prelude.{ℤ, FitsSigned}
use Rattle.std.specs.Int.{w64, cast_unsigned, int_shr}
use Rattle.std.proofs.lemmas.Int.{to_z-of_z}
use Rattle.wa_ops.proofs.Shifts.{shr_s_64}
use Rattle.wa_ops.proofs.wide.shr_s.Goals as goal

pub returns : goal.returns
returns c =
    let before : FitsSigned w64 c.cast_signed.result = search rules in
    let after : FitsSigned w64 c.wrapping_shr.result = search rules in
    let places : c.args.j % 64 % 64 ≡ c.args.j % 64 = omega arith in
    c.cast_unsigned.ensures
    ∙ ap (cast_unsigned w64) (to_z-of_z w64 c.wrapping_shr.result after ∙ c.wrapping_shr.ensures)
    ∙ ap (λ (z : ℤ). cast_unsigned w64 (int_shr z (c.args.j % 64 % 64))) (to_z-of_z w64 c.cast_signed.result before ∙ c.cast_signed.ensures)
    ∙ rw places (shr_s_64 c.args.i (c.args.j % 64) (omega arith) (omega arith))
