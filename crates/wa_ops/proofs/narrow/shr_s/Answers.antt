use Rattle.std.proofs.Common.{◌%◌, ◌∙◌, ap, arith, rules}
use Rattle.std.specs.Prelude.{ℤ, FitsSigned}
use Rattle.std.specs.Int.{w32, cast_unsigned, int_shr}
use Rattle.std.proofs.lemmas.Int.{to_z-of_z}
use Rattle.wa_ops.proofs.Shifts.{shr_s_32}
use Rattle.wa_ops.proofs.narrow.shr_s.Goals as goal

pub returns : goal.returns
returns c =
    let before : FitsSigned w32 c.cast_signed.result = search rules in
    let after : FitsSigned w32 c.wrapping_shr.result = search rules in
    c.cast_unsigned.ensures
    ∙ ap (cast_unsigned w32) (to_z-of_z w32 c.wrapping_shr.result after ∙ c.wrapping_shr.ensures)
    ∙ ap (λ (z : ℤ). cast_unsigned w32 (int_shr z (c.args.j % 32))) (to_z-of_z w32 c.cast_signed.result before ∙ c.cast_signed.ensures)
    ∙ shr_s_32 c.args.i (c.args.j % 32) (omega arith) (omega arith)
