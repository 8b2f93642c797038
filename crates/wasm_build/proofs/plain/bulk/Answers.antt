use Rattle.std.proofs.Common.{[], ◌∷◌, arith}
use Rattle.std.proofs.lemmas.Result.{err_from_is_err_and}
use Rattle.wa_types.specs.Spells.{◌▸◌, Exactly}
use Rattle.wasm_build.proofs.Steps.{step_passed, stop_passed}
use Rattle.wasm_build.proofs.PlainParts.{copy_start, fill_start, copy_built, fill_built, never_bulk}
use Rattle.wasm_build.proofs.plain.bulk.Goals as goal

pub returns-in_err-tag-in-10-clause-built : goal.returns-in_err-tag-in-10-clause-built
returns-in_err-tag-in-10-clause-built c op e =
    let p = err_from_is_err_and c.from_residual-in_err-tag-in-10.result c.from_residual-in_err-tag-in-10.ensures.1 in
    stop_passed (λ c. Exactly (0x00 ∷ []) ▸ Exactly []) p.1 c.in_err-tag-in-10.ensures.passed (copy_start op _ _ _ e c.in_ok-number.ensures.read c.in-10.is)

pub returns-in_err-tag-in-10-2-clause-built : goal.returns-in_err-tag-in-10-2-clause-built
returns-in_err-tag-in-10-2-clause-built c op e =
    let p = err_from_is_err_and c.from_residual-in_err-tag-in-10-2.result c.from_residual-in_err-tag-in-10-2.ensures.1 in
    stop_passed (λ c. Exactly []) p.1 c.in_err-tag-in-10-2.ensures.passed (step_passed (λ c. Exactly (0x00 ∷ []) ▸ Exactly []) c.in_ok-tag-in-10.ensures.passed
    (copy_start op _ _ _ e c.in_ok-number.ensures.read c.in-10.is))

pub returns-in_err-tag-in-11-clause-built : goal.returns-in_err-tag-in-11-clause-built
returns-in_err-tag-in-11-clause-built c op e =
    let p = err_from_is_err_and c.from_residual-in_err-tag-in-11.result c.from_residual-in_err-tag-in-11.ensures.1 in
    stop_passed (λ c. Exactly []) p.1 c.in_err-tag-in-11.ensures.passed (fill_start op _ _ _ e c.in_ok-number.ensures.read c.in-11.is)

pub returns-in_ok-tag-in-10-2-clause-built : goal.returns-in_ok-tag-in-10-2-clause-built
returns-in_ok-tag-in-10-2-clause-built c op e =
    copy_built op _ _ _ _ _ _ _ e c.in_ok-number.ensures.read c.in-10.is c.in_ok-tag-in-10.ensures.passed c.in_ok-tag-in-10-2.ensures.passed

pub returns-in_ok-tag-in-11-clause-built : goal.returns-in_ok-tag-in-11-clause-built
returns-in_ok-tag-in-11-clause-built c op e = fill_built op _ _ _ _ _ e c.in_ok-number.ensures.read c.in-11.is c.in_ok-tag-in-11.ensures.passed

pub returns-in_default-clause-built : goal.returns-in_default-clause-built
returns-in_default-clause-built c op e =
    never_bulk op _ _ _ _ _ e c.in_ok-number.ensures.read (λ f. omega (arith, f)) (λ f. omega (arith, f))
