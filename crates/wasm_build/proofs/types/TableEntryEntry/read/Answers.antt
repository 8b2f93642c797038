use Rattle.std.proofs.Common.{[], ◌∷◌}
use Rattle.std.proofs.lemmas.Result.{err_from_is_err_and}
use Rattle.wa_types.specs.Spells.{◌▸◌, Exactly, LimitsOf}
use Rattle.wasm_build.proofs.Steps.{start, step_passed, stop_passed, hand_on}
use Rattle.wasm_build.proofs.types.TableEntryEntry.read.Goals as goal

pub returns-in_err-tag-clause-built : goal.returns-in_err-tag-clause-built
returns-in_err-tag-clause-built c =
    let p = err_from_is_err_and c.from_residual.result c.from_residual.ensures.1 in
    stop_passed LimitsOf p.1 c.in_err-tag.ensures.passed (start (λ l. Exactly (0x70 ∷ []) ▸ LimitsOf l) _ (λ l at bytes h. h))

pub returns-clause-built : goal.returns-clause-built
returns-clause-built c = hand_on c.read.ensures.built (step_passed LimitsOf c.in_ok-tag.ensures.passed (start (λ l. Exactly (0x70 ∷ []) ▸ LimitsOf l) _ (λ l at bytes h. h)))
