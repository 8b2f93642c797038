use Rattle.std.proofs.Common.{[], ◌∷◌}
use Rattle.std.proofs.lemmas.Result.{err_from_is_err_and}
use Rattle.wa_types.specs.Encoding.{mutable_byte}
use Rattle.wa_types.specs.Spells.{◌▸◌, Exactly}
use Rattle.wasm_build.proofs.Steps.{start, step, last, stop, stop_last}
use Rattle.wasm_build.proofs.EntryParts.{SpelledType, global_parts}
use Rattle.wasm_build.proofs.types.global_type.Goals as goal

pub returns-in_err-ty-clause-built : goal.returns-in_err-ty-clause-built
returns-in_err-ty-clause-built c =
    let p = err_from_is_err_and c.from_residual.result c.from_residual.ensures.1 in
    stop (λ g. g.0) (λ g. Exactly (mutable_byte g.1 ∷ [])) p.1 p.2 c.in_err-ty.ensures.built (start (λ g. SpelledType g.0 ▸ Exactly (mutable_byte g.1 ∷ [])) _ global_parts)

pub returns-in_err-mutable-clause-built : goal.returns-in_err-mutable-clause-built
returns-in_err-mutable-clause-built c =
    let p = err_from_is_err_and c.from_residual-in_err-mutable.result c.from_residual-in_err-mutable.ensures.1 in
    stop_last (λ g. g.1) p.1 p.2 c.in_err-mutable.ensures.built (step (λ g. g.0) (λ g. Exactly (mutable_byte g.1 ∷ [])) c.in_ok-ty.ensures.built
    (start (λ g. SpelledType g.0 ▸ Exactly (mutable_byte g.1 ∷ [])) _ global_parts))

pub returns-clause-built : goal.returns-clause-built
returns-clause-built c =
    last (λ g. g) _ (λ g. g.1) c.in_ok-mutable.ensures.built (λ g k e i. (k.1 i, e i))
    (step (λ g. g.0) (λ g. Exactly (mutable_byte g.1 ∷ [])) c.in_ok-ty.ensures.built (start (λ g. SpelledType g.0 ▸ Exactly (mutable_byte g.1 ∷ [])) _ global_parts))
