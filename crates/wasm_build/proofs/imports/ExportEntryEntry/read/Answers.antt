use Rattle.std.proofs.Common.{[], ◌∷◌}
use Rattle.std.proofs.lemmas.Result.{err_from_is_err_and}
use Rattle.wa_types.specs.Encoding.{space_byte}
use Rattle.wa_types.specs.Spells.{◌▸◌, Exactly, Number, Text}
use Rattle.wasm_build.proofs.Steps.{start, step, stop, last_number, stop_last_number}
use Rattle.wasm_build.proofs.imports.ExportEntryEntry.read.Goals as goal

pub returns-in_err-name-clause-built : goal.returns-in_err-name-clause-built
returns-in_err-name-clause-built c =
    let p = err_from_is_err_and c.from_residual.result c.from_residual.ensures.1 in
    stop (λ e. e.name) (λ e. Exactly (space_byte e.space ∷ []) ▸ Number e.index) p.1 p.2 c.in_err-name.ensures.built
    (start (λ e. Text e.name ▸ (Exactly (space_byte e.space ∷ []) ▸ Number e.index)) _ (λ e at bytes h. h))

pub returns-in_err-space-clause-built : goal.returns-in_err-space-clause-built
returns-in_err-space-clause-built c =
    let p = err_from_is_err_and c.from_residual-in_err-space.result c.from_residual-in_err-space.ensures.1 in
    stop (λ e. e.space) (λ e. Number e.index) p.1 p.2 c.in_err-space.ensures.built (step (λ e. e.name) (λ e. Exactly (space_byte e.space ∷ []) ▸ Number e.index) c.in_ok-name.ensures.built
    (start (λ e. Text e.name ▸ (Exactly (space_byte e.space ∷ []) ▸ Number e.index)) _ (λ e at bytes h. h)))

pub returns-in_err-index-clause-built : goal.returns-in_err-index-clause-built
returns-in_err-index-clause-built c =
    let p = err_from_is_err_and c.from_residual-in_err-index.result c.from_residual-in_err-index.ensures.1 in
    stop_last_number (λ e. e.index) p.1 c.in_err-index.ensures.read (step (λ e. e.space) (λ e. Number e.index) c.in_ok-space.ensures.built
    (step (λ e. e.name) (λ e. Exactly (space_byte e.space ∷ []) ▸ Number e.index) c.in_ok-name.ensures.built
    (start (λ e. Text e.name ▸ (Exactly (space_byte e.space ∷ []) ▸ Number e.index)) _ (λ e at bytes h. h))))

pub returns-clause-built : goal.returns-clause-built
returns-clause-built c =
    last_number (λ e. e) _ (λ e. e.index) c.in_ok-index.ensures.read (λ x k e i. record { name = k.0.1 i; space = k.1 i; index = e i })
    (step (λ e. e.space) (λ e. Number e.index) c.in_ok-space.ensures.built (step (λ e. e.name) (λ e. Exactly (space_byte e.space ∷ []) ▸ Number e.index) c.in_ok-name.ensures.built
    (start (λ e. Text e.name ▸ (Exactly (space_byte e.space ∷ []) ▸ Number e.index)) _ (λ e at bytes h. h))))
