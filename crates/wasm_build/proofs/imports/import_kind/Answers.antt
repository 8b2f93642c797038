use Rattle.std.proofs.Common.{[], ◌∷◌, sym, ◌∙◌}
use Rattle.std.proofs.lemmas.Result.{err_from_is_err_and}
use Rattle.wa_types.specs.Spells.{◌▸◌, Exactly, Number, LimitsOf, TableType}
use Rattle.wasm_build.specs.Builds.{SpelledGlobalType}
use Rattle.wasm_build.proofs.Steps.{start, step_byte, turn, last, last_number, stop_last}
use Rattle.wasm_build.proofs.KindParts.{kind_byte, KindTail, kind_parts, sort_in, func_tail, func_is, limits_in, global_in, table_tail, memory_tail, global_tail, table_is, memory_is, global_is}
use Rattle.wasm_build.proofs.imports.import_kind.Goals as goal

pub returns-in_err-read-in-1-clause-built : goal.returns-in_err-read-in-1-clause-built
returns-in_err-read-in-1-clause-built c =
    let p = err_from_is_err_and c.from_residual-in_err-read-in-1.result c.from_residual-in_err-read-in-1.ensures.1 in
    stop_last limits_in p.1 p.2 c.in_err-read-in-1.ensures.built (turn (λ k. TableType (limits_in k)) (λ k at bytes w h. table_tail k at bytes (sym c.in-1.is ∙ w.1) h)
    (step_byte kind_byte KindTail c.in_ok-byte.ensures.ok c.in_ok-byte.ensures.at (start (λ k. Exactly (kind_byte k ∷ []) ▸ KindTail k) _ kind_parts)))

pub returns-in_ok-read-in-1-clause-built : goal.returns-in_ok-read-in-1-clause-built
returns-in_ok-read-in-1-clause-built c =
    last (λ k. k) _ limits_in c.in_ok-read-in-1.ensures.built (λ k w e. table_is _ k (sym c.in-1.is ∙ w.1) e)
    (turn (λ k. TableType (limits_in k)) (λ k at bytes w h. table_tail k at bytes (sym c.in-1.is ∙ w.1) h)
    (step_byte kind_byte KindTail c.in_ok-byte.ensures.ok c.in_ok-byte.ensures.at (start (λ k. Exactly (kind_byte k ∷ []) ▸ KindTail k) _ kind_parts)))

pub returns-in_err-read-in-2-clause-built : goal.returns-in_err-read-in-2-clause-built
returns-in_err-read-in-2-clause-built c =
    let p = err_from_is_err_and c.from_residual-in_err-read-in-2.result c.from_residual-in_err-read-in-2.ensures.1 in
    stop_last limits_in p.1 p.2 c.in_err-read-in-2.ensures.built (turn (λ k. LimitsOf (limits_in k)) (λ k at bytes w h. memory_tail k at bytes (sym c.in-2.is ∙ w.1) h)
    (step_byte kind_byte KindTail c.in_ok-byte.ensures.ok c.in_ok-byte.ensures.at (start (λ k. Exactly (kind_byte k ∷ []) ▸ KindTail k) _ kind_parts)))

pub returns-in_ok-read-in-2-clause-built : goal.returns-in_ok-read-in-2-clause-built
returns-in_ok-read-in-2-clause-built c =
    last (λ k. k) _ limits_in c.in_ok-read-in-2.ensures.built (λ k w e. memory_is _ k (sym c.in-2.is ∙ w.1) e)
    (turn (λ k. LimitsOf (limits_in k)) (λ k at bytes w h. memory_tail k at bytes (sym c.in-2.is ∙ w.1) h)
    (step_byte kind_byte KindTail c.in_ok-byte.ensures.ok c.in_ok-byte.ensures.at (start (λ k. Exactly (kind_byte k ∷ []) ▸ KindTail k) _ kind_parts)))

pub returns-in_err-ty-in-3-clause-built : goal.returns-in_err-ty-in-3-clause-built
returns-in_err-ty-in-3-clause-built c =
    let p = err_from_is_err_and c.from_residual-in_err-ty-in-3.result c.from_residual-in_err-ty-in-3.ensures.1 in
    stop_last global_in p.1 p.2 c.in_err-ty-in-3.ensures.built (turn (λ k. SpelledGlobalType (global_in k)) (λ k at bytes w h. global_tail k at bytes (sym c.in-3.is ∙ w.1) h)
    (step_byte kind_byte KindTail c.in_ok-byte.ensures.ok c.in_ok-byte.ensures.at (start (λ k. Exactly (kind_byte k ∷ []) ▸ KindTail k) _ kind_parts)))

pub returns-in_ok-ty-in-3-clause-built : goal.returns-in_ok-ty-in-3-clause-built
returns-in_ok-ty-in-3-clause-built c =
    last (λ k. k) _ global_in c.in_ok-ty-in-3.ensures.built (λ k w e. global_is _ k (sym c.in-3.is ∙ w.1) e)
    (turn (λ k. SpelledGlobalType (global_in k)) (λ k at bytes w h. global_tail k at bytes (sym c.in-3.is ∙ w.1) h)
    (step_byte kind_byte KindTail c.in_ok-byte.ensures.ok c.in_ok-byte.ensures.at (start (λ k. Exactly (kind_byte k ∷ []) ▸ KindTail k) _ kind_parts)))

pub returns-in_ok-number-in-0-clause-built : goal.returns-in_ok-number-in-0-clause-built
returns-in_ok-number-in-0-clause-built c =
    last_number (λ k. k) _ sort_in c.in_ok-number-in-0.ensures.read (λ k w e. func_is _ k (sym c.in-0.is ∙ w.1) e)
    (turn (λ k. Number (sort_in k)) (λ k at bytes w h. func_tail k at bytes (sym c.in-0.is ∙ w.1) h)
    (step_byte kind_byte KindTail c.in_ok-byte.ensures.ok c.in_ok-byte.ensures.at (start (λ k. Exactly (kind_byte k ∷ []) ▸ KindTail k) _ kind_parts)))
