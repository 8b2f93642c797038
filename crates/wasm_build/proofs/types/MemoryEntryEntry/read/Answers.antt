use Rattle.std.proofs.Common.{[], ◌∷◌, sym, ◌∙◌}
use Rattle.std.proofs.lemmas.Result.{err_from_is_err_and}
use Rattle.wa_types.specs.Spells.{◌▸◌, Exactly, Number}
use Rattle.wasm_build.proofs.Steps.{start, step_byte, turn, step_number, stop_number, last_number, stop_last_number}
use Rattle.wasm_build.proofs.EntryParts.{flag_of, high_in, LimitsTail, limits_parts, with_high, without_high, no_high, high_is}
use Rattle.wasm_build.proofs.types.MemoryEntryEntry.read.Goals as goal

pub returns-in_err-min-in-1-clause-built : goal.returns-in_err-min-in-1-clause-built
returns-in_err-min-in-1-clause-built c =
    let p = err_from_is_err_and c.from_residual-in_err-min-in-1.result c.from_residual-in_err-min-in-1.ensures.1 in
    stop_number (λ l. l.min) (λ l. Number (high_in l.max)) p.1 c.in_err-min-in-1.ensures.read
    (turn (λ l. Number l.min ▸ Number (high_in l.max)) (λ l at bytes k h. with_high l.min l.max at bytes (sym c.in-1.is ∙ k.1) h)
    (step_byte (λ l. flag_of l.max) (λ l. LimitsTail l.min l.max) c.in_ok-byte.ensures.ok c.in_ok-byte.ensures.at
    (start (λ l. Exactly (flag_of l.max ∷ []) ▸ LimitsTail l.min l.max) _ limits_parts)))

pub returns-in_err-max-in-1-clause-built : goal.returns-in_err-max-in-1-clause-built
returns-in_err-max-in-1-clause-built c =
    let p = err_from_is_err_and c.from_residual-in_err-max-in-1.result c.from_residual-in_err-max-in-1.ensures.1 in
    stop_last_number (λ l. high_in l.max) p.1 c.in_err-max-in-1.ensures.read (step_number (λ l. l.min) (λ l. Number (high_in l.max)) c.in_ok-min-in-1.ensures.read
    (turn (λ l. Number l.min ▸ Number (high_in l.max)) (λ l at bytes k h. with_high l.min l.max at bytes (sym c.in-1.is ∙ k.1) h)
    (step_byte (λ l. flag_of l.max) (λ l. LimitsTail l.min l.max) c.in_ok-byte.ensures.ok c.in_ok-byte.ensures.at
    (start (λ l. Exactly (flag_of l.max ∷ []) ▸ LimitsTail l.min l.max) _ limits_parts))))

pub returns-in_ok-max-in-1-clause-built : goal.returns-in_ok-max-in-1-clause-built
returns-in_ok-max-in-1-clause-built c =
    last_number (λ l. l) _ (λ l. high_in l.max) c.in_ok-max-in-1.ensures.read (λ l k e i. record { min = k.1 i; max = high_is _ l.max (sym c.in-1.is ∙ k.0.1) e i })
    (step_number (λ l. l.min) (λ l. Number (high_in l.max)) c.in_ok-min-in-1.ensures.read
    (turn (λ l. Number l.min ▸ Number (high_in l.max)) (λ l at bytes k h. with_high l.min l.max at bytes (sym c.in-1.is ∙ k.1) h)
    (step_byte (λ l. flag_of l.max) (λ l. LimitsTail l.min l.max) c.in_ok-byte.ensures.ok c.in_ok-byte.ensures.at
    (start (λ l. Exactly (flag_of l.max ∷ []) ▸ LimitsTail l.min l.max) _ limits_parts))))

pub returns-in_ok-min-in-0-clause-built : goal.returns-in_ok-min-in-0-clause-built
returns-in_ok-min-in-0-clause-built c =
    last_number (λ l. l) _ (λ l. l.min) c.in_ok-min-in-0.ensures.read (λ l k e i. record { min = e i; max = no_high l.max (sym c.in-0.is ∙ k.1) i })
    (turn (λ l. Number l.min) (λ l at bytes k h. without_high l.min l.max at bytes (sym c.in-0.is ∙ k.1) h)
    (step_byte (λ l. flag_of l.max) (λ l. LimitsTail l.min l.max) c.in_ok-byte.ensures.ok c.in_ok-byte.ensures.at
    (start (λ l. Exactly (flag_of l.max ∷ []) ▸ LimitsTail l.min l.max) _ limits_parts)))
