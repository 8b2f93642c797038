use Rattle.std.proofs.Common.{[], ◌∙◌, length}
use Rattle.std.proofs.lemmas.Result.{err_from_is_err_and}
use Rattle.wa_types.specs.View.{segment_of}
use Rattle.wa_types.specs.Spells.{◌▸◌, Exactly, Number}
use Rattle.wasm_build.specs.BuildsCode.{SpelledExpression}
use Rattle.wasm_build.proofs.Steps.{start, step, step_number, step_taken, stop_taken, finish, stop, stop_number}
use Rattle.wasm_build.proofs.CodeEntries.{SegmentParts, segment_parts}
use Rattle.wasm_build.proofs.entries.DataEntryEntry.read.Goals as goal

pub returns-in_err-offset-clause-built : goal.returns-in_err-offset-clause-built
returns-in_err-offset-clause-built c =
    let p = err_from_is_err_and c.from_residual-in_err-offset.result c.from_residual-in_err-offset.ensures.1 in
    stop (λ s. s.offset) (λ s. Number (length s.bytes) ▸ (Exactly s.bytes ▸ Exactly [])) p.1 p.2 c.in_err-offset.ensures.built
    (step_number (λ s. s.memory) (λ s. SpelledExpression s.offset ▸ (Number (length s.bytes) ▸ (Exactly s.bytes ▸ Exactly []))) c.in_ok-memory.ensures.read
    (start SegmentParts _ segment_parts))

pub returns-in_err-count-clause-built : goal.returns-in_err-count-clause-built
returns-in_err-count-clause-built c =
    let p = err_from_is_err_and c.from_residual-in_err-count.result c.from_residual-in_err-count.ensures.1 in
    stop_number (λ s. length s.bytes) (λ s. Exactly s.bytes ▸ Exactly []) p.1 c.in_err-count.ensures.read
    (step (λ s. s.offset) (λ s. Number (length s.bytes) ▸ (Exactly s.bytes ▸ Exactly [])) c.in_ok-offset.ensures.built
    (step_number (λ s. s.memory) (λ s. SpelledExpression s.offset ▸ (Number (length s.bytes) ▸ (Exactly s.bytes ▸ Exactly []))) c.in_ok-memory.ensures.read
    (start SegmentParts _ segment_parts)))

pub returns-in_err-take-clause-built : goal.returns-in_err-take-clause-built
returns-in_err-take-clause-built c =
    let p = err_from_is_err_and c.from_residual-in_err-take.result c.from_residual-in_err-take.ensures.1 in
    stop_taken (λ s. s.bytes) (λ s. Exactly []) p.1 c.in_err-take.ensures.err (λ s k. k.1)
    (step_number (λ s. length s.bytes) (λ s. Exactly s.bytes ▸ Exactly []) c.in_ok-count.ensures.read
    (step (λ s. s.offset) (λ s. Number (length s.bytes) ▸ (Exactly s.bytes ▸ Exactly [])) c.in_ok-offset.ensures.built
    (step_number (λ s. s.memory) (λ s. SpelledExpression s.offset ▸ (Number (length s.bytes) ▸ (Exactly s.bytes ▸ Exactly []))) c.in_ok-memory.ensures.read
    (start SegmentParts _ segment_parts))))

pub returns-clause-built : goal.returns-clause-built
returns-clause-built c =
    finish segment_of _ (λ s k i. record { memory = k.0.0.0.1 i; offset = k.0.0.1 i; bytes = (c.in_ok-bytes.ensures.items ∙ k.1) i })
    (step_taken (λ s. s.bytes) (λ s. Exactly []) c.in_ok-take.ensures.ok c.in_ok-take.ensures.len c.in_ok-take.ensures.at (λ s k. k.1)
    (step_number (λ s. length s.bytes) (λ s. Exactly s.bytes ▸ Exactly []) c.in_ok-count.ensures.read
    (step (λ s. s.offset) (λ s. Number (length s.bytes) ▸ (Exactly s.bytes ▸ Exactly [])) c.in_ok-offset.ensures.built
    (step_number (λ s. s.memory) (λ s. SpelledExpression s.offset ▸ (Number (length s.bytes) ▸ (Exactly s.bytes ▸ Exactly []))) c.in_ok-memory.ensures.read
    (start SegmentParts _ segment_parts)))))
