use Rattle.std.proofs.lemmas.Result.{err_from_is_err_and}
use Rattle.wa_types.specs.Spells.{◌▸◌, Number}
use Rattle.wasm_build.proofs.Steps.{start, step_number, last, stop_last}
use Rattle.wasm_build.proofs.EntryParts.{SpelledType, run_parts}
use Rattle.wasm_build.proofs.types.RunEntryEntry.read.Goals as goal

pub returns-in_err-ty-clause-built : goal.returns-in_err-ty-clause-built
returns-in_err-ty-clause-built c =
    let p = err_from_is_err_and c.from_residual-in_err-ty.result c.from_residual-in_err-ty.ensures.1 in
    stop_last (λ r. r.ty) p.1 p.2 c.in_err-ty.ensures.built (step_number (λ r. r.count) (λ r. SpelledType r.ty) c.in_ok-count.ensures.read (start (λ r. Number r.count ▸ SpelledType r.ty) _ run_parts))

pub returns-clause-built : goal.returns-clause-built
returns-clause-built c =
    last (λ r. r) _ (λ r. r.ty) c.in_ok-ty.ensures.built (λ r k e i. record { count = k.1 i; ty = e i })
    (step_number (λ r. r.count) (λ r. SpelledType r.ty) c.in_ok-count.ensures.read (start (λ r. Number r.count ▸ SpelledType r.ty) _ run_parts))
