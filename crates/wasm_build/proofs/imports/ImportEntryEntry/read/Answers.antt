use Rattle.std.proofs.lemmas.Result.{err_from_is_err_and}
use Rattle.wa_types.specs.Spells.{◌▸◌, Text}
use Rattle.wasm_build.proofs.Steps.{start, step, last, stop, stop_last}
use Rattle.wasm_build.proofs.KindParts.{SpelledKind, import_parts}
use Rattle.wasm_build.proofs.imports.ImportEntryEntry.read.Goals as goal

pub returns-in_err-module-clause-built : goal.returns-in_err-module-clause-built
returns-in_err-module-clause-built c =
    let p = err_from_is_err_and c.from_residual.result c.from_residual.ensures.1 in
    stop (λ i. i.module) (λ i. Text i.base ▸ SpelledKind i.kind) p.1 p.2 c.in_err-module.ensures.built (start (λ i. Text i.module ▸ (Text i.base ▸ SpelledKind i.kind)) _ import_parts)

pub returns-in_err-base-clause-built : goal.returns-in_err-base-clause-built
returns-in_err-base-clause-built c =
    let p = err_from_is_err_and c.from_residual-in_err-base.result c.from_residual-in_err-base.ensures.1 in
    stop (λ i. i.base) (λ i. SpelledKind i.kind) p.1 p.2 c.in_err-base.ensures.built (step (λ i. i.module) (λ i. Text i.base ▸ SpelledKind i.kind) c.in_ok-module.ensures.built
    (start (λ i. Text i.module ▸ (Text i.base ▸ SpelledKind i.kind)) _ import_parts))

pub returns-in_err-kind-clause-built : goal.returns-in_err-kind-clause-built
returns-in_err-kind-clause-built c =
    let p = err_from_is_err_and c.from_residual-in_err-kind.result c.from_residual-in_err-kind.ensures.1 in
    stop_last (λ i. i.kind) p.1 p.2 c.in_err-kind.ensures.built (step (λ i. i.base) (λ i. SpelledKind i.kind) c.in_ok-base.ensures.built
    (step (λ i. i.module) (λ i. Text i.base ▸ SpelledKind i.kind) c.in_ok-module.ensures.built (start (λ i. Text i.module ▸ (Text i.base ▸ SpelledKind i.kind)) _ import_parts)))

pub returns-clause-built : goal.returns-clause-built
returns-clause-built c =
    last (λ i. i) _ (λ i. i.kind) c.in_ok-kind.ensures.built (λ x k e i. record { «module» = k.0.1 i; base = k.1 i; kind = e i })
    (step (λ i. i.base) (λ i. SpelledKind i.kind) c.in_ok-base.ensures.built (step (λ i. i.module) (λ i. Text i.base ▸ SpelledKind i.kind) c.in_ok-module.ensures.built
    (start (λ i. Text i.module ▸ (Text i.base ▸ SpelledKind i.kind)) _ import_parts)))
