use Rattle.wa_types.specs.Spells.{Number}
use Rattle.wasm_build.proofs.Steps.{start, last_number}
use Rattle.wasm_build.proofs.types.IndexEntryEntry.read.Goals as goal

pub returns-clause-built : goal.returns-clause-built
returns-clause-built c = last_number (λ x. x) _ (λ x. x) c.in_ok-number.ensures.read (λ x k e. e) (start (λ x. Number x) _ (λ x at bytes h. h))
