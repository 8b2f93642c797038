use Rattle.std.proofs.Common.{refl, arith}
use Rattle.wa_types.specs.View.{in_front}
use Rattle.wasm_build.proofs.PlainNames.{names_size, names_grow}
use Rattle.wasm_build.proofs.plain.of_memory.Goals as goal

pub returns-then-op-eq63 : goal.returns-then-op-eq63
unfolding in_front
returns-then-op-eq63 c = names_size _ _ (omega arith) refl

pub returns-else-op-eq63 : goal.returns-else-op-eq63
unfolding in_front
returns-else-op-eq63 c = names_grow _ _ (λ h. omega arith) refl
