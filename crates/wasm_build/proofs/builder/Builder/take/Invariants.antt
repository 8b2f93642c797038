use Rattle.std.proofs.Common.{ℕ, ◌+◌, ◌-◌, ◌≤◌, List, ◌++◌, length, drop}
use Rattle.wa_types.specs.Syntax.{Module}
use Rattle.wasm_build.specs.BuildsPieces.{Comes}
use Rattle.wasm_build.proofs.builder.Builder.take.Given as goal

abbrev pub invariant-loop-more : goal.invariant-loop-more
invariant-loop-more l = record {
  within : l.used ≤ length l.bytes;
  comes : (more : List ℕ) (m : Module) → Comes l.fn.self m l.first (l.bytes ++ more) → Comes l.self m (l.first + l.used) (drop l.used l.bytes ++ more);
}

abbrev pub decreases-loop-more : goal.decreases-loop-more
decreases-loop-more l = length l.bytes - l.used
