use Rattle.std.proofs.Common.{◌≡◌, length}
use Rattle.wa_types.specs.Begun.{settled}
use Rattle.wasm_grammar.proofs.stack.Goals.settle.Given as goal

abbrev pub invariant-loop-goal : goal.invariant-loop-goal
invariant-loop-goal l = settled l.at l.self ≡ settled l.at l.fn.self

abbrev pub decreases-loop-goal : goal.decreases-loop-goal
decreases-loop-goal l = length l.self
