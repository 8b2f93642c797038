use Rattle.std.proofs.Common.{ap}
use Rattle.wasm_grammar.specs.Goals.{stack_of}
use Rattle.wasm_grammar.proofs.GoalStacks.{no_goals, levels_none}
use Rattle.wasm_grammar.proofs.stack.Goals.none.Goals as goal

pub invariant_of-result : goal.invariant_of-result
invariant_of-result c = (no_goals c.new.result.items c.new-2.result.items c.new.ensures.items c.new-2.ensures.items, levels_none (stack_of c.new.result.items) (ap stack_of c.new.ensures.items))
