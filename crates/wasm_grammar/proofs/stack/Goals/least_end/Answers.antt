use Rattle.std.proofs.Common.{◌∙◌, sym, ap, arith}
use Rattle.wasm_grammar.specs.Ends.{least_ends}
use Rattle.wasm_grammar.proofs.GoalStacks.{empty_ends, last_end}
use Rattle.wasm_grammar.proofs.stack.Goals.least_end.Goals as goal

pub returns-in-empty : goal.returns-in-empty
returns-in-empty c = empty_ends c.args.self.now c.self.inside.ends.items c.as_slice.result.now c.as_slice.ensures.value (omega arith) (ap least_ends (sym c.self.view_is) ∙ c.self.invariant.0)

pub returns-in-len1-up : goal.returns-in-len1-up
returns-in-len1-up c = last_end c.args.self.now c.self.inside.ends.items c.as_slice.result.now c.as_slice.ensures.value (omega arith) (ap least_ends (sym c.self.view_is) ∙ c.self.invariant.0)
