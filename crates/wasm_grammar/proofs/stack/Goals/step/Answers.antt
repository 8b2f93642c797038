use Rattle.std.proofs.Common.{ap, ◌∙◌, ◌++◌, drop}
use Rattle.wasm_grammar.specs.Goals.{goal_of, few_of}
use Rattle.wasm_grammar.proofs.GoalStacks.{step_by_end}
use Rattle.wasm_grammar.proofs.stack.Goals.step.Goals as goal

pub returns-in-Some-least_end : goal.returns-in-Some-least_end
returns-in-Some-least_end c =
    step_by_end (goal_of c.args.goal) (drop 1 c.args.self.now) (few_of c.in-Some.new) c.put.new.self c.settle.new.self c.args.value c.args.at c.in-Some-least_end.end
    c.in-Some.ensures (c.in_ok-put.ensures ∙ ap (λ z. few_of c.in-Some.new ++ z) c.pop.ensures) c.if-not-settle.ensures.yes (c.in-Some-least_end.ensures c.args.at)
