use Rattle.std.proofs.Common.{◌∙◌, sym, ap}
use Rattle.wa_types.specs.Begun.{end_of}
use Rattle.wasm_grammar.specs.Goals.{goal_of, stack_of}
use Rattle.wasm_grammar.specs.Ends.{least_ends}
use Rattle.file_laws.specs.Showing.{levels}
use Rattle.wasm_grammar.proofs.GoalStacks.{end_popped, none_popped, level_popped, stack_push, with_end, without_end}
use Rattle.wasm_grammar.proofs.stack.Goals.pop.Goals as goal

pub overflow_sub-self : goal.overflow_sub-self
overflow_sub-self c =
    let split = ap stack_of c.in-Some.ensures.items ∙ stack_push c.pop.new.self.items c.in-Some.goal in
    (level_popped (goal_of c.in-Some.goal) (stack_of c.pop.new.self.items) c.self.inside.codes c.level_of.result (c.self.invariant.1 ∙ ap levels split) c.level_of.ensures).0

pub invariant_of-self : goal.invariant_of-self
invariant_of-self c =
    let some = with_end (end_of (goal_of c.in-Some.goal)) c.end_of.result c.end_of.ensures (sym c.is_some.ensures ∙ c.if-is_some.true) in
    let split = ap stack_of c.in-Some.ensures.items ∙ stack_push c.pop.new.self.items c.in-Some.goal in (
      end_popped (stack_of c.pop.new.self.items) (goal_of c.in-Some.goal) some.0 c.self.inside.ends.items c.pop-then-is_some.new.self.items _ some.1 (ap least_ends (sym split)
          ∙ c.self.invariant.0) c.self.inside.ends.ok.0 c.pop-then-is_some.ensures.rest,
      (level_popped (goal_of c.in-Some.goal) (stack_of c.pop.new.self.items) c.self.inside.codes c.level_of.result (c.self.invariant.1 ∙ ap levels split) c.level_of.ensures).1,
    )

pub invariant_of-self-else-is_some : goal.invariant_of-self-else-is_some
invariant_of-self-else-is_some c =
    let none = without_end (end_of (goal_of c.in-Some.goal)) c.end_of.result c.end_of.ensures (sym c.is_some.ensures ∙ c.if-is_some.false) in
    let split = ap stack_of c.in-Some.ensures.items ∙ stack_push c.pop.new.self.items c.in-Some.goal in (
      none_popped (stack_of c.pop.new.self.items) (goal_of c.in-Some.goal) c.self.inside.ends.items none (ap least_ends (sym split) ∙ c.self.invariant.0),
      (level_popped (goal_of c.in-Some.goal) (stack_of c.pop.new.self.items) c.self.inside.codes c.level_of.result (c.self.invariant.1 ∙ ap levels split) c.level_of.ensures).1,
    )
