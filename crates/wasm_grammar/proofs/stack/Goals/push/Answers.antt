use Rattle.std.proofs.Common.{◌∙◌, sym, ap, Some, reverse, [], ◌∷◌, length, length-append, arith}
use Rattle.wasm_grammar.specs.Goals.{goal_of, stack_of}
use Rattle.wasm_grammar.specs.Ends.{least_ends, lowered}
use Rattle.file_laws.specs.Showing.{levels}
use Rattle.wasm_grammar.proofs.GoalStacks.{end_pushed, none_pushed, stack_push, level_pushed, level_one, levels_fit, end_pushed_flat}
use Rattle.wasm_grammar.proofs.stack.Goals.push.Goals as goal

pub invariant_of-self-in_default : goal.invariant_of-self-in_default
invariant_of-self-in_default c =
    let joined = ap stack_of c.in_ok-push.ensures.items ∙ stack_push c.self.inside.stack.items c.args.goal in (
      ap least_ends joined ∙ none_pushed (stack_of c.self.inside.stack.items) (goal_of c.args.goal) c.self.inside.ends.items (sym c.end_of.ensures ∙ c.in_default.is) c.self.invariant.0,
      level_pushed (goal_of c.args.goal) (stack_of c.self.inside.stack.items) c.self.inside.codes c.level_of.result c.self.invariant.1 c.level_of.ensures ∙ ap levels (sym joined),
    )

pub invariant_of-self-in-Ok : goal.invariant_of-self-in-Ok
invariant_of-self-in-Ok c =
    let joined = ap stack_of c.in-Ok.ensures.items ∙ stack_push c.self.inside.stack.items c.args.goal in (
      ap least_ends joined
          ∙ end_pushed (stack_of c.self.inside.stack.items) (goal_of c.args.goal) c.in-Some.end c.least_with-least.result c.self.inside.ends.items c.push-2.new.self.items
          (sym c.end_of.ensures ∙ c.in-Some.is) c.self.invariant.0
          (ap (λ s. lowered (Some c.in-Some.end) (reverse s)) (sym c.deref.ensures.value) ∙ c.least_with-least.ensures
          ∙ ap (λ s. c.least_with-least.result ∷ reverse s) c.deref.ensures.value) c.in_ok-push-2.ensures.items,
      end_pushed_flat (goal_of c.args.goal) (stack_of c.self.inside.stack.items) c.self.inside.codes c.in-Some.end c.self.invariant.1 (sym c.end_of.ensures ∙ c.in-Some.is) ∙ ap levels (sym joined),
    )

pub overflow_add-self : goal.overflow_add-self
overflow_add-self c =
    let fits = levels_fit c.self.inside.stack.items c.self.inside.codes c.self.invariant.1 in
    let small = level_one (goal_of c.args.goal) in
    let level = c.level_of.ensures in
    let whole = c.push.new.self.ok.0 in
    let one = ap length c.in_ok-push.ensures.items in
    let sum = length-append c.self.inside.stack.items (c.args.goal ∷ []) in
    let count = c.len-places.ensures in
    let range = c.len-places.type_inv in
    omega (arith, fits, small, level, whole, one, sum, count, range)
