use Rattle.std.proofs.Common.{◌∙◌, ap, drop}
use Rattle.wasm_grammar.specs.Goals.{goal_of}
use Rattle.file_laws.specs.Showing.{levels}
use Rattle.wasm_grammar.proofs.GoalStacks.{level_popped, levels_behind_none}
use Rattle.wasm_grammar.proofs.stack.Goals.outer_levels.Goals as goal

pub overflow_sub-result : goal.overflow_sub-result
overflow_sub-result c =
    (level_popped (goal_of c.in-Some.goal) (drop 1 c.args.self.now) c.self.inside.codes c.level_of.result (c.self.invariant.1
    ∙ ap levels (c.self.view_is ∙ c.in-Some.ensures.some)) c.level_of.ensures).0

pub returns-in-None : goal.returns-in-None
returns-in-None c = levels_behind_none c.args.self.now c.in-None.ensures.none

pub returns-in-Some : goal.returns-in-Some
returns-in-Some c =
    (level_popped (goal_of c.in-Some.goal) (drop 1 c.args.self.now) c.self.inside.codes c.level_of.result (c.self.invariant.1
    ∙ ap levels (c.self.view_is ∙ c.in-Some.ensures.some)) c.level_of.ensures).1
