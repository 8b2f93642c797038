use Rattle.std.proofs.Common.{◌∙◌, sym, ap, drop, Some}
use Rattle.wa_types.specs.Begun.{settled}
use Rattle.wasm_grammar.specs.Goals.{goal_of}
use Rattle.wasm_grammar.specs.Ends.{by_closing}
use Rattle.wasm_grammar.proofs.GoalStacks.{settled_by, settled_none}
use Rattle.wasm_grammar.proofs.stack.Goals.settle.Goals as goal

pub returns-in-Wanted-clause-yes : goal.returns-in-Wanted-clause-yes
returns-in-Wanted-clause-yes c =
    sym c.loop-goal.invariant ∙ settled_by c.args.at c.loop-goal.self (drop 1 c.loop-goal.self) (goal_of c.in-Some.goal) c.closing_at.result c.in-Some.ensures.some c.closing_at.ensures
    ∙ ap (λ k. by_closing k (settled c.args.at (drop 1 c.loop-goal.self)) (Some c.loop-goal.self)) c.in-Wanted.is

pub returns-in-Early-clause-no : goal.returns-in-Early-clause-no
returns-in-Early-clause-no c =
    sym c.loop-goal.invariant ∙ settled_by c.args.at c.loop-goal.self (drop 1 c.loop-goal.self) (goal_of c.in-Some.goal) c.closing_at.result c.in-Some.ensures.some c.closing_at.ensures
    ∙ ap (λ k. by_closing k (settled c.args.at (drop 1 c.loop-goal.self)) (Some c.loop-goal.self)) c.in-Early.is

pub loop-goal-preserved : goal.loop-goal-preserved
loop-goal-preserved c =
    ap (settled c.args.at) c.pop.ensures
    ∙ sym (settled_by c.args.at c.loop-goal.self (drop 1 c.loop-goal.self) (goal_of c.in-Some.goal) c.closing_at.result c.in-Some.ensures.some c.closing_at.ensures
    ∙ ap (λ k. by_closing k (settled c.args.at (drop 1 c.loop-goal.self)) (Some c.loop-goal.self)) c.in-Ended.is)
    ∙ c.loop-goal.invariant

pub returns-clause-yes : goal.returns-clause-yes
returns-clause-yes c = sym c.loop-goal.invariant ∙ settled_none c.args.at c.loop-goal.self c.in_default.ensures.none
