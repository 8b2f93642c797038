use Rattle.wasm_grammar.specs.Goals.{goal_of}
use Rattle.wasm_grammar.proofs.ShortItems.{code_on, level_on, level_below, closed_on, closed_below}
use Rattle.wasm_grammar.proofs.machine.Machine.pass_code.Goals as goal

pub returns-in-Some-opened-clause-ok : goal.returns-in-Some-opened-clause-ok
returns-in-Some-opened-clause-ok c =
    level_on c.args.bytes.now.all c.args.self.now.goals (goal_of c.in-Some.goal) c.args.self.now.at c.pass_short-self.result c.args.stop c.in-Some.ensures.some c.if-not-is_code.ensures
    c.requires.stands c.requires.below c.pass_short-self.ensures.passes
    c.note_level.new.self c.outer_levels-level.result c.in-Some-opened.first_arm c.push.new.self c.in_ok-push.ensures.ok c.outer_levels-level.ensures c.note_level.ensures
    c.in-Some-opened.ensures.opens

pub returns-in-Some-opened-clause-below : goal.returns-in-Some-opened-clause-below
returns-in-Some-opened-clause-below c = level_below c.in-Some-opened.first_arm c.args.self.now.goals c.push.new.self c.args.stop c.in_ok-push.ensures.ok c.requires.below

pub returns-then-not-closes-clause-ok : goal.returns-then-not-closes-clause-ok
returns-then-not-closes-clause-ok c =
    code_on c.args.bytes.now.all c.args.self.now.goals (goal_of c.in-Some.goal) c.args.self.now.at c.pass_short-self.result c.args.stop c.in-Some.ensures.some c.if-not-is_code.ensures
    c.requires.stands c.requires.below c.pass_short-self.ensures.passes

pub returns-in_default-second-clause-ok : goal.returns-in_default-second-clause-ok
returns-in_default-second-clause-ok c =
    code_on c.args.bytes.now.all c.args.self.now.goals (goal_of c.in-Some.goal) c.args.self.now.at c.pass_short-self.result c.args.stop c.in-Some.ensures.some c.if-not-is_code.ensures
    c.requires.stands c.requires.below c.pass_short-self.ensures.passes

pub returns-then-not-is_code-2-clause-ok : goal.returns-then-not-is_code-2-clause-ok
returns-then-not-is_code-2-clause-ok c =
    code_on c.args.bytes.now.all c.args.self.now.goals (goal_of c.in-Some.goal) c.args.self.now.at c.pass_short-self.result c.args.stop c.in-Some.ensures.some c.if-not-is_code.ensures
    c.requires.stands c.requires.below c.pass_short-self.ensures.passes

pub returns-clause-ok : goal.returns-clause-ok
returns-clause-ok c =
    closed_on c.args.bytes.now.all c.args.self.now.goals (goal_of c.in-Some.goal) c.args.self.now.at c.pass_short-self.result c.args.stop c.in-Some.ensures.some c.if-not-is_code.ensures
    c.requires.stands c.requires.below c.pass_short-self.ensures.passes
    (goal_of c.in-Some-second.second) c.pop.new.self c.in-Some-second.ensures.some c.if-not-is_code-2.ensures c.pop.ensures c.if-not-closes.ensures.closes

pub returns-clause-below : goal.returns-clause-below
returns-clause-below c = closed_below c.args.self.now.goals c.pop.new.self (goal_of c.in-Some.goal) c.args.stop c.in-Some.ensures.some c.pop.ensures c.requires.below
