use Rattle.std.proofs.Common.{◌≡◌, ◌-◌, ◌∷◌, [], drop, ap, sym, ◌∙◌, subst, arith}
use Rattle.wasm_grammar.specs.Goals.{goal_of, stack_of}
use Rattle.wasm_grammar.proofs.GoalStacks.{stack_second, none_second}
use Rattle.wasm_grammar.proofs.stack.Goals.second.Goals as goal

pub returns-then-count-lt2-clause-none : goal.returns-then-count-lt2-clause-none
returns-then-count-lt2-clause-none c =
    let count = c.len-count.ensures in
    let long = c.self.inside.stack.ok.0 in
    let two = c.if-count-lt2.true in
    subst (λ gs. drop 1 gs ≡ []) c.self.view_is (none_second c.self.inside.stack.items (omega (arith, count, long, two)))

pub returns-clause-some : goal.returns-clause-some
returns-clause-some c =
    let count = c.len-count.ensures in
    let long = c.self.inside.stack.ok.0 in
    let two = c.if-count-lt2.false in
    subst (λ gs. drop 1 gs ≡ goal_of c.index.result.now ∷ drop 2 gs) c.self.view_is
    (stack_second c.self.inside.stack.items (c.len-count.result - 2) c.index.result.now (omega (arith, count, long, two)) (omega (arith, count, long, two))
    ∙ ap (λ z. goal_of z ∷ drop 2 (stack_of c.self.inside.stack.items)) (sym c.index.ensures))
