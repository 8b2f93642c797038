use Rattle.std.proofs.Common.{arith, ℕ, List, Option, sym, subst, take}
use Rattle.std.proofs.lemmas.List.{take_more, take_all, length-take-le}
use Rattle.event_order.specs.Turns.{IsTurn}
use Rattle.event_order.proofs.turns.next_turn.Goals as goal

pub loop-program-preserved : goal.loop-program-preserved
loop-program-preserved c =
    let dues = c.args.dues.now in
    let i = c.loop-program.program in
    let P : List (Option ℕ) → Type 0 = λ l. IsTurn l c.sooner-next.result in
    subst P (sym (take_more dues i _ c.loop-program-test.true))
    (c.sooner-next.ensures (take i dues) (length-take-le i dues (omega (arith, c.loop-program-test.true))) c.loop-program.invariant)

pub returns : goal.returns
returns c =
    let P : List (Option ℕ) → Type 0 = λ l. IsTurn l c.loop-program.next in
    subst P (take_all c.loop-program.program c.args.dues.now (omega (arith, c.loop-program-test.false))) c.loop-program.invariant
