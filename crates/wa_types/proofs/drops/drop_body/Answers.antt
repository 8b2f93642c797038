use Rattle.std.proofs.Common.{◌≡◌, ◌<◌, ◌+◌, ◌*◌, ap, ◌∙◌, arith}
use Rattle.wa_types.specs.Syntax.{done}
use Rattle.wa_types.specs.View.{code, in_front}
use Rattle.wa_types.specs.Counts.{count_of}
use Rattle.wa_types.specs.Dropping.{to_drop, waiting}
use Rattle.wa_types.proofs.DropLemmas.{count_last, waiting_last}
use Rattle.wa_types.proofs.drops.drop_body.Goals as goal

pub left-smaller-in-Some : goal.left-smaller-in-Some
left-smaller-in-Some c =
    let counted : count_of (code c.left.body.items) ≡ count_of (code c.pop.new.self.items) + count_of (in_front c.in-Some.instr done) =
    ap (λ xs. count_of (code xs)) c.in-Some.ensures.items ∙ count_last c.pop.new.self.items c.in-Some.instr in
    let less : to_drop c.enter.new.begun.items c.enter.new.body.items < to_drop c.left.begun.items c.left.body.items = omega (arith, counted, c.enter.ensures) in
    less

pub left-smaller : goal.left-smaller
left-smaller c =
    let waited : waiting c.left.begun.items ≡ waiting c.pop-in-None.new.self.items + 3 * count_of (code c.in-Some-pop.next.items) + 1 =
    ap waiting c.in-Some-pop.ensures.items ∙ waiting_last c.pop-in-None.new.self.items c.in-Some-pop.next in
    let less : to_drop c.pop-in-None.new.self.items c.in-Some-pop.next.items < to_drop c.left.begun.items c.left.body.items = omega (arith, waited) in
    less
