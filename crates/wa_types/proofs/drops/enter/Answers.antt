use Rattle.std.proofs.Common.{◌≡◌, ◌+◌, ap, ◌∙◌, arith}
use Rattle.wa_types.specs.Syntax.{done}
use Rattle.wa_types.specs.View.{code, in_front}
use Rattle.wa_types.specs.Counts.{count_of}
use Rattle.wa_types.proofs.DropLemmas.{count_block, count_loop, count_if, count_some}
use Rattle.wa_types.proofs.drops.enter.Goals as goal

pub returns-in-Block : goal.returns-in-Block
returns-in-Block c =
    let counted : count_of (in_front c.args.instr done) ≡ 1 + count_of (code c.in-Block.inner.items) =
    ap (λ x. count_of (in_front x done)) c.in-Block.is ∙ count_block _ _ in
    omega (arith, counted, c.go_into.ensures)

pub returns-in-Loop : goal.returns-in-Loop
returns-in-Loop c =
    let counted : count_of (in_front c.args.instr done) ≡ 1 + count_of (code c.in-Loop.inner.items) =
    ap (λ x. count_of (in_front x done)) c.in-Loop.is ∙ count_loop _ _ in
    omega (arith, counted, c.go_into-in-Loop.ensures)

pub returns-in-If : goal.returns-in-If
returns-in-If c =
    let counted : count_of (in_front c.args.instr done) ≡ 1 + count_of (code c.in-If.then_arm.items) + count_of (code c.in-If.else_arm.items) =
    ap (λ x. count_of (in_front x done)) c.in-If.is ∙ count_if _ _ _ in
    omega (arith, counted, c.go_into-in-If.ensures, c.go_into-in-If-2.ensures)

pub returns : goal.returns
returns c = omega (arith, count_some c.args.instr)
