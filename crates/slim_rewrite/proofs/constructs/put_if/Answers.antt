use Rattle.std.proofs.Common.{Some, None, refl, sym, subst, ◌∙◌}
use Rattle.slim_rewrite.specs.declared.stack.Walk.{Walk}
use Rattle.slim_rewrite.specs.declared.sequence.Head.TheVariants.{If}
use Rattle.slim_rewrite.specs.Inside.{as_kept, as_unit}
use Rattle.slim_rewrite.specs.SequenceView.{call_open}
use Rattle.slim_rewrite.specs.Steps.{Opened}
use Rattle.slim_rewrite.proofs.NestLemmas.{both_told, held_if, on_ok}
use Rattle.slim_rewrite.proofs.constructs.put_if.Goals as goal

pub returns-then-may_stay : goal.returns-then-may_stay
returns-then-may_stay c =
    let told = both_told c.args.direct (call_open c.args.all.now.open) (sym c.may_stay.ensures ∙ c.if-may_stay.true) in
    on_ok c.open_unit.result _ _
    (λ opened. as_kept (If None c.args.then_arm.pieces c.args.else_arm.pieces) told.0 told.1
    (held_if c.args.then_arm c.args.else_arm c.are_free-free.result c.if-free.false c.are_free-free.ensures) (λ k us. refl) opened) c.open_unit.ensures

pub returns : goal.returns
returns c =
    let head = If (Some c.args.cond) c.args.then_arm.pieces c.args.else_arm.pieces in
    on_ok c.open_unit-2.result _ _
    (λ opened. as_unit head c.set_condition.new.at.piece (held_if c.args.then_arm c.args.else_arm c.are_free-free.result c.if-free.false c.are_free-free.ensures)
    c.in_ok-set_condition.ensures.puts (λ k us. refl)
    (subst (λ (z : Walk). Opened z (record c.args.all.now { place = c.args.else_arm.place }) c.open_unit-2.new.at c.open_unit-2.new.all head) c.in_ok-set_condition.ensures.is opened))
    c.open_unit-2.ensures
