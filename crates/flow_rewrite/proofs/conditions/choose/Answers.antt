use Rattle.std.proofs.Common.{ap, sym, ◌∙◌, ◌+◌}
use Rattle.wa_types.specs.Syntax.{basic, done, num}
use Rattle.wa_types.specs.declared.operators.NumOp.TheVariants.{I32LtU}
use Rattle.wa_types.specs.View.{onto}
use Rattle.wa_types.proofs.ViewLemmas.{onto_done}
use Rattle.guard_form.specs.Guarded.{choice, index_with}
use Rattle.guard_form.specs.Pieces.{numbers_in}
use Rattle.guard_form.proofs.UnitLemmas.{choice_is, choice_one, choice_two}
use Rattle.flow_rewrite.proofs.PutLemmas.{const_put}
use Rattle.flow_rewrite.specs.Begun.{lead_of, led}
use Rattle.flow_rewrite.specs.Emitting.{indices}
use Rattle.flow_rewrite.proofs.GuardLemmas.{length_none, length_some}
use Rattle.flow_rewrite.specs.UnitView.{units_of}
use Rattle.flow_rewrite.proofs.UnitLemmas.{units_empty, units_some}
use Rattle.flow_rewrite.proofs.conditions.choose.Goals as goal

pub returns-then-is_empty : goal.returns-then-is_empty
returns-then-is_empty c = λ first _.
    const_put _ _ 1 c.in_ok-push.ensures.items ∙ c.lead_or_none-out.ensures _
    ∙ ap (led (lead_of c.args.lead)) (sym (ap (choice (indices c.args.guards.now) first (units_of c.args.arms.then_units.now))
    (units_empty c.args.arms.else_units.now (length_none _ _ c.is_empty.ensures c.if-is_empty.true)) ∙ choice_one (indices c.args.guards.now) first (units_of c.args.arms.then_units.now)))

pub returns-then-is_empty-2 : goal.returns-then-is_empty-2
returns-then-is_empty-2 c = λ first _.
    const_put _ _ 0 c.in_ok-push-2.ensures.items ∙ c.lead_or_none-out.ensures _
    ∙ ap (led (lead_of c.args.lead)) (sym (ap (λ us. choice (indices c.args.guards.now) first us (units_of c.args.arms.else_units.now))
    (units_empty c.args.arms.then_units.now (length_none _ _ c.is_empty-2.ensures c.if-is_empty-2.true))
    ∙ choice_two (indices c.args.guards.now) first (units_of c.args.arms.else_units.now) (units_some c.args.arms.else_units.now (length_some _ _ c.is_empty.ensures c.if-is_empty.false))))

pub returns : goal.returns
returns c = λ first number.
    let i = indices c.args.guards.now in
    sym (onto_done c.put_index.new.out.items) ∙ c.in_ok-put_index.ensures done ∙ ap (λ n. onto c.lead_or_none-out.result.items (index_with i (basic (num I32LtU)) n done)) number
    ∙ c.lead_or_none-out.ensures (index_with i (basic (num I32LtU)) (first + numbers_in (units_of c.args.arms.then_units.now)) done)
    ∙ ap (led (lead_of c.args.lead)) (sym (choice_is i first (units_of c.args.arms.then_units.now) (units_of c.args.arms.else_units.now)
    (units_some c.args.arms.then_units.now (length_some _ _ c.is_empty-2.ensures c.if-is_empty-2.false)) (units_some c.args.arms.else_units.now (length_some _ _ c.is_empty.ensures c.if-is_empty.false))))
