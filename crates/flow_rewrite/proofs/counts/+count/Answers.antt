use Rattle.std.proofs.Common.{◌+◌, ◌<◌, min, drop, length, arith, ap, refl, sym, subst, ◌∙◌}
use Rattle.guard_form.specs.Guarded.{first_alone}
use Rattle.guard_form.specs.Pieces.{no_unit, numbers_in}
use Rattle.flow_rewrite.specs.Counting.{IsCounted}
use Rattle.flow_rewrite.specs.UnitView.{units_of}
use Rattle.flow_rewrite.proofs.AloneLemmas.{zero_on, all_counted, block_counted, if_counted, loop_counted, one_more_counted}
use Rattle.flow_rewrite.proofs.UnitLemmas.{block_is, call_is, if_is, loop_is}
use Rattle.flow_rewrite.proofs.counts.+count.Goals as goal

pub count_among-loop-unit-init : goal.count_among-loop-unit-init
count_among-loop-unit-init t c = record { calls = record { few = omega arith; same = ap (λ n. min n 2) (zero_on (numbers_in (units_of c.args.units.now))) }; alone = refl }

pub count_among-joined-found-requires-clause-front : goal.count_among-joined-found-requires-clause-front
count_among-joined-found-requires-clause-front t c = c.loop-unit.invariant.calls.few

pub count_among-loop-unit-preserved : goal.count_among-loop-unit-preserved
count_among-loop-unit-preserved t c =
    let lt : c.loop-unit.unit-index < length c.args.units.now = omega (arith, c.loop-unit-test.true) in
    one_more_counted _ c.loop-unit.found c.count_inside.result c.joined-found.result c.args.units.now c.loop-unit.unit-index c.unit-item.result lt c.unit-item.is c.loop-unit.invariant
    c.count_inside.ensures c.joined-found.ensures.calls c.joined-found.ensures.alone

pub count_among-returns : goal.count_among-returns
count_among-returns t c = all_counted _ c.loop-unit.found c.args.units.now c.loop-unit.unit-index (omega (arith, c.loop-unit-test.false)) c.loop-unit.invariant

pub count_inside-returns-in-Call : goal.count_inside-returns-in-Call
count_inside-returns-in-Call t c =
    let e = call_is c.args.unit.now c.in-Call.slots c.in-Call.target c.in-Call.to c.in-Call.behind c.in-Call.is no_unit in
    record { calls = sym (ap (λ us. min (numbers_in us) 2) e); alone = sym (ap (first_alone 0) e) }

pub count_inside-returns-in-Block : goal.count_inside-returns-in-Block
count_inside-returns-in-Block t c =
    subst (λ us. IsCounted us c.count_among.result) (sym (block_is c.args.unit.now c.in-Block.first c.in-Block.body c.in-Block.behind c.in-Block.is no_unit))
    (block_counted _ _ _ c.count_among.result (subst (λ xs. IsCounted (units_of xs) c.count_among.result) c.deref.ensures.value c.count_among.ensures))

pub count_inside-returns-in-Loop : goal.count_inside-returns-in-Loop
count_inside-returns-in-Loop t c =
    subst (λ us. IsCounted us c.in_a_loop.result) (sym (loop_is c.args.unit.now c.in-Loop.first c.in-Loop.body c.in-Loop.behind c.in-Loop.is no_unit))
    (loop_counted _ _ _ c.count_among-in-Loop.result c.in_a_loop.result (subst (λ xs. IsCounted (units_of xs) c.count_among-in-Loop.result) c.deref-in-Loop.ensures.value
    c.count_among-in-Loop.ensures) c.in_a_loop.ensures.calls c.in_a_loop.ensures.alone)

pub count_inside-returns-in-If : goal.count_inside-returns-in-If
count_inside-returns-in-If t c =
    subst (λ us. IsCounted us c.joined.result)
    (sym (if_is c.args.unit.now c.in-If.cond c.in-If.then_first c.in-If.then_units c.in-If.else_first c.in-If.else_units c.in-If.behind c.in-If.is no_unit))
    (if_counted _ _ _ _ _ _ c.count_among-in-If.result c.count_among-in-If-2.result c.joined.result
    (subst (λ xs. IsCounted (units_of xs) c.count_among-in-If.result) c.deref-in-If.ensures.value c.count_among-in-If.ensures)
    (subst (λ xs. IsCounted (units_of xs) c.count_among-in-If-2.result) c.deref-in-If-2.ensures.value c.count_among-in-If-2.ensures) c.joined.ensures.calls c.joined.ensures.alone)
