use Rattle.std.proofs.Common.{arith, ap, sym, refl, ◌∙◌}
use Rattle.wa_types.specs.View.{code, in_front}
use Rattle.wa_types.specs.Syntax.{done, a_block, a_loop, call, call_indirect}
use Rattle.wa_types.specs.Pausing.{direct, indirect}
use Rattle.wa_types.specs.Leaves.{is_leaf}
use Rattle.wasm_validate.proofs.WalkUses.{leaf_block, leaf_loop, leaf_if, block_typed, loop_typed, arms_typed}
use Rattle.frame_sizes.proofs.VisitLemmas.{went_first, went_end, went_last, went_next, next_typed, one_fewer, nest_items, branch_items, block_is, loop_is, if_is, nest_inside, branch_inside, call_inside, nothing_inside, quiet, ok_as}
use Rattle.frame_sizes.proofs.points.+visit.Goals as goal

pub visit_body-loop-instr-init : goal.visit_body-loop-instr-init
visit_body-loop-instr-init t c = went_first c.args.typing.now (code c.args.body.now) c.args.visits.now c.requires

pub visit_body-returns-then-is_last : goal.visit_body-returns-then-is_last
visit_body-returns-then-is_last t c =
    went_last c.args.typing.now c.loop-instr.typing c.args.body.now c.loop-instr.instr-index c.args.visits.now c.loop-instr.visits
    (record { points = c.put_point.new.out; calls = c.loop-instr.visits.calls })
    c.loop-instr.invariant c.in_ok-put_point.ensures refl c.instr-item.result (omega (arith, c.loop-instr-test.true)) c.instr-item.is (sym c.is_last.ensures ∙ c.if-is_last.true)

pub visit_body-visit_instr-requires : goal.visit_body-visit_instr-requires
visit_body-visit_instr-requires t c =
    let fewer = one_fewer c.args.body.now c.loop-instr.instr-index c.instr-item.result (omega (arith, c.loop-instr-test.true)) c.instr-item.is in (
      omega (arith, c.decreases, fewer),
      next_typed c.args.typing.now c.loop-instr.typing c.args.body.now c.loop-instr.instr-index c.args.visits.now c.loop-instr.visits
          (record { points = c.put_point.new.out; calls = c.loop-instr.visits.calls })
          c.loop-instr.invariant c.in_ok-put_point.ensures refl c.instr-item.result (omega (arith, c.loop-instr-test.true)) c.instr-item.is,
    )

pub visit_body-advance-requires : goal.visit_body-advance-requires
visit_body-advance-requires t c =
    next_typed c.args.typing.now c.loop-instr.typing c.args.body.now c.loop-instr.instr-index c.args.visits.now c.loop-instr.visits
    (record { points = c.put_point.new.out; calls = c.loop-instr.visits.calls })
    c.loop-instr.invariant c.in_ok-put_point.ensures refl c.instr-item.result (omega (arith, c.loop-instr-test.true)) c.instr-item.is

pub visit_body-loop-instr-preserved : goal.visit_body-loop-instr-preserved
visit_body-loop-instr-preserved t c =
    went_next c.args.typing.now c.loop-instr.typing c.args.body.now c.loop-instr.instr-index c.args.visits.now c.loop-instr.visits
    (record { points = c.put_point.new.out; calls = c.loop-instr.visits.calls })
    c.loop-instr.invariant c.in_ok-put_point.ensures refl c.instr-item.result (omega (arith, c.loop-instr-test.true)) c.instr-item.is
    c.advance.new.self c.visit_instr.new.visits (sym c.is_last.ensures ∙ c.if-is_last.false) c.in_ok-visit_instr.ensures c.in_ok-advance.ensures.stays c.in_ok-advance.ensures.typed

pub visit_body-returns : goal.visit_body-returns
visit_body-returns t c =
    ok_as c.put_point-2.result _ _ (λ e. went_end c.args.typing.now c.loop-instr.typing c.args.body.now c.loop-instr.instr-index c.args.visits.now c.loop-instr.visits
    (record { points = c.put_point-2.new.out; calls = c.loop-instr.visits.calls }) c.loop-instr.invariant e refl (omega (arith, c.loop-instr-test.false))) c.put_point-2.ensures

pub visit_instr-returns-in-Call : goal.visit_instr-returns-in-Call
unfolding in_front
visit_instr-returns-in-Call t c =
    ok_as c.put_point.result _ _ (λ e. call_inside c.args.typing.now c.args.instr.now c.args.visits.now (record { points = c.args.visits.now.points; calls = c.put_point.new.out })
    (call c.in-Call.field-0)
    (ap (λ x. in_front x done) c.in-Call.is) (direct c.in-Call.field-0) refl refl e) c.put_point.ensures

pub visit_instr-returns-in-CallIndirect : goal.visit_instr-returns-in-CallIndirect
unfolding in_front
visit_instr-returns-in-CallIndirect t c =
    ok_as c.put_point-in-CallIndirect.result _ _ (λ e. call_inside c.args.typing.now c.args.instr.now c.args.visits.now
    (record { points = c.args.visits.now.points; calls = c.put_point-in-CallIndirect.new.out })
    (call_indirect c.in-CallIndirect.field-0) (ap (λ x. in_front x done) c.in-CallIndirect.is) (indirect c.in-CallIndirect.field-0) refl refl e) c.put_point-in-CallIndirect.ensures

pub visit_instr-returns-in_default : goal.visit_instr-returns-in_default
visit_instr-returns-in_default t c =
    nothing_inside c.args.typing.now c.args.instr.now c.args.visits.now c.args.visits.now
    (quiet c.args.instr.now c.in_default.not-Call c.in_default.not-CallIndirect c.in_default.not-Block c.in_default.not-Loop c.in_default.not-If c.args.typing.now) refl refl

pub visit_instr-inside-requires-clause-opens : goal.visit_instr-inside-requires-clause-opens
visit_instr-inside-requires-clause-opens t c = ap is_leaf c.in-Block.is ∙ leaf_block c.in-Block.result c.in-Block.body

pub visit_instr-visit_body-requires : goal.visit_instr-visit_body-requires
visit_instr-visit_body-requires t c =
    let fewer = nest_items c.args.instr.now a_block c.in-Block.result (code c.deref.result.now)
    (block_is c.args.instr.now c.in-Block.result c.in-Block.body c.deref.result.now c.in-Block.is c.deref.ensures.value) in (
      omega (arith, c.decreases, fewer),
      block_typed c.args.typing.now c.in_ok-inner-in-Block.inner c.args.instr.now done c.requires c.in_ok-inner-in-Block.ensures c.in-Block.result c.in-Block.body c.deref.result.now
          c.in-Block.is c.deref.ensures.value,
    )

pub visit_instr-returns-in_ok-inner-in-Block : goal.visit_instr-returns-in_ok-inner-in-Block
visit_instr-returns-in_ok-inner-in-Block t c =
    ok_as c.visit_body.result _ _ (λ v. nest_inside c.args.typing.now c.args.instr.now c.args.visits.now c.visit_body.new.visits a_block c.in-Block.result
    (code c.deref.result.now) c.in_ok-inner-in-Block.inner
    (block_is c.args.instr.now c.in-Block.result c.in-Block.body c.deref.result.now c.in-Block.is c.deref.ensures.value) c.in_ok-inner-in-Block.ensures v) c.visit_body.ensures

pub visit_instr-inside-requires-in-Loop-clause-opens : goal.visit_instr-inside-requires-in-Loop-clause-opens
visit_instr-inside-requires-in-Loop-clause-opens t c = ap is_leaf c.in-Loop.is ∙ leaf_loop c.in-Loop.result c.in-Loop.body

pub visit_instr-visit_body-requires-in-Loop : goal.visit_instr-visit_body-requires-in-Loop
visit_instr-visit_body-requires-in-Loop t c =
    let fewer = nest_items c.args.instr.now a_loop c.in-Loop.result (code c.deref-in-Loop.result.now)
    (loop_is c.args.instr.now c.in-Loop.result c.in-Loop.body c.deref-in-Loop.result.now c.in-Loop.is c.deref-in-Loop.ensures.value) in (
      omega (arith, c.decreases, fewer),
      loop_typed c.args.typing.now c.in_ok-inner-in-Loop.inner c.args.instr.now done c.requires c.in_ok-inner-in-Loop.ensures c.in-Loop.result c.in-Loop.body c.deref-in-Loop.result.now
          c.in-Loop.is c.deref-in-Loop.ensures.value,
    )

pub visit_instr-returns-in_ok-inner-in-Loop : goal.visit_instr-returns-in_ok-inner-in-Loop
visit_instr-returns-in_ok-inner-in-Loop t c =
    ok_as c.visit_body-in-Loop.result _ _ (λ v. nest_inside c.args.typing.now c.args.instr.now c.args.visits.now c.visit_body-in-Loop.new.visits a_loop c.in-Loop.result
    (code c.deref-in-Loop.result.now) c.in_ok-inner-in-Loop.inner
    (loop_is c.args.instr.now c.in-Loop.result c.in-Loop.body c.deref-in-Loop.result.now c.in-Loop.is c.deref-in-Loop.ensures.value) c.in_ok-inner-in-Loop.ensures v) c.visit_body-in-Loop.ensures

pub visit_instr-inside-requires-in-If-clause-opens : goal.visit_instr-inside-requires-in-If-clause-opens
visit_instr-inside-requires-in-If-clause-opens t c = ap is_leaf c.in-If.is ∙ leaf_if c.in-If.result c.in-If.then_arm c.in-If.else_arm

pub visit_instr-inside-requires-in-If-2-clause-opens : goal.visit_instr-inside-requires-in-If-2-clause-opens
visit_instr-inside-requires-in-If-2-clause-opens t c = ap is_leaf c.in-If.is ∙ leaf_if c.in-If.result c.in-If.then_arm c.in-If.else_arm

pub visit_instr-visit_body-requires-in-If : goal.visit_instr-visit_body-requires-in-If
visit_instr-visit_body-requires-in-If t c =
    let one = c.deref-in-If.result.now in
    let is = if_is c.args.instr.now c.in-If.result c.in-If.then_arm c.in-If.else_arm one c.in-If.else_arm.items c.in-If.is c.deref-in-If.ensures.value refl in
    let fewer = (branch_items c.args.instr.now c.in-If.result (code one) (code c.in-If.else_arm.items) is).0 in (
      omega (arith, c.decreases, fewer),
      (arms_typed c.args.typing.now c.in_ok-inner-in-If.inner c.args.instr.now done c.requires c.in_ok-inner-in-If.ensures c.in-If.result c.in-If.then_arm c.in-If.else_arm
          one c.in-If.else_arm.items c.in-If.is c.deref-in-If.ensures.value refl).0,
    )

pub visit_instr-visit_body-requires-in-If-2 : goal.visit_instr-visit_body-requires-in-If-2
visit_instr-visit_body-requires-in-If-2 t c =
    let two = c.deref-in-If-2.result.now in
    let is = if_is c.args.instr.now c.in-If.result c.in-If.then_arm c.in-If.else_arm c.in-If.then_arm.items two c.in-If.is refl c.deref-in-If-2.ensures.value in
    let fewer = (branch_items c.args.instr.now c.in-If.result (code c.in-If.then_arm.items) (code two) is).1 in (
      omega (arith, c.decreases, fewer),
      (arms_typed c.args.typing.now c.in_ok-inner-in-If-2.inner c.args.instr.now done c.requires c.in_ok-inner-in-If-2.ensures c.in-If.result c.in-If.then_arm c.in-If.else_arm
          c.in-If.then_arm.items two c.in-If.is refl c.deref-in-If-2.ensures.value).1,
    )

pub visit_instr-returns-in_ok-inner-in-If-2 : goal.visit_instr-returns-in_ok-inner-in-If-2
visit_instr-returns-in_ok-inner-in-If-2 t c =
    ok_as c.visit_body-in-If-2.result _ _ (λ v. branch_inside c.args.typing.now c.args.instr.now c.args.visits.now c.visit_body-in-If.new.visits c.visit_body-in-If-2.new.visits c.in-If.result
    (code c.deref-in-If.result.now) (code c.deref-in-If-2.result.now) c.in_ok-inner-in-If.inner c.in_ok-inner-in-If-2.inner
    (if_is c.args.instr.now c.in-If.result c.in-If.then_arm c.in-If.else_arm c.deref-in-If.result.now c.deref-in-If-2.result.now c.in-If.is c.deref-in-If.ensures.value c.deref-in-If-2.ensures.value)
    c.in_ok-inner-in-If.ensures c.in_ok-inner-in-If-2.ensures c.in_ok-visit_body-in-If.ensures v) c.visit_body-in-If-2.ensures
