use Rattle.std.proofs.Common.{arith, ◌-◌, ap, refl, sym, subst, ◌∙◌, ◌+◌, Some}
use Rattle.std.proofs.lemmas.Bool.{ltb-true, ltb-false}
use Rattle.wa_types.specs.declared.values.ValType.TheVariants.{I32}
use Rattle.wa_types.specs.Syntax.{a_block, a_loop, basic, branch, done, global_get, plain}
use Rattle.wa_types.specs.View.{code, onto}
use Rattle.run_theory.specs.Flat.{followed_by}
use Rattle.guard_form.specs.Bounds.{unit_count}
use Rattle.guard_form.specs.Pieces.{no_unit, call_unit, nest_unit, if_unit, numbers_in, got_any}
use Rattle.guard_form.specs.Guarded.{arm, choice, front, raised}
use Rattle.guard_form.proofs.UnitLemmas.{arm_is}
use Rattle.flow_rewrite.specs.Raising.{Raisable}
use Rattle.flow_rewrite.specs.Emitting.{indices}
use Rattle.flow_rewrite.proofs.GuardLemmas.{length_none, length_some}
use Rattle.flow_rewrite.specs.UnitView.{callee_of, units_of}
use Rattle.flow_rewrite.specs.Begun.{lead_of, led}
use Rattle.flow_rewrite.specs.Exits.{exit_of}
use Rattle.flow_rewrite.specs.Fronts.{piece_behind}
use Rattle.flow_rewrite.proofs.PieceLemmas.{raisable_out, shallow_of}
use Rattle.flow_rewrite.proofs.UnitLemmas.{call_is, block_is, loop_is, if_is, units_empty, units_some, label_small, call_ready, nest_ready, arms_ready}
use Rattle.flow_rewrite.proofs.WrittenUnits.{call_stepped, block_stepped, loop_stepped, if_stepped, walked_start, walked_ready, walked_next, walked_end, walked_fewer}
use Rattle.flow_rewrite.proofs.sequences.+write.Goals as goal

pub put_unit-put_call-requires-clause-label : goal.put_unit-put_call-requires-clause-label
put_unit-put_call-requires-clause-label t c = label_small (exit_of c.args.spot.exit) c.args.spot.depth (shallow_of c.args.spot.depth 2 (code c.args.piece.now) c.requires.piece) c.requires.label

pub put_unit-inside_block-exit-requires : goal.put_unit-inside_block-exit-requires
put_unit-inside_block-exit-requires t c = label_small (exit_of c.args.spot.exit) c.args.spot.depth (shallow_of c.args.spot.depth 2 (code c.args.piece.now) c.requires.piece) c.requires.label

pub put_unit-inside_loop-exit-requires : goal.put_unit-inside_loop-exit-requires
put_unit-inside_loop-exit-requires t c = label_small (exit_of c.args.spot.exit) c.args.spot.depth (shallow_of c.args.spot.depth 2 (code c.args.piece.now) c.requires.piece) c.requires.label

pub put_unit-inside_block-exit-requires-in-If : goal.put_unit-inside_block-exit-requires-in-If
put_unit-inside_block-exit-requires-in-If t c = label_small (exit_of c.args.spot.exit) c.args.spot.depth (shallow_of c.args.spot.depth 2 (code c.args.piece.now) c.requires.piece) c.requires.label

pub put_unit-put_call-requires-clause-depth : goal.put_unit-put_call-requires-clause-depth
put_unit-put_call-requires-clause-depth t c = shallow_of c.args.spot.depth 2 (code c.args.piece.now) c.requires.piece

pub put_unit-put_call-requires-clause-piece : goal.put_unit-put_call-requires-clause-piece
put_unit-put_call-requires-clause-piece t c = raisable_out c.args.spot.depth 2 2 (code c.args.piece.now) (omega arith) c.requires.piece

pub put_unit-put_call-requires-clause-behind : goal.put_unit-put_call-requires-clause-behind
put_unit-put_call-requires-clause-behind t c =
    subst (λ xs. Raisable 0 2 (code xs)) (sym c.deref-in-Call.ensures.value)
    (raisable_out c.args.spot.depth 2 2 (code c.in-Call.behind.items) (omega arith)
    (call_ready (exit_of c.args.spot.exit) c.args.spot.depth c.args.spot.number (code c.args.piece.now) _ c.in-Call.slots.items (callee_of c.in-Call.target) c.in-Call.to (code c.in-Call.behind.items)
    (call_is c.args.unit.now c.in-Call.slots c.in-Call.target c.in-Call.to c.in-Call.behind c.in-Call.is no_unit) c.requires).0)

pub put_unit-overflow_add-result : goal.put_unit-overflow_add-result
put_unit-overflow_add-result t c =
    let q = (call_ready (exit_of c.args.spot.exit) c.args.spot.depth c.args.spot.number (code c.args.piece.now) _ c.in-Call.slots.items (callee_of c.in-Call.target) c.in-Call.to (code c.in-Call.behind.items)
    (call_is c.args.unit.now c.in-Call.slots c.in-Call.target c.in-Call.to c.in-Call.behind c.in-Call.is no_unit) c.requires).1 in
    grind arith

pub put_unit-put_in_front-requires : goal.put_unit-put_in_front-requires
put_unit-put_in_front-requires t c = raisable_out c.args.spot.depth 2 1 (code c.args.piece.now) (omega arith) c.requires.piece

pub put_unit-write_sequence-requires : goal.put_unit-write_sequence-requires
put_unit-write_sequence-requires t c = (
  omega (
    arith,
    c.decreases,
    ap unit_count (block_is c.args.unit.now c.in-Block.first c.in-Block.body c.in-Block.behind c.in-Block.is no_unit
        ∙ (λ j. nest_unit a_block (code (sym c.deref-in-Block.ensures.value j)) (units_of (sym c.deref-in-Block-2.ensures.value j)) (code c.in-Block.behind.items) no_unit)),
  ),
  (
    c.new-inner.ensures.items,
    nest_ready (exit_of c.args.spot.exit) (exit_of c.inside_block-exit.result) c.args.spot.depth c.args.spot.number (code c.args.piece.now) _ a_block _ _ (code c.in-Block.behind.items)
        (block_is c.args.unit.now c.in-Block.first c.in-Block.body c.in-Block.behind c.in-Block.is no_unit
        ∙ (λ j. nest_unit a_block (code (sym c.deref-in-Block.ensures.value j)) (units_of (sym c.deref-in-Block-2.ensures.value j)) (code c.in-Block.behind.items) no_unit))
        c.inside_block-exit.ensures c.requires,
  ),
)

pub put_unit-put_begun-requires : goal.put_unit-put_begun-requires
put_unit-put_begun-requires t c = raisable_out c.args.spot.depth 2 1 (code c.args.piece.now) (omega arith) c.requires.piece

pub put_unit-write_sequence-requires-in-Loop : goal.put_unit-write_sequence-requires-in-Loop
put_unit-write_sequence-requires-in-Loop t c = (
  omega (
    arith,
    c.decreases,
    ap unit_count (loop_is c.args.unit.now c.in-Loop.first c.in-Loop.body c.in-Loop.behind c.in-Loop.is no_unit
        ∙ (λ j. nest_unit a_loop (code (sym c.deref-in-Loop.ensures.value j)) (units_of (sym c.deref-in-Loop-2.ensures.value j)) (code c.in-Loop.behind.items) no_unit)),
  ),
  (
    c.new-inner-in-Loop.ensures.items,
    nest_ready (exit_of c.args.spot.exit) (exit_of c.inside_loop-exit.result) c.args.spot.depth c.args.spot.number (code c.args.piece.now) _ a_loop _ _ (code c.in-Loop.behind.items)
        (loop_is c.args.unit.now c.in-Loop.first c.in-Loop.body c.in-Loop.behind c.in-Loop.is no_unit
        ∙ (λ j. nest_unit a_loop (code (sym c.deref-in-Loop.ensures.value j)) (units_of (sym c.deref-in-Loop-2.ensures.value j)) (code c.in-Loop.behind.items) no_unit))
        c.inside_loop-exit.ensures c.requires,
  ),
)

pub put_unit-write_arm-requires : goal.put_unit-write_arm-requires
put_unit-write_arm-requires t c = (
  omega (
    arith,
    c.decreases,
    ap unit_count (if_is c.args.unit.now c.in-If.cond c.in-If.then_first c.in-If.then_units c.in-If.else_first c.in-If.else_units c.in-If.behind c.in-If.is
        no_unit),
    ap (λ xs. unit_count (units_of xs)) c.deref-in-If-2.ensures.value,
  ),
  (
    c.new-then_arm.ensures.items,
    (arms_ready (exit_of c.args.spot.exit) (exit_of c.inside_block-exit-in-If.result) c.args.spot.depth c.args.spot.number c.args.spot.number (code c.args.piece.now) _ c.in-If.cond _ _
        (code c.in-If.else_first.items) (units_of c.in-If.else_units.items) (code c.in-If.behind.items)
        (if_is c.args.unit.now c.in-If.cond c.in-If.then_first c.in-If.then_units c.in-If.else_first c.in-If.else_units c.in-If.behind c.in-If.is no_unit
        ∙ (λ j. if_unit c.in-If.cond (code (sym c.deref-in-If.ensures.value j)) (units_of (sym c.deref-in-If-2.ensures.value j)) (code c.in-If.else_first.items)
        (units_of c.in-If.else_units.items) (code c.in-If.behind.items) no_unit)) c.inside_block-exit-in-If.ensures c.requires).0,
  ),
)

pub put_unit-write_arm-requires-in-If : goal.put_unit-write_arm-requires-in-If
put_unit-write_arm-requires-in-If t c = (
  omega (
    arith,
    c.decreases,
    ap unit_count (if_is c.args.unit.now c.in-If.cond c.in-If.then_first c.in-If.then_units c.in-If.else_first c.in-If.else_units c.in-If.behind c.in-If.is
        no_unit),
    ap (λ xs. unit_count (units_of xs)) c.deref-in-If-4.ensures.value,
  ),
  (
    c.new-else_arm.ensures.items,
    (arms_ready (exit_of c.args.spot.exit) (exit_of c.inside_block-exit-in-If.result) c.args.spot.depth c.args.spot.number c.in_ok-middle-in-If.middle
        (code c.args.piece.now) _ c.in-If.cond (code c.deref-in-If.result.now) (units_of c.deref-in-If-2.result.now)
        _ _ (code c.in-If.behind.items)
        (if_is c.args.unit.now c.in-If.cond c.in-If.then_first c.in-If.then_units c.in-If.else_first c.in-If.else_units c.in-If.behind c.in-If.is no_unit
        ∙ (λ j. if_unit c.in-If.cond (code (sym c.deref-in-If.ensures.value j)) (units_of (sym c.deref-in-If-2.ensures.value j)) (code (sym c.deref-in-If-3.ensures.value j))
        (units_of (sym c.deref-in-If-4.ensures.value j)) (code c.in-If.behind.items) no_unit)) c.inside_block-exit-in-If.ensures c.requires).1 c.in_ok-middle-in-If.ensures.number,
  ),
)

pub put_unit-put_condition-requires : goal.put_unit-put_condition-requires
put_unit-put_condition-requires t c = raisable_out c.args.spot.depth 2 2 (code c.args.piece.now) (omega arith) c.requires.piece

pub put_unit-returns-in_ok-put_call-in-Call : goal.put_unit-returns-in_ok-put_call-in-Call
put_unit-returns-in_ok-put_call-in-Call t c =
    call_stepped c.args.guards.now (lead_of c.args.lead) (exit_of c.args.spot.exit) c.args.spot.depth c.args.spot.number c.args.out.now.items c.put_call.new.out.items
    c.args.piece.now c.args.unit.now c.deref.result.now c.in-Call.target c.in-Call.to
    c.deref-in-Call.result.now
    (λ rest. call_is c.args.unit.now c.in-Call.slots c.in-Call.target c.in-Call.to c.in-Call.behind c.in-Call.is rest
    ∙ (λ j. call_unit (sym c.deref.ensures.value j) (callee_of c.in-Call.target) c.in-Call.to (code (sym c.deref-in-Call.ensures.value j)) rest))
    (ap piece_behind c.in-Call.is) c.in_ok-put_call-in-Call.ensures

pub put_unit-returns-in_ok-put_block-in-Block : goal.put_unit-returns-in_ok-put_block-in-Block
put_unit-returns-in_ok-put_block-in-Block t c =
    block_stepped c.args.guards.now (lead_of c.args.lead) (lead_of c.in_ok-lead-in-Block.lead) (exit_of c.args.spot.exit) (exit_of c.inside_block-exit.result) c.args.spot.depth
    (c.args.spot.depth + 1) c.args.spot.number c.args.out.now.items c.put_in_front.new.out.items _ c.args.piece.now c.args.unit.now
    (code c.deref-in-Block.result.now) (units_of c.deref-in-Block-2.result.now) c.in-Block.behind.items c.write_sequence.new.out.items c.in_ok-next-in-Block.next c.inside_block-exit.ensures refl
    (λ rest. block_is c.args.unit.now c.in-Block.first c.in-Block.body c.in-Block.behind c.in-Block.is rest
    ∙ (λ j. nest_unit a_block (code (sym c.deref-in-Block.ensures.value j)) (units_of (sym c.deref-in-Block-2.ensures.value j)) (code c.in-Block.behind.items) rest))
    (ap piece_behind c.in-Block.is) c.in_ok-next-in-Block.ensures c.in_ok-lead-in-Block.ensures c.in_ok-put_block-in-Block.ensures

pub put_unit-returns-in_ok-put_loop-in-Loop : goal.put_unit-returns-in_ok-put_loop-in-Loop
put_unit-returns-in_ok-put_loop-in-Loop t c =
    loop_stepped c.args.guards.now (lead_of c.args.lead) (exit_of c.args.spot.exit) (exit_of c.inside_loop-exit.result) c.args.spot.depth
    (c.args.spot.depth + 1) c.args.spot.number c.args.out.now.items c.put_begun.new.out.items _ c.args.piece.now c.args.unit.now
    (code c.deref-in-Loop.result.now) (units_of c.deref-in-Loop-2.result.now) c.in-Loop.behind.items c.write_sequence-in-Loop.new.out.items c.in_ok-next-in-Loop.next c.inside_loop-exit.ensures refl
    (λ rest. loop_is c.args.unit.now c.in-Loop.first c.in-Loop.body c.in-Loop.behind c.in-Loop.is rest
    ∙ (λ j. nest_unit a_loop (code (sym c.deref-in-Loop.ensures.value j)) (units_of (sym c.deref-in-Loop-2.ensures.value j)) (code c.in-Loop.behind.items) rest))
    (ap piece_behind c.in-Loop.is) c.in_ok-next-in-Loop.ensures c.in_ok-put_begun-in-Loop.ensures c.in_ok-put_loop-in-Loop.ensures

pub put_unit-returns-in_ok-put_if-in-If : goal.put_unit-returns-in_ok-put_if-in-If
put_unit-returns-in_ok-put_if-in-If t c =
    if_stepped c.args.guards.now (lead_of c.args.lead) (exit_of c.args.spot.exit) (exit_of c.inside_block-exit-in-If.result) c.args.spot.depth
    (c.args.spot.depth + 1) c.args.spot.number c.args.out.now.items c.put_condition.new.out.items _ c.args.piece.now c.args.unit.now c.in-If.cond
    (code c.deref-in-If.result.now) (units_of c.deref-in-If-2.result.now) (code c.deref-in-If-3.result.now) (units_of c.deref-in-If-4.result.now) c.in-If.behind.items
    c.write_arm.new.out.items c.write_arm-in-If.new.out.items c.in_ok-middle-in-If.middle c.in_ok-next-in-If.next c.inside_block-exit-in-If.ensures refl
    (λ rest. if_is c.args.unit.now c.in-If.cond c.in-If.then_first c.in-If.then_units c.in-If.else_first c.in-If.else_units c.in-If.behind c.in-If.is rest
    ∙ (λ j. if_unit c.in-If.cond (code (sym c.deref-in-If.ensures.value j)) (units_of (sym c.deref-in-If-2.ensures.value j)) (code (sym c.deref-in-If-3.ensures.value j))
    (units_of (sym c.deref-in-If-4.ensures.value j)) (code c.in-If.behind.items) rest))
    (ap piece_behind c.in-If.is) c.in_ok-middle-in-If.ensures c.in_ok-next-in-If.ensures
    (λ rest. c.in_ok-put_condition-in-If.ensures c.args.spot.number
    (c.in_ok-middle-in-If.ensures.number ∙ ap (λ xs. c.args.spot.number + numbers_in (units_of xs)) (c.deref-in-If-2.ensures.value ∙ sym c.deref-in-If-5.ensures.value)) rest
    ∙ (λ j. onto c.args.out.now.items (plain (basic (global_get c.args.guards.now.state)) (branch (Some I32) (led (lead_of c.args.lead) (choice (indices c.args.guards.now) c.args.spot.number
    (units_of ((c.deref-in-If-5.ensures.value ∙ sym c.deref-in-If-2.ensures.value) j)) (units_of ((c.deref-in-If-6.ensures.value ∙ sym c.deref-in-If-4.ensures.value) j))))
    (raised 0 1 (followed_by (code c.args.piece.now) (got_any c.in-If.cond done))) rest))))
    c.in_ok-put_if-in-If.ensures

pub write_arm-returns-then-is_empty : goal.write_arm-returns-then-is_empty
write_arm-returns-then-is_empty t c =
    let e = units_empty c.args.units.now (length_none _ _ c.is_empty.ensures c.if-is_empty.true) in
    record {
      written = c.in_ok-put_body.ensures
          ∙ sym (ap (λ us. arm us (code c.args.first.now) (front (indices c.args.guards.now) (exit_of c.args.spot.exit) c.args.spot.depth c.args.spot.number (code c.args.first.now) us)) e);
      number = let n = ap numbers_in e in omega arith;
    }

pub write_arm-returns : goal.write_arm-returns
write_arm-returns t c =
    let w = c.in_ok-next.ensures in
    record {
      written = w.written ∙ sym (arm_is (units_of c.args.units.now) (code c.args.first.now) _ (units_some c.args.units.now (length_some _ _ c.is_empty.ensures c.if-is_empty.false)));
      number = w.number;
    }

pub write_sequence-put_unit-requires : goal.write_sequence-put_unit-requires
write_sequence-put_unit-requires t c =
    let inv = c.loop-unit.invariant.1 in (
      omega (
        arith,
        c.decreases,
        walked_fewer c.args.guards.now (lead_of c.args.lead) (exit_of c.args.spot.exit) c.args.spot.depth c.args.spot.number (code c.args.first.now) (units_of c.args.units.now) c.loop-unit.out.items
            (lead_of c.loop-unit.lead) c.loop-unit.piece.now c.loop-unit.next c.args.units.now c.loop-unit.unit-index c.unit-item.result (omega (arith, c.loop-unit-test.true)) c.unit-item.is
            c.loop-unit.invariant.0,
      ),
      walked_ready c.args.guards.now (lead_of c.args.lead) (exit_of c.args.spot.exit) c.args.spot.depth c.args.spot.number (code c.args.first.now)
          (units_of c.args.units.now) c.loop-unit.out.items (lead_of c.loop-unit.lead) c.loop-unit.piece.now c.loop-unit.next c.args.units.now
          c.loop-unit.unit-index c.unit-item.result (omega (arith, c.loop-unit-test.true)) c.unit-item.is c.loop-unit.invariant.0 (exit_of c.at_unit.result) _ c.at_unit.ensures,
    )

pub write_sequence-loop-unit-init : goal.write_sequence-loop-unit-init
write_sequence-loop-unit-init t c = (
  walked_start c.args.guards.now (lead_of c.args.lead) (exit_of c.args.spot.exit) c.args.spot.depth c.args.spot.number c.args.first.now
      (units_of c.args.units.now) _ c.requires.ready c.requires.empty,
  omega arith,
)

pub write_sequence-loop-unit-preserved : goal.write_sequence-loop-unit-preserved
write_sequence-loop-unit-preserved t c =
    let inv = c.loop-unit.invariant.1 in (
      walked_next c.args.guards.now (lead_of c.args.lead) (exit_of c.args.spot.exit) c.args.spot.depth c.args.spot.number (code c.args.first.now)
          (units_of c.args.units.now) c.loop-unit.out.items (lead_of c.loop-unit.lead) c.loop-unit.piece.now c.loop-unit.next c.args.units.now c.loop-unit.unit-index
          c.put_unit.new.out.items (lead_of c.take.result) (lead_of c.take.new.self) (exit_of c.at_unit.result) c.in_ok-next.next (c.loop-unit.left - 1) _ c.unit-item.result
          c.next_piece-piece.result.now (omega (arith, c.loop-unit-test.true)) c.unit-item.is
          c.loop-unit.invariant.0 (ap lead_of c.take.ensures.value) (ap lead_of c.take.ensures.after) c.at_unit.ensures c.in_ok-next.ensures c.next_piece-piece.ensures (omega arith)
          (λ e. ltb-true 0 (c.loop-unit.left - 1) e) (λ e. ltb-false 0 (c.loop-unit.left - 1) e),
      omega arith,
    )

pub write_sequence-returns : goal.write_sequence-returns
write_sequence-returns t c =
    walked_end c.args.guards.now (lead_of c.args.lead) (exit_of c.args.spot.exit) c.args.spot.depth c.args.spot.number (code c.args.first.now) (units_of c.args.units.now) c.loop-unit.out.items
    (lead_of c.loop-unit.lead) c.loop-unit.piece.now c.loop-unit.next c.args.units.now c.loop-unit.unit-index _ _ (omega (arith, c.loop-unit-test.false)) c.loop-unit.invariant.0 c.in_ok-put_end.ensures refl

pub write_sequence-put_end-requires : goal.write_sequence-put_end-requires
write_sequence-put_end-requires t c = raisable_out c.args.spot.depth 2 2 (code c.loop-unit.piece.now) (omega arith) c.loop-unit.invariant.0.ready.piece
