use Rattle.std.proofs.Common.{arith, length, ◌-◌}
use Rattle.slim_rewrite.proofs.StackLemmas.{top_next, top_is}
use Rattle.slim_rewrite.proofs.stack.is_top.Goals as goal

pub offset_bounds-stack-place : goal.offset_bounds-stack-place
offset_bounds-stack-place c = grind (arith, c.loop-arg.invariant.place, c.loop-arg-test.true, c.if-stack-args.false)

pub loop-arg-init : goal.loop-arg-init
loop-arg-init c = record { top = λ j lt. absurd (omega arith); place = omega arith }

pub loop-arg-preserved : goal.loop-arg-preserved
loop-arg-preserved c =
    let q = c.loop-arg.invariant.place in
    record {
      top = top_next c.args.stack.now c.args.args.now (length c.args.stack.now - length c.args.args.now) c.loop-arg.arg-index c.loop-arg.place c.in-Local.x c.loop-arg.invariant.top q c.in-Local.is
          c.if-stack-place.false;
      place = omega arith;
    }

pub returns : goal.returns
returns c = λ e.
    top_is c.args.stack.now c.args.args.now (length c.args.stack.now - length c.args.args.now) (let h = c.if-stack-args.false in omega arith)
    (λ j lt. c.loop-arg.invariant.top j (let h = c.loop-arg-test.false in omega arith))
