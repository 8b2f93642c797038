use Rattle.std.proofs.Common.{arith, nat_eq}
use Rattle.live_locals.proofs.KeepingLemmas.{settles_begin, settles_end, settles_next}
use Rattle.live_locals.proofs.keeping.settle_slots.Goals as goal

pub loop-at-init : goal.loop-at-init
loop-at-init c = settles_begin c.args.set.now nat_eq c.args.slots.now c.args.keeping.now c.requires

pub settle-requires : goal.settle-requires
settle-requires c = c.loop-at.invariant.stands

pub loop-at-preserved : goal.loop-at-preserved
loop-at-preserved c =
    settles_next c.args.set.now nat_eq c.args.slots.now c.loop-at.at _ c.args.keeping.now c.loop-at.keeping c.settle.new.keeping c.loop-at-test.true c.loop-at.invariant c.in_ok-settle.ensures

pub returns : goal.returns
returns c = settles_end c.args.set.now nat_eq c.args.slots.now c.loop-at.at c.args.keeping.now c.loop-at.keeping (omega (arith, c.loop-at-test.false)) c.loop-at.invariant
