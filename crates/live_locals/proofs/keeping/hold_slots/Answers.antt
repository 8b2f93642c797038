use Rattle.std.proofs.Common.{◌&&◌, arith, nat_eq, not, take}
use Rattle.std.specs.List.{list_any}
use Rattle.live_locals.specs.Sets.{has}
use Rattle.live_locals.proofs.KeepingLemmas.{holds_end, holds_first, holds_next}
use Rattle.live_locals.proofs.keeping.hold_slots.Goals as goal

pub loop-at-init : goal.loop-at-init
loop-at-init c = holds_first c.args.set.now c.args.keeping.now c.requires.stands

pub hold-requires : goal.hold-requires
hold-requires c = c.loop-at.invariant.stands

pub loop-at-preserved : goal.loop-at-preserved
loop-at-preserved c =
    holds_next c.args.set.now c.args.slots.now c.loop-at.at _ c.args.keeping.now c.hold.new.keeping c.loop-at-test.true
    (c.in_ok-hold.ensures (λ x. list_any (nat_eq x) (take c.loop-at.at c.args.slots.now) && not (has c.args.set.now x)) c.args.keeping.now c.requires.untold c.loop-at.invariant)

pub returns : goal.returns
returns c = holds_end c.args.set.now c.args.slots.now c.loop-at.at c.args.keeping.now c.loop-at.keeping (omega (arith, c.loop-at-test.false)) c.loop-at.invariant
