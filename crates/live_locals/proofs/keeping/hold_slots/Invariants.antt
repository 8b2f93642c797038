use Rattle.std.proofs.Common.{◌&&◌, nat_eq, not, take}
use Rattle.std.specs.List.{list_any}
use Rattle.live_locals.specs.Keeping.{Holds}
use Rattle.live_locals.specs.Sets.{has}
use Rattle.live_locals.proofs.keeping.hold_slots.Given as goal

abbrev pub invariant-loop-at : goal.invariant-loop-at
invariant-loop-at l = Holds l.set (λ x. list_any (nat_eq x) (take l.at l.slots) && not (has l.set x)) l.fn.keeping l.keeping
