use Rattle.std.proofs.Common.{nat_eq, take}
use Rattle.std.specs.List.{list_any}
use Rattle.live_locals.specs.Keeping.{Settles}
use Rattle.live_locals.proofs.keeping.settle_slots.Given as goal

abbrev pub invariant-loop-at : goal.invariant-loop-at
invariant-loop-at l = Settles l.set (λ x. list_any (nat_eq x) (take l.at l.slots)) l.fn.keeping l.keeping
