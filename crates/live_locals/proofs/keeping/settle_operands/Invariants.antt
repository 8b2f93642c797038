use Rattle.std.proofs.Common.{take}
use Rattle.std.specs.List.{list_any}
use Rattle.live_locals.specs.Keeping.{Settles, is_local}
use Rattle.live_locals.proofs.keeping.settle_operands.Given as goal

abbrev pub invariant-loop-at : goal.invariant-loop-at
invariant-loop-at l = Settles l.set (λ x. list_any (is_local x) (take l.at l.operands)) l.fn.keeping l.keeping
