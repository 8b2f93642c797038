use Rattle.std.specs.Prelude.{nat_lt}
use Rattle.live_locals.specs.Keeping.{Settles}
use Rattle.live_locals.proofs.keeping.settle_all.Given as goal

abbrev pub invariant-loop-local : goal.invariant-loop-local
invariant-loop-local l = Settles l.set (λ x. nat_lt x l.local) l.fn.keeping l.keeping
