use Rattle.std.proofs.Common.{◌≡◌, ◌≤◌, reverse, take, length}
use Rattle.validate_bodies.specs.Running.{pops}
use Rattle.validate_bodies.specs.Stack.{known, Level}
use Rattle.validate_bodies.proofs.stack.pop_all.Given as goal

abbrev pub invariant-loop-n : goal.invariant-loop-n
invariant-loop-n l = record {
  level : Level l.initial.o l.o;
  free : l.o.free ≡ l.initial.o.free;
  within : l.n ≤ length l.wanted;
  popped : pops (reverse l.wanted) (known l.initial.o) l.initial.o.free ≡ pops (reverse (take l.n l.wanted)) (known l.o) l.initial.o.free;
}

abbrev pub decreases-loop-n : goal.decreases-loop-n
decreases-loop-n l = l.n
