use Rattle.std.proofs.Common.{◌≡◌, ◌++◌, reverse, take}
use Rattle.validate_bodies.specs.Running.{knows}
use Rattle.validate_bodies.specs.Stack.{known, Level}
use Rattle.validate_bodies.proofs.stack.push_all.Given as goal

abbrev pub invariant-loop-t : goal.invariant-loop-t
invariant-loop-t l = record {
  level : Level l.initial.o l.o;
  free : l.o.free ≡ l.initial.o.free;
  pushed : known l.o ≡ knows (reverse (take l.t-index l.given)) ++ known l.initial.o;
}
