use Rattle.std.proofs.Common.{◌≡◌, ◌++◌, take, drop}
use Rattle.validate_bodies.specs.Spaces.{total, ends_from}
use Rattle.validate_bodies.proofs.spaces.run_ends.Given as goal

abbrev pub invariant-loop-run : goal.invariant-loop-run
invariant-loop-run l = record {
  sum : l.end ≡ total (take l.run-index l.runs);
  ends : l.ends.items ++ ends_from l.end (drop l.run-index l.runs) ≡ ends_from 0 l.runs;
}
