use Rattle.std.proofs.Common.{◌≡◌, ◌+◌, ◌++◌, drop, length}
use Rattle.flatten.specs.Numbers.{pairs_in, spots_in}
use Rattle.flatten.proofs.marks.spots_of.Given as goal

abbrev pub invariant-loop-here : goal.invariant-loop-here
invariant-loop-here l = record {
  room : l.next + length (pairs_in l.here-index (drop l.here-index l.fn.seen)) ≡ l.fn.end;
  same : l.spots.items ++ spots_in l.fn.end l.next (drop l.here-index l.fn.seen) ≡ spots_in l.fn.end l.fn.first l.fn.seen;
}
