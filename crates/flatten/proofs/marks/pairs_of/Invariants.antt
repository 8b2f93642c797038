use Rattle.std.proofs.Common.{◌≡◌, ◌++◌, drop, map}
use Rattle.flatten.specs.Numbers.{pair_of, pairs_in}
use Rattle.flatten.proofs.marks.pairs_of.Given as goal

abbrev pub invariant-loop-number : goal.invariant-loop-number
invariant-loop-number l = map pair_of l.pairs.items ++ pairs_in l.number (drop l.number l.fn.seen) ≡ pairs_in 0 l.fn.seen
