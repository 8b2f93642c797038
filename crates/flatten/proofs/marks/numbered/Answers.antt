use Rattle.std.proofs.Common.{arith, map}
use Rattle.std.proofs.lemmas.List.{length-map}
use Rattle.flatten.specs.Numbers.{pair_of}
use Rattle.flatten.proofs.MarkLemmas.{table_is}
use Rattle.flatten.proofs.marks.numbered.Goals as goal

pub invariant_of-result : goal.invariant_of-result
invariant_of-result c = (
  omega (arith, c.len.ensures),
  table_is c.args.seen.now _ c.args.first c.in_ok-spots.spots.items (map pair_of c.in_ok-pairs.pairs.items)
      (omega (arith, c.len.ensures, length-map c.in_ok-pairs.pairs.items pair_of)) c.in_ok-spots.ensures c.in_ok-pairs.ensures,
)
