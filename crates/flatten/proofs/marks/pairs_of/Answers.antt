use Rattle.std.proofs.Common.{map}
use Rattle.flatten.specs.Numbers.{pair_of}
use Rattle.flatten.proofs.MarkLemmas.{pairs_on, get_either}
use Rattle.flatten.proofs.marks.pairs_of.Goals as goal

pub loop-number-preserved : goal.loop-number-preserved
loop-number-preserved c = pairs_on c.args.seen.now c.loop-number.number _ (map pair_of c.loop-number.pairs.items) (map pair_of c.put_pair.new.pairs.items)
    (map pair_of c.put_pair-in-loop-number.new.pairs.items) _ c.loop-number-test.true (get_either c.args.seen.now c.loop-number.number _ _ c.loop-number-test.true) c.in_ok-put_pair.ensures
    c.in_ok-put_pair-2.ensures c.loop-number.invariant
