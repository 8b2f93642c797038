use Rattle.assert_rewrite.proofs.EntriesWith.{Going}
use Rattle.assert_rewrite.proofs.asserting.put_asserted.Given as goal

abbrev pub invariant-loop-index : goal.invariant-loop-index
invariant-loop-index l = Going l.fn.numbers l.fn.first l.fn.funcs l.fn.out l.index l.out
