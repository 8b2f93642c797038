use Rattle.flatten.proofs.BasicLemmas.{leaf_other}
use Rattle.flatten.proofs.body.put_leaf.Goals as goal

pub unreachable-requires : goal.unreachable-requires
unreachable-requires c =
    leaf_other c.args.instr.now c.requires.leaf c.requires.goes_on c.in-None.ensures c.in_default.not-BrIf c.in_default.not-Call c.in_default.not-CallIndirect c.in_default.not-LocalGet
    c.in_default.not-LocalSet c.in_default.not-LocalTee
