use Rattle.std.proofs.Common.{rules, arith}
use Rattle.wa_types.specs.declared.instrs.Instr.{the_lemmas}
use Rattle.wa_types.proofs.MeasureLemmas.{counting, count_other}
use Rattle.wa_types.proofs.measures.+count.Goals as goal

pub count-count_one-n-requires : goal.count-count_one-n-requires
count-count_one-n-requires t c = (search (rules, the_lemmas), grind (arith, counting))

pub count_one-count-requires : goal.count_one-count-requires
count_one-count-requires t c = (search (rules, the_lemmas), grind (arith, counting))

pub count_one-count-requires-in-Loop : goal.count_one-count-requires-in-Loop
count_one-count-requires-in-Loop t c = (search (rules, the_lemmas), grind (arith, counting))

pub count_one-count-requires-in-If : goal.count_one-count-requires-in-If
count_one-count-requires-in-If t c = (search (rules, the_lemmas), grind (arith, counting))

pub count_one-count-requires-in-If-2 : goal.count_one-count-requires-in-If-2
count_one-count-requires-in-If-2 t c = (search (rules, the_lemmas), grind (arith, counting))

pub count_one-returns-in_default : goal.count_one-returns-in_default
count_one-returns-in_default t c = count_other _ c.in_default.not-Block c.in_default.not-Loop c.in_default.not-If
