use Rattle.std.proofs.Common.{rules, arith}
use Rattle.wa_types.specs.declared.instrs.Instr.{the_lemmas}
use Rattle.wa_types.proofs.WeightLemmas.{weighing, weight_other}
use Rattle.wa_types.proofs.weights.+weight.Goals as goal

pub body_weight-instr_weight-n-requires : goal.body_weight-instr_weight-n-requires
body_weight-instr_weight-n-requires t c = (search (rules, the_lemmas), grind (arith, weighing))

pub instr_weight-body_weight-requires : goal.instr_weight-body_weight-requires
instr_weight-body_weight-requires t c = (search (rules, the_lemmas), grind (arith, weighing))

pub instr_weight-body_weight-requires-in-Loop : goal.instr_weight-body_weight-requires-in-Loop
instr_weight-body_weight-requires-in-Loop t c = (search (rules, the_lemmas), grind (arith, weighing))

pub instr_weight-body_weight-requires-in-If : goal.instr_weight-body_weight-requires-in-If
instr_weight-body_weight-requires-in-If t c = (search (rules, the_lemmas), grind (arith, weighing))

pub instr_weight-body_weight-requires-in-If-2 : goal.instr_weight-body_weight-requires-in-If-2
instr_weight-body_weight-requires-in-If-2 t c = (search (rules, the_lemmas), grind (arith, weighing))

pub instr_weight-returns-in_default : goal.instr_weight-returns-in_default
instr_weight-returns-in_default t c =
    weight_other _ _ c.in_default.not-BrTable c.in_default.not-Call c.in_default.not-CallIndirect c.in_default.not-Block c.in_default.not-Loop c.in_default.not-If
