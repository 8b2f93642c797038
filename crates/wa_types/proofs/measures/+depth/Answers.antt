use Rattle.std.proofs.Common.{rules, arith, ◌∙◌}
use Rattle.wa_types.specs.declared.instrs.Instr.{the_lemmas}
use Rattle.wa_types.proofs.MeasureLemmas.{measuring, depth_other, depth_step, count_step, max_is}
use Rattle.wa_types.proofs.measures.+depth.Goals as goal

pub depth-depth_one-requires : goal.depth-depth_one-requires
depth-depth_one-requires t c = (search (rules, the_lemmas), grind (arith, measuring))

pub depth_one-depth-requires : goal.depth_one-depth-requires
depth_one-depth-requires t c = (search (rules, the_lemmas), grind (arith, measuring))

pub depth_one-depth-requires-in-Loop : goal.depth_one-depth-requires-in-Loop
depth_one-depth-requires-in-Loop t c = (search (rules, the_lemmas), grind (arith, measuring))

pub depth_one-depth-requires-in-If : goal.depth_one-depth-requires-in-If
depth_one-depth-requires-in-If t c = (search (rules, the_lemmas), grind (arith, measuring))

pub depth_one-depth-requires-in-If-2 : goal.depth_one-depth-requires-in-If-2
depth_one-depth-requires-in-If-2 t c = (search (rules, the_lemmas), grind (arith, measuring))

pub depth-loop-instr-preserved : goal.depth-loop-instr-preserved
depth-loop-instr-preserved t c =
    let step = depth_step c.args.body.now c.loop-instr.instr-index c.instr-item.result (omega (arith, c.loop-instr-test.true)) c.instr-item.is in
    let counted = count_step c.args.body.now c.loop-instr.instr-index c.instr-item.result (omega (arith, c.loop-instr-test.true)) c.instr-item.is in
    let greater = c.max-deepest.ensures ∙ max_is c.loop-instr.deepest c.depth_one.result in
    (omega (arith, step, greater, c.depth_one.ensures, c.loop-instr.invariant.0), omega (arith, counted, c.loop-instr.invariant.1))

pub depth_one-returns-in_default : goal.depth_one-returns-in_default
depth_one-returns-in_default t c = depth_other _ c.in_default.not-Block c.in_default.not-Loop c.in_default.not-If
