use Rattle.std.proofs.Common.{arith}
use Rattle.wasm_grammar.proofs.short.pass_short.Goals as goal

pub loop-end-preserved : goal.loop-end-preserved
loop-end-preserved c = record {
  ahead = (let h = c.loop-end.invariant.ahead in let k = c.in-Some.ensures.ahead.0 in omega (arith, h, k));
  passes = λ bounds m b gs below s. c.in-Some.ensures.passes bounds m b gs below (c.loop-end.invariant.passes bounds m b gs below s);
}
