use Rattle.std.proofs.Common.{arith}
use Rattle.validate_bodies.proofs.ContextLemmas.{found_run}
use Rattle.validate_bodies.proofs.context.halved.Goals as goal

pub returns : goal.returns
returns c = found_run c.args.runs.now c.loop-low.low c.loop-low.high c.args.x _ c.loop-low.invariant.ordered c.loop-low-test.false (omega arith) c.loop-low.invariant.before c.loop-low.invariant.behind
