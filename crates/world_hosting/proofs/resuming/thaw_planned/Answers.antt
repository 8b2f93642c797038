use Rattle.std.proofs.Common.{arith}
use Rattle.snapshot_store.specs.Views.{parts_of}
use Rattle.world_hosting.proofs.Thawed.{resumes, unfit}
use Rattle.world_hosting.proofs.resuming.thaw_planned.Goals as goal

pub returns-in-Ok : goal.returns-in-Ok
returns-in-Ok c = λ x p. resumes x c.args.planned p (parts_of c.args.parts.now) c.args.due c.args.memory.now c.in-Ok.program (omega (arith, c.if-due.false)) c.in-Ok.ensures

pub returns-in-Err : goal.returns-in-Err
returns-in-Err c = λ x p. unfit x c.args.planned p (parts_of c.args.parts.now) c.args.due c.args.memory.now c.in-Err.fault c.in-Err.ensures
