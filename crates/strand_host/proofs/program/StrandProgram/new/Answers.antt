use Rattle.strand_host.proofs.StrandFresh.{fails_so, sets_up}
use Rattle.strand_host.proofs.program.StrandProgram.new.Goals as goal

pub returns-in-Err : goal.returns-in-Err
returns-in-Err c = fails_so c.args.plan c.in-Err.fault c.in-Err.ensures

pub returns-in-Ok : goal.returns-in-Ok
returns-in-Ok c = sets_up c.args.plan c.in-Ok.field-0 c.requires c.in-Ok.ensures
