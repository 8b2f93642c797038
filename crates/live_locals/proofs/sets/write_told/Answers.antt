use Rattle.live_locals.proofs.StepLemmas.{told_written, untold_written}
use Rattle.live_locals.proofs.sets.write_told.Goals as goal

pub returns-in-Some : goal.returns-in-Some
returns-in-Some c = told_written c.args.set.now c.write.new.set c.args.to c.in-Some.local c.in-Some.is c.write.ensures

pub returns-in_default : goal.returns-in_default
returns-in_default c = untold_written c.args.set.now c.args.to c.in_default.is
