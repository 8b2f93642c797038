use Rattle.live_locals.proofs.StepLemmas.{told_read, untold_read}
use Rattle.live_locals.proofs.sets.read_told.Goals as goal

pub returns-in-Some : goal.returns-in-Some
returns-in-Some c = told_read c.args.set.now c.read.new.set c.args.from c.in-Some.local c.in-Some.is c.read.ensures

pub returns-in_default : goal.returns-in_default
returns-in_default c = untold_read c.args.set.now c.args.from c.in_default.is
