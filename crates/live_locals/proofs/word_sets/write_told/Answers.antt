use Rattle.live_locals.proofs.StepLemmas.{told_written, untold_written}
use Rattle.live_locals.specs.Words.{world}
use Rattle.live_locals.proofs.word_sets.write_told.Goals as goal

pub returns-in-Some : goal.returns-in-Some
returns-in-Some c = λ i il. told_written (world i c.args.set.now) (world i c.write.new.set) c.args.to c.in-Some.local c.in-Some.is (c.write.ensures i il)

pub returns-in_default : goal.returns-in_default
returns-in_default c = λ i il. untold_written (world i c.args.set.now) c.args.to c.in_default.is
