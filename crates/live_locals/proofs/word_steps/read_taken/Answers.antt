use Rattle.std.proofs.Common.{rules}
use Rattle.live_locals.proofs.StepLemmas.{taken_read}
use Rattle.live_locals.specs.Words.{world}
use Rattle.live_locals.proofs.word_steps.read_taken.Goals as goal

pub returns : goal.returns
returns c = λ i il. taken_read c.args.stack.now c.saturating_sub-left.result c.args.args (world i c.args.set.now) (world i c.read_slots.new.set) (search rules) (c.read_slots.ensures i il)
