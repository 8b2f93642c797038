use Rattle.std.proofs.Common.{rules}
use Rattle.live_locals.proofs.StepLemmas.{taken_read}
use Rattle.live_locals.proofs.steps.read_taken.Goals as goal

pub returns : goal.returns
returns c = taken_read c.args.stack.now c.saturating_sub-left.result c.args.args c.args.set.now c.read_slots.new.set (search rules) c.read_slots.ensures
