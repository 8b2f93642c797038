use Rattle.slot_laws.proofs.SavedOperands.{calls_at_points}
use Rattle.slot_laws.proofs.slots.calls_are_at_points.Goals as goal

pub returns : goal.returns
returns c = calls_at_points
