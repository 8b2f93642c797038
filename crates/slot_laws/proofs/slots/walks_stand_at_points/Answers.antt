use Rattle.slot_laws.proofs.TypingWalks.{typing_at_points}
use Rattle.slot_laws.proofs.WalkPoints.{walks_at_points}
use Rattle.slot_laws.proofs.slots.walks_stand_at_points.Goals as goal

pub returns-clause-points : goal.returns-clause-points
returns-clause-points c = walks_at_points

pub returns-clause-typing : goal.returns-clause-typing
returns-clause-typing c = typing_at_points
