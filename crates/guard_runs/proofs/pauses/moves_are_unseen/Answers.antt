use Rattle.guard_runs.proofs.UnseenMoves.{each_instant}
use Rattle.guard_runs.proofs.pauses.moves_are_unseen.Goals as goal

pub returns : goal.returns
returns c = each_instant
