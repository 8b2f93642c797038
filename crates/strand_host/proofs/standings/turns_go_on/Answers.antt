use Rattle.strand_host.proofs.StandingTurns.{turn_moves, turn_tells}
use Rattle.strand_host.proofs.standings.turns_go_on.Goals as goal

pub returns-clause-moves : goal.returns-clause-moves
returns-clause-moves c = turn_moves

pub returns-clause-tells : goal.returns-clause-tells
returns-clause-tells c = turn_tells
