use Rattle.run_laws.proofs.Seeing.{seen_by_moves, seen_no_further, seen_events, seen_grows}
use Rattle.run_laws.proofs.touch_laws.touches_go_with_moves.Goals as goal

pub returns-clause-moves : goal.returns-clause-moves
returns-clause-moves c = seen_by_moves

pub returns-clause-last : goal.returns-clause-last
returns-clause-last c = seen_no_further

pub returns-clause-events : goal.returns-clause-events
returns-clause-events c = seen_events

pub returns-clause-grows : goal.returns-clause-grows
returns-clause-grows c = seen_grows
