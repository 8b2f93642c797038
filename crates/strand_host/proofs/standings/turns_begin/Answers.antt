use Rattle.strand_host.proofs.StandingNext.{next_turn_begins, no_turn_is_left}
use Rattle.strand_host.proofs.StandingStart.{first_turn_begins}
use Rattle.strand_host.proofs.standings.turns_begin.Goals as goal

pub returns-clause-first : goal.returns-clause-first
returns-clause-first c = first_turn_begins

pub returns-clause-next : goal.returns-clause-next
returns-clause-next c = next_turn_begins

pub returns-clause-none : goal.returns-clause-none
returns-clause-none c = no_turn_is_left
