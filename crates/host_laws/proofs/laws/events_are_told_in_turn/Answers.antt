use Rattle.host_laws.proofs.Tellings.{nothing_told_yet, one_more_told}
use Rattle.host_laws.proofs.laws.events_are_told_in_turn.Goals as goal

pub returns-clause-first : goal.returns-clause-first
returns-clause-first c = nothing_told_yet

pub returns-clause-next : goal.returns-clause-next
returns-clause-next c = one_more_told
