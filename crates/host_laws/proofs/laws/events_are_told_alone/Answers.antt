use Rattle.host_laws.proofs.Tellings.{nothing_told_alone, one_more_alone}
use Rattle.host_laws.proofs.laws.events_are_told_alone.Goals as goal

pub returns-clause-first : goal.returns-clause-first
returns-clause-first c = nothing_told_alone

pub returns-clause-next : goal.returns-clause-next
returns-clause-next c = one_more_alone
