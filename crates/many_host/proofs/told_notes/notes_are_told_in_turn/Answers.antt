use Rattle.many_host.proofs.Begun.{nothing_told, turn_begins}
use Rattle.many_host.proofs.Further.{turn_goes_on, turn_ends}
use Rattle.many_host.proofs.told_notes.notes_are_told_in_turn.Goals as goal

pub returns-clause-nothing : goal.returns-clause-nothing
returns-clause-nothing c = nothing_told

pub returns-clause-begins : goal.returns-clause-begins
returns-clause-begins c = turn_begins

pub returns-clause-goes_on : goal.returns-clause-goes_on
returns-clause-goes_on c = turn_goes_on

pub returns-clause-ends : goal.returns-clause-ends
returns-clause-ends c = turn_ends
