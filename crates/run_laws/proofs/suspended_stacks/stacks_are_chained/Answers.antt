use Rattle.run_laws.proofs.StandingPauses.{stacks_chained, pauses_told, pauses_of_entries}
use Rattle.run_laws.proofs.suspended_stacks.stacks_are_chained.Goals as goal

pub returns-clause-stacks : goal.returns-clause-stacks
returns-clause-stacks c = stacks_chained

pub returns-clause-pauses : goal.returns-clause-pauses
returns-clause-pauses c = pauses_told

pub returns-clause-entries : goal.returns-clause-entries
returns-clause-entries c = pauses_of_entries
