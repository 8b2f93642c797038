use Rattle.run_laws.proofs.StandingPauses.{calls_at_numbers, heeded_at_numbers, pauses_at_numbers}
use Rattle.run_laws.proofs.suspended_stacks.activations_stand_at_numbers.Goals as goal

pub returns-clause-calls : goal.returns-clause-calls
returns-clause-calls c = calls_at_numbers

pub returns-clause-pauses : goal.returns-clause-pauses
returns-clause-pauses c = pauses_at_numbers

pub returns-clause-heeded : goal.returns-clause-heeded
returns-clause-heeded c = heeded_at_numbers
