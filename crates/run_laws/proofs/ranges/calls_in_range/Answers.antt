use Rattle.run_laws.proofs.Stretches.{calls_in_range, answers_in_range}
use Rattle.run_laws.proofs.ranges.calls_in_range.Goals as goal

pub returns-clause-calls : goal.returns-clause-calls
returns-clause-calls c = calls_in_range

pub returns-clause-answers : goal.returns-clause-answers
returns-clause-answers c = answers_in_range
