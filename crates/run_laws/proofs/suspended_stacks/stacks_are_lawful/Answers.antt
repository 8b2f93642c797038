use Rattle.run_laws.proofs.SpotRuns.{stacks_lawful, code_stands_behind}
use Rattle.run_laws.proofs.suspended_stacks.stacks_are_lawful.Goals as goal

pub returns-clause-stacks : goal.returns-clause-stacks
returns-clause-stacks c = stacks_lawful

pub returns-clause-code : goal.returns-clause-code
returns-clause-code c = code_stands_behind
