use Rattle.world_laws.proofs.ImportTraps.{traps_are_answers, traps_end}
use Rattle.world_laws.proofs.event_laws.imports_trap_by_answers.Goals as goal

pub returns-clause-ends : goal.returns-clause-ends
returns-clause-ends c = traps_end

pub returns-clause-answers : goal.returns-clause-answers
returns-clause-answers c = traps_are_answers
