use Rattle.transcript.proofs.Printed.{memory_alone}
use Rattle.transform_command.proofs.report.report.Goals as goal

pub returns-in_default-clause-memory : goal.returns-in_default-clause-memory
returns-in_default-clause-memory g c = λ h. memory_alone _ _ _ _ _ c.out_of_memory.ensures.printed
