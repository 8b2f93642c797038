use Rattle.transcript.proofs.Printed.{memory_alone}
use Rattle.transcript.proofs.refused.refuse_program.Goals as goal

pub returns-clause-memory : goal.returns-clause-memory
returns-clause-memory g c = λ h. memory_alone _ _ _ _ _ c.out_of_memory.ensures.printed
