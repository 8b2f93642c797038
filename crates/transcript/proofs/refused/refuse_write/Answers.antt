use Rattle.transcript.proofs.Printed.{memory_alone}
use Rattle.transcript.proofs.refused.refuse_write.Goals as goal

pub returns-in-Err-clause-memory : goal.returns-in-Err-clause-memory
returns-in-Err-clause-memory g c = λ h. memory_alone _ _ _ _ _ c.out_of_memory.ensures.printed
