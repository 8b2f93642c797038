use Rattle.frame_laws.proofs.UnwoundStacks.{unwind_all_law, stop_all_law}
use Rattle.frame_laws.proofs.frame_stacks.stacks_unwind.Goals as goal

pub returns-clause-unwinds : goal.returns-clause-unwinds
returns-clause-unwinds c = unwind_all_law

pub returns-clause-stops : goal.returns-clause-stops
returns-clause-stops c = stop_all_law
