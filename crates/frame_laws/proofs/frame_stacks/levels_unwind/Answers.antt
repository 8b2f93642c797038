use Rattle.frame_laws.proofs.UnwoundStacks.{stop_above_law, unwind_above_law, unwind_onto_law}
use Rattle.frame_laws.proofs.frame_stacks.levels_unwind.Goals as goal

-- src/frame_stacks.rt:34:1
pub returns-clause-unwinds : goal.returns-clause-unwinds
returns-clause-unwinds c = unwind_above_law

-- src/frame_stacks.rt:34:1
pub returns-clause-onto : goal.returns-clause-onto
returns-clause-onto c = unwind_onto_law

-- src/frame_stacks.rt:34:1
pub returns-clause-stops : goal.returns-clause-stops
returns-clause-stops c = stop_above_law
