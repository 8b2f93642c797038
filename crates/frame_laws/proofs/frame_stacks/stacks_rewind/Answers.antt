use Rattle.frame_laws.proofs.RewoundStacks.{rewind_all_law, ask_again_law}
use Rattle.frame_laws.proofs.frame_stacks.stacks_rewind.Goals as goal

pub returns-clause-rewinds : goal.returns-clause-rewinds
returns-clause-rewinds c = rewind_all_law

pub returns-clause-asks : goal.returns-clause-asks
returns-clause-asks c = ask_again_law
