use Rattle.frame_laws.proofs.HeldFrames.{stacks_held, stacks_stay, places_lay}
use Rattle.frame_laws.proofs.frame_stacks.stacks_are_held.Goals as goal

pub returns-clause-held : goal.returns-clause-held
returns-clause-held c = stacks_held

pub returns-clause-stay : goal.returns-clause-stay
returns-clause-stay c = stacks_stay

pub returns-clause-lay : goal.returns-clause-lay
returns-clause-lay c = places_lay
