use Rattle.frame_laws.proofs.SavedFrames.{saves_law, overflows_law}
use Rattle.frame_laws.proofs.frame_codes.frames_are_saved.Goals as goal

pub returns-clause-saves : goal.returns-clause-saves
returns-clause-saves c = saves_law

pub returns-clause-overflows : goal.returns-clause-overflows
returns-clause-overflows c = overflows_law
