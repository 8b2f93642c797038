use Rattle.frame_laws.proofs.FrameTypes.{save_typed, restore_typed}
use Rattle.frame_laws.proofs.frame_codes.frames_are_typed.Goals as goal

pub returns-clause-save : goal.returns-clause-save
returns-clause-save c = save_typed

pub returns-clause-restore : goal.returns-clause-restore
returns-clause-restore c = restore_typed
