use Rattle.frame_laws.proofs.RestoredFrames.{restores_law}
use Rattle.frame_laws.proofs.frame_codes.frames_are_restored.Goals as goal

pub returns : goal.returns
returns c = restores_law
