use Rattle.call_frames.proofs.FramedSets.{framed_law}
use Rattle.call_frames.proofs.class_laws.sets_are_framed.Goals as goal

pub returns : goal.returns
returns c = framed_law
