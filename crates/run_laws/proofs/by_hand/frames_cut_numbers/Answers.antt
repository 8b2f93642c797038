use Rattle.run_laws.proofs.RewrittenByHand.{frames_cut_numbers}
use Rattle.run_laws.proofs.by_hand.frames_cut_numbers.Goals as goal

pub returns : goal.returns
returns c = frames_cut_numbers
