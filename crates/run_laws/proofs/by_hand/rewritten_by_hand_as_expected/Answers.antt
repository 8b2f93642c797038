use Rattle.run_laws.proofs.RewrittenByHand.{right_is_expected}
use Rattle.run_laws.proofs.by_hand.rewritten_by_hand_as_expected.Goals as goal

pub returns : goal.returns
returns c = right_is_expected
