use Rattle.wa_types.specs.View.{onto, in_front}
use Rattle.live_frames.proofs.testing.put_difference.Goals as goal

pub returns : goal.returns
unfolding onto in_front
returns c = c.put_all.ensures
