use Rattle.wa_types.specs.View.{onto, in_front}
use Rattle.live_frames.proofs.words.put_word.Goals as goal

pub returns : goal.returns
unfolding onto in_front
returns c = c.put_all.ensures
