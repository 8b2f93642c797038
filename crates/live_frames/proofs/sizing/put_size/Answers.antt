use Rattle.local_spill.proofs.PutLemmas.{put_one, put_on, const_is}
use Rattle.live_frames.proofs.sizing.put_size.Goals as goal

pub returns : goal.returns
returns c = put_on _ _ _ _ _ (put_one _ _ _ _ c.in_ok-push.ensures.items (const_is _)) c.in_ok-put_own_size.ensures
