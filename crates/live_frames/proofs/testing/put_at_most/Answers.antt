use Rattle.local_spill.proofs.PutLemmas.{put_one, put_on, const_is, num_is}
use Rattle.live_frames.proofs.testing.put_at_most.Goals as goal

pub returns : goal.returns
returns c = put_on _ _ _ _ _ (put_one _ _ _ _ c.in_ok-push.ensures.items (const_is _)) (put_one _ _ _ _ c.in_ok-push-2.ensures.items (num_is _))
