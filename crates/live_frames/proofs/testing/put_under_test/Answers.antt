use Rattle.std.proofs.Common.{refl}
use Rattle.local_spill.proofs.PutLemmas.{put_one, put_on, if_is, no_code}
use Rattle.live_frames.proofs.testing.put_under_test.Goals as goal

pub returns : goal.returns
returns c = put_on _ _ _ _ _ c.in_ok-put_test.ensures (put_one _ _ _ _ c.in_ok-push.ensures.items (if_is _ _ _ _ refl (no_code _ c.new.ensures.items)))
