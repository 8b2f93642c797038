use Rattle.local_spill.proofs.PutLemmas.{if_is, no_code, trap_is}
use Rattle.local_spill.proofs.PutLemmas.{put_as}
use Rattle.live_frames.proofs.PutSteps.{room_put}
use Rattle.live_frames.proofs.locating.put_room_test.Goals as goal

pub returns : goal.returns
returns c =
    put_as c.put_all.result _ _ _ _
    (room_put _ _ _ _ _ c.load_of.ensures c.load_of-2.ensures (if_is _ _ _ _ (trap_is _ _ c.new-trap.ensures.items c.in_ok-push.ensures.items) (no_code _ c.new.ensures.items)))
    c.put_all.ensures
