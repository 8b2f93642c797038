use Rattle.local_spill.proofs.PutLemmas.{put_as, taken_put}
use Rattle.local_spill.proofs.location.put_location_taken.Goals as goal

pub returns : goal.returns
returns c = put_as c.put_all.result _ _ _ _ (taken_put _ _ _ _ _ c.load_of.ensures c.store_of.ensures) c.put_all.ensures
