use Rattle.live_locals.proofs.SavedLive.{live_is_saved}
use Rattle.live_locals.proofs.saved_locals.live_is_saved.Goals as goal

pub returns : goal.returns
returns c = live_is_saved
