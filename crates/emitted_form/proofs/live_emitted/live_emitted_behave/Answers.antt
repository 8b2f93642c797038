use Rattle.emitted_form.proofs.LiveBehaving.{live_emitted_behave}
use Rattle.emitted_form.proofs.live_emitted.live_emitted_behave.Goals as goal

pub returns : goal.returns
returns c = live_emitted_behave
