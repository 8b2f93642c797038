use Rattle.emitted_form.proofs.LiveSteps.{live_suffices}
use Rattle.emitted_form.proofs.live_suffices.live_locals_suffice.Goals as goal

pub returns : goal.returns
returns c = live_suffices
