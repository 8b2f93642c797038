use Rattle.emitted_form.proofs.LiveRelation.{live_locals_stand}
use Rattle.emitted_form.proofs.live_suffices.live_locals_stand.Goals as goal

pub returns : goal.returns
returns c = live_locals_stand
