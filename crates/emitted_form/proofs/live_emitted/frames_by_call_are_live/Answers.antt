use Rattle.emitted_form.proofs.ByCallFramed.{by_call_framed}
use Rattle.emitted_form.proofs.live_emitted.frames_by_call_are_live.Goals as goal

pub returns : goal.returns
returns c = by_call_framed
