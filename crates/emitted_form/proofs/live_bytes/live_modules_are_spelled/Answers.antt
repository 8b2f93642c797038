use Rattle.emitted_form.proofs.LiveLength.{spelled_law}
use Rattle.emitted_form.proofs.live_bytes.live_modules_are_spelled.Goals as goal

pub returns : goal.returns
returns c = spelled_law
