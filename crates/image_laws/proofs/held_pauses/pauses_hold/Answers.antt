use Rattle.image_laws.proofs.Emitted.{pauses_hold}
use Rattle.image_laws.proofs.held_pauses.pauses_hold.Goals as goal

pub returns : goal.returns
returns c = pauses_hold
