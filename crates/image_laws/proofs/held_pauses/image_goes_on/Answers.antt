use Rattle.image_laws.proofs.Emitted.{image_goes_on}
use Rattle.image_laws.proofs.held_pauses.image_goes_on.Goals as goal

pub returns : goal.returns
returns c = image_goes_on
