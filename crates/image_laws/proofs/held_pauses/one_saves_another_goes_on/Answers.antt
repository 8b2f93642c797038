use Rattle.image_laws.proofs.Joined.{one_saves_another_goes_on}
use Rattle.image_laws.proofs.held_pauses.one_saves_another_goes_on.Goals as goal

pub returns : goal.returns
returns c = one_saves_another_goes_on
