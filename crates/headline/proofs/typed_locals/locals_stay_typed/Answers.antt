use Rattle.headline.proofs.LocalsTyped.{locals_stay}
use Rattle.headline.proofs.typed_locals.locals_stay_typed.Goals as goal

pub returns : goal.returns
returns c = locals_stay
