use Rattle.headline.proofs.StoresTogether.{store_laws}
use Rattle.headline.proofs.three_modules.stores_stay_together.Goals as goal

pub returns : goal.returns
returns c = store_laws
