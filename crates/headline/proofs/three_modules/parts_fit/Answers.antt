use Rattle.headline.proofs.WorldParts.{world_fits}
use Rattle.headline.proofs.three_modules.parts_fit.Goals as goal

pub returns : goal.returns
returns c = world_fits
