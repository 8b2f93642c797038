use Rattle.headline.proofs.Sizes.{small_law}
use Rattle.headline.proofs.rewritten_modules.rewritten_is_small.Goals as goal

pub returns : goal.returns
returns c = small_law
