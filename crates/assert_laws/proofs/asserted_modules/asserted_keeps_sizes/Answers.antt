use Rattle.assert_laws.proofs.SizesWithAsserts.{sizes_law}
use Rattle.assert_laws.proofs.asserted_modules.asserted_keeps_sizes.Goals as goal

pub returns : goal.returns
returns c = sizes_law
