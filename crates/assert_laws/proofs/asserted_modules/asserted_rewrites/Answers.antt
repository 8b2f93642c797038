use Rattle.assert_laws.proofs.EmittedAsserts.{rewrites_law}
use Rattle.assert_laws.proofs.asserted_modules.asserted_rewrites.Goals as goal

pub returns : goal.returns
returns c = rewrites_law
