use Rattle.assert_laws.proofs.EmittedAsserts.{valid_law}
use Rattle.assert_laws.proofs.asserted_modules.asserted_is_valid.Goals as goal

pub returns : goal.returns
returns c = valid_law
