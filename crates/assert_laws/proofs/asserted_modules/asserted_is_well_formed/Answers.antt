use Rattle.assert_laws.proofs.EmittedAsserts.{well_formed_law}
use Rattle.assert_laws.proofs.asserted_modules.asserted_is_well_formed.Goals as goal

pub returns : goal.returns
returns c = well_formed_law
