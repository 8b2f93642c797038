use Rattle.assert_laws.proofs.EmittedAsserts.{given_law}
use Rattle.assert_laws.proofs.asserted_modules.asserted_behaves_given.Goals as goal

pub returns : goal.returns
returns c = given_law
