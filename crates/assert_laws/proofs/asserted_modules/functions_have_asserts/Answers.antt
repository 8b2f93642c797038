use Rattle.assert_laws.proofs.FunctionsWithAsserts.{functions_law}
use Rattle.assert_laws.proofs.asserted_modules.functions_have_asserts.Goals as goal

pub returns : goal.returns
returns c = functions_law
