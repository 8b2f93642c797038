use Rattle.assert_laws.proofs.BytesWithAsserts.{prepared_law}
use Rattle.assert_laws.proofs.asserted_modules.asserted_is_prepared.Goals as goal

pub returns : goal.returns
returns c = prepared_law
