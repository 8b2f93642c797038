use Rattle.assert_laws.proofs.BytesWithAsserts.{spelled_law}
use Rattle.assert_laws.proofs.asserted_modules.asserted_is_spelled.Goals as goal

pub returns : goal.returns
returns c = spelled_law
