use Rattle.assert_laws.proofs.BytesWithAsserts.{few_law}
use Rattle.assert_laws.proofs.LengthWithAsserts.{short_law}
use Rattle.assert_laws.proofs.asserted_modules.asserted_is_short.Goals as goal

pub returns-clause-locals : goal.returns-clause-locals
returns-clause-locals c = few_law

pub returns-clause-bytes : goal.returns-clause-bytes
returns-clause-bytes c = short_law
