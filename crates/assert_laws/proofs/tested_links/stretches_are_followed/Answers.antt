use Rattle.assert_laws.proofs.AssertLinks.{stretches_law}
use Rattle.assert_laws.proofs.tested_links.stretches_are_followed.Goals as goal

pub returns : goal.returns
returns c = stretches_law
