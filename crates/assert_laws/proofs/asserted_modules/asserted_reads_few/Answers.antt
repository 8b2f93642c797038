use Rattle.assert_laws.proofs.ReadsWithAsserts.{reads_law}
use Rattle.assert_laws.proofs.asserted_modules.asserted_reads_few.Goals as goal

pub returns : goal.returns
returns c = reads_law
