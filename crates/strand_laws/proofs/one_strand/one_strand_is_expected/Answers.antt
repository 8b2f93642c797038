use Rattle.strand_laws.proofs.OneExpected.{one_strand_expected}
use Rattle.strand_laws.proofs.one_strand.one_strand_is_expected.Goals as goal

pub returns : goal.returns
returns c = one_strand_expected
