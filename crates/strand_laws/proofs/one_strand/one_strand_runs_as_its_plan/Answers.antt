use Rattle.strand_laws.proofs.OneStrand.{one_strand_runs}
use Rattle.strand_laws.proofs.one_strand.one_strand_runs_as_its_plan.Goals as goal

pub returns : goal.returns
returns c = one_strand_runs
