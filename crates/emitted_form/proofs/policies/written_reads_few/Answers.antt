use Rattle.emitted_form.proofs.PolicyReads.{written_reads}
use Rattle.emitted_form.proofs.policies.written_reads_few.Goals as goal

pub returns : goal.returns
returns c = written_reads
