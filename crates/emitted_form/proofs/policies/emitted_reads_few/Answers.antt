use Rattle.emitted_form.proofs.PolicyReads.{emitted_reads}
use Rattle.emitted_form.proofs.policies.emitted_reads_few.Goals as goal

pub returns : goal.returns
returns c = emitted_reads
