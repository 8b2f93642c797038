use Rattle.emitted_form.proofs.BytesByPolicy.{written_short}
use Rattle.emitted_form.proofs.policy_bytes.written_functions_are_short.Goals as goal

pub returns : goal.returns
returns c = written_short
