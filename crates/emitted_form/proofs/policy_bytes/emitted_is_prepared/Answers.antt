use Rattle.emitted_form.proofs.BytesByPolicy.{prepared_as}
use Rattle.emitted_form.proofs.policy_bytes.emitted_is_prepared.Goals as goal

pub returns : goal.returns
returns c = prepared_as
