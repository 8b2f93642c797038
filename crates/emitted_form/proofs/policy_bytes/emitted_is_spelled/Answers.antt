use Rattle.emitted_form.proofs.BytesByPolicy.{spelled_as}
use Rattle.emitted_form.proofs.policy_bytes.emitted_is_spelled.Goals as goal

pub returns : goal.returns
returns c = spelled_as
