use Rattle.emitted_form.proofs.BytesByPolicy.{few_as, short_as}
use Rattle.emitted_form.proofs.policy_bytes.emitted_is_short.Goals as goal

pub returns-clause-locals : goal.returns-clause-locals
returns-clause-locals c = few_as

pub returns-clause-bytes : goal.returns-clause-bytes
returns-clause-bytes c = short_as
