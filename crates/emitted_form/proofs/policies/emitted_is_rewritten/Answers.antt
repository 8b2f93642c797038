use Rattle.emitted_form.proofs.PolicyCases.{rewritten_as}
use Rattle.emitted_form.proofs.policies.emitted_is_rewritten.Goals as goal

pub returns : goal.returns
returns c = rewritten_as
