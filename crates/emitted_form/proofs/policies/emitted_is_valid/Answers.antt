use Rattle.emitted_form.proofs.PolicyCases.{valid_as}
use Rattle.emitted_form.proofs.policies.emitted_is_valid.Goals as goal

pub returns : goal.returns
returns c = valid_as
