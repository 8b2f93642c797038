use Rattle.emitted_form.proofs.PolicyCases.{sizes_as}
use Rattle.emitted_form.proofs.policies.emitted_keeps_sizes.Goals as goal

pub returns : goal.returns
returns c = sizes_as
