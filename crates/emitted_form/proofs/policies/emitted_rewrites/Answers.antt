use Rattle.emitted_form.proofs.PolicyCases.{rewrites_as}
use Rattle.emitted_form.proofs.policies.emitted_rewrites.Goals as goal

pub returns : goal.returns
returns c = rewrites_as
