use Rattle.emitted_form.proofs.PolicyCases.{given_as}
use Rattle.emitted_form.proofs.policies.emitted_behaves_given.Goals as goal

pub returns : goal.returns
returns c = given_as
