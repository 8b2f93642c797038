use Rattle.emitted_form.proofs.PolicyCases.{functions_law}
use Rattle.emitted_form.proofs.policies.functions_are_emitted.Goals as goal

pub returns : goal.returns
returns c = functions_law
