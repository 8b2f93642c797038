use Rattle.emitted_form.proofs.CodeAlone.{code_alone}
use Rattle.emitted_form.proofs.policies.emitted_differ_in_code.Goals as goal

pub returns : goal.returns
returns c = code_alone
