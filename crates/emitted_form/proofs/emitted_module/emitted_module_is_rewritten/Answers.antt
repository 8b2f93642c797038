use Rattle.emitted_form.proofs.EmittedRewritten.{rewritten_law, valid_law}
use Rattle.emitted_form.proofs.emitted_module.emitted_module_is_rewritten.Goals as goal

pub returns-clause-valid : goal.returns-clause-valid
returns-clause-valid c = valid_law

pub returns-clause-rewritten : goal.returns-clause-rewritten
returns-clause-rewritten c = rewritten_law
