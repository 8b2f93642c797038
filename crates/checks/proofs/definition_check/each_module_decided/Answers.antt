use Rattle.validate_bodies.proofs.Decided.{module_decided}
use Rattle.checks.proofs.definition_check.each_module_decided.Goals as goal

pub returns : goal.returns
returns c = λ m. module_decided m
