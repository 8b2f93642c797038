use Rattle.checks.proofs.BeginningLemmas.{fault_found}
use Rattle.checks.proofs.definition_check.each_file_decided.Goals as goal

pub returns : goal.returns
returns c = fault_found
