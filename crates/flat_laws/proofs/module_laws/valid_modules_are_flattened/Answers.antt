use Rattle.flat_laws.proofs.FlatModules as W
use Rattle.flat_laws.proofs.RuntimeModules as R
use Rattle.flat_laws.proofs.module_laws.valid_modules_are_flattened.Goals as goal

pub returns-clause-own : goal.returns-clause-own
returns-clause-own c = λ m which v. W.valid_is_flattened m which v

pub returns-clause-runtime : goal.returns-clause-runtime
returns-clause-runtime c = λ m which v. R.runtime_is_flattened m which v

pub returns-clause-same : goal.returns-clause-same
returns-clause-same c = λ m x f v is. (R.base_flattened m v x f is, R.base_names m v x f is)
