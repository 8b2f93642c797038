use Rattle.flat_laws.proofs.Calls as C
use Rattle.flat_laws.proofs.Whole as W
use Rattle.flat_laws.proofs.flat_functions.flat_functions_fit.Goals as goal

pub returns-clause-meets : goal.returns-clause-meets
returns-clause-meets c = λ m x f v sizes is few. W.meets m x f v sizes is few

pub returns-clause-calls : goal.returns-clause-calls
returns-clause-calls c = λ m x f. C.calls_stay m x f

pub returns-clause-counted : goal.returns-clause-counted
returns-clause-counted c = λ m x f. W.counted m x f
