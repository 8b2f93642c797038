use Rattle.flat_laws.proofs.FlatModules as W
use Rattle.flat_laws.proofs.module_laws.flat_bodies_are_typed.Goals as goal

pub returns-clause-typed : goal.returns-clause-typed
returns-clause-typed c = λ m which x f v e. W.flat_is_typed m which x f v e

pub returns-clause-valid : goal.returns-clause-valid
returns-clause-valid c = λ m which v. W.valid_stays m which v

pub returns-clause-stmts : goal.returns-clause-stmts
returns-clause-stmts c = λ m which x f v e. W.flat_stmts_typed m which x f v e
