use Rattle.assert_laws.proofs.GuardedAsserts.{flat_law, guarded_law, written_law}
use Rattle.assert_laws.proofs.asserted_code.guarded_code_is_asserted.Goals as goal

pub returns-clause-flat : goal.returns-clause-flat
returns-clause-flat c = flat_law

pub returns-clause-guarded : goal.returns-clause-guarded
returns-clause-guarded c = guarded_law

pub returns-clause-written : goal.returns-clause-written
returns-clause-written c = written_law
