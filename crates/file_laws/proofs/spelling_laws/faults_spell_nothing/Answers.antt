use Rattle.file_laws.proofs.OneFault.{fault_spells_none, fault_ends_all, one_fault}
use Rattle.file_laws.proofs.spelling_laws.faults_spell_nothing.Goals as goal

pub returns-clause-all : goal.returns-clause-all
returns-clause-all c = fault_spells_none

pub returns-clause-beginning : goal.returns-clause-beginning
returns-clause-beginning c = fault_ends_all

pub returns-clause-one : goal.returns-clause-one
returns-clause-one c = one_fault
