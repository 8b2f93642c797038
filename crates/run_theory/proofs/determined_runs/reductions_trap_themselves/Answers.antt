use Rattle.run_theory.proofs.OwnTraps.{no_import_trap}
use Rattle.run_theory.proofs.determined_runs.reductions_trap_themselves.Goals as goal

pub returns : goal.returns
returns c = no_import_trap
