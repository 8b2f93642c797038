use Rattle.std.proofs.Common.{◌+◌, length}
use Rattle.wa_types.specs.Base.{Base}
use Rattle.wa_types.specs.Runtime.{func_space, global_space, runtime_types, runtime_funcs, runtime_globals, runtime_exports, with_runtime}
use Rattle.run_theory.proofs.BaseValid.{base_valid}
use Rattle.run_theory.proofs.NamedModules.{valid_named}
use Rattle.run_theory.proofs.GrownSteps.{step_stays}
use Rattle.run_theory.proofs.GrownStretches.{leads_stay, ends_stay}
use Rattle.run_theory.proofs.growth_laws.reductions_stay.Goals as goal

pub returns-clause-steps : goal.returns-clause-steps
returns-clause-steps c = λ m ts fs gs es more d v h. step_stays m ts fs gs es (valid_named m v) more d h

pub returns-clause-stretches : goal.returns-clause-stretches
returns-clause-stretches c = λ m ts fs gs es more d d' cost v h l. leads_stay m ts fs gs es (valid_named m v) more d d' cost _ h l

pub returns-clause-ends : goal.returns-clause-ends
returns-clause-ends c = λ m ts fs gs es more d left used end v h e. ends_stay m ts fs gs es (valid_named m v) more d left used end h e

pub returns-clause-runtime : goal.returns-clause-runtime
unfolding Base with_runtime
returns-clause-runtime c = λ m more d v h.
    step_stays (Base m) runtime_types (runtime_funcs (length m.types) (global_space m) (global_space m + 1)) runtime_globals (runtime_exports (func_space m))
    (valid_named (Base m) (base_valid m v)) more d h
