use Rattle.run_theory.proofs.NamedModules.{valid_instance}
use Rattle.run_theory.proofs.GrownInstances.{opening_stays, opens_grown}
use Rattle.run_theory.proofs.growth_laws.instances_stay.Goals as goal

pub returns : goal.returns
returns c = λ m ts fs gs es imports v h. opens_grown _ _ _ _ (opening_stays m ts fs gs es imports h (valid_instance m v))
