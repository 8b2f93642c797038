use Rattle.checks.specs.Faults.{module_cases}
use Rattle.std.proofs.Common.{refl}
use Rattle.wa_types.specs.FirstFault.{size}
use Rattle.validate_bodies.specs.Running.{checks}
use Rattle.checks.proofs.CaseLemmas.{all_say}
use Rattle.checks.proofs.definition_check.rules_outside_bodies.Goals as goal

pub returns : goal.returns
unfolding checks size
returns c = all_say module_cases refl
