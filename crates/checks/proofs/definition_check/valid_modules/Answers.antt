use Rattle.checks.specs.Faults.{valid_cases}
use Rattle.std.proofs.Common.{refl}
use Rattle.wa_types.specs.FirstFault.{size}
use Rattle.validate_bodies.specs.Running.{checks}
use Rattle.checks.proofs.CaseLemmas.{all_say}
use Rattle.checks.proofs.definition_check.valid_modules.Goals as goal

pub returns : goal.returns
unfolding checks size
returns c = all_say valid_cases refl
