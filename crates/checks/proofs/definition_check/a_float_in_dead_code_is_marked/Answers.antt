use Rattle.std.proofs.Common.{refl}
use Rattle.checks.proofs.FloatFile.{float_spelled}
use Rattle.checks.proofs.definition_check.a_float_in_dead_code_is_marked.Goals as goal

pub returns : goal.returns
returns c = (float_spelled, refl)
