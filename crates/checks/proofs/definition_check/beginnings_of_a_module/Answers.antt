use Rattle.std.proofs.Common.{refl}
use Rattle.std.specs.Str.{is_utf8, chars}
use Rattle.wa_types.specs.Opcodes.{follows}
use Rattle.leb_numbers.specs.Leb.{unsigned_at, signed_at}
use Rattle.wa_types.specs.Begun.{next, settled}
use Rattle.checks.specs.Beginnings.{is_inside, walks, search}
use Rattle.checks.specs.Files.{beginnings}
use Rattle.checks.proofs.BeginningLemmas.{all_found}
use Rattle.checks.proofs.definition_check.beginnings_of_a_module.Goals as goal

pub returns : goal.returns
unfolding is_utf8 chars lib.Utf8.encode follows unsigned_at signed_at next settled is_inside walks search
returns c = all_found beginnings refl refl
