use Rattle.std.proofs.Common.{refl}
use Rattle.checks.proofs.PauseLemmas.{told_pauses, pauses_told}
use Rattle.checks.proofs.definition_check.only_sleeper_pauses.Goals as goal

pub returns : goal.returns
returns c = record { len = refl; each = λ x. (told_pauses x, pauses_told x) }
