use Rattle.std.proofs.Common.{refl}
use Rattle.checks.proofs.definition_check.lists.Goals as goal

pub returns : goal.returns
returns c = record {
  empty_text = refl;
  empty_between = refl;
  empty_at_end = refl;
  star_not_last = refl;
  without_dot = refl;
  first_error = refl;
  two_entries = refl;
  star_alone = refl;
}
