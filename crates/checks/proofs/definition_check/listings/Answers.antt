use Rattle.std.proofs.Common.{refl}
use Rattle.checks.proofs.definition_check.listings.Goals as goal

pub returns : goal.returns
returns c = record {
  begins = refl;
  begins_otherwise = refl;
  same_name = refl;
  longer_name = refl;
  shorter_name = refl;
  all_imports = refl;
  no_imports = refl;
}
