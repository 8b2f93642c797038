use Rattle.std.proofs.Common.{◌≡◌, ℕ, List, take}
use Rattle.std.specs.List.{find}
use Rattle.std.specs.Option.{option_map}
use Rattle.wa_types.specs.declared.syntax.Export.{Export}
use Rattle.wa_types.specs.Validity.{same_name}
use Rattle.host_setup.specs.SetUp.{func_of}
use Rattle.host_setup.specs.Views.{named_in}
use Rattle.host_setup.proofs.exports.by_name.Given as goal

abbrev pub invariant-loop-export : goal.invariant-loop-export
invariant-loop-export l = (name : List ℕ) → named_in l.names name ≡ option_map func_of (find (λ (e : Export). same_name e.name name) (take l.export-index l.exports))
