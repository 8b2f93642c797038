-- The rules outside bodies, of the lists of a module.
use Rattle.std.specs.Prelude.{ℕ, List, [], Option, Some, None, Bool, true, if◌then◌else◌}
use Rattle.std.specs.List.{filter_map}
use Rattle.wa_types.specs.declared.rules.Rule.TheVariants.{BadLimits, SecondInstance, NotConstant, DuplicateExport, StartType, SecondResult}
use Rattle.wa_types.specs.declared.syntax.Export.{Export}
use Rattle.wa_types.specs.declared.syntax.Space.{Space}
use Rattle.wa_types.specs.Syntax.{Module}
use Rattle.wa_types.specs.Validity.{same_space, all_limits_fit, one_each, all_constant, names_differ, start_lawful, one_result, unless}

-- the index that is exported, if it is one of that space
abbrev pub index_in : Space → Export → Option ℕ
index_in space e = if same_space e.space space then Some e.index else None

-- the indices of one space that are exported
abbrev pub exported_in : Space → List Export → List ℕ
exported_in space es = filter_map (λ (e : Export). index_in space e) es

-- an item passes a test, where it is told
abbrev pub option_all : {X : Type 0} → (X → Bool) → Option X → Bool
option_all p None = true
option_all p (Some x) = p x

-- the numbers of the rules from that on limits on that the module breaks, rising
abbrev pub later : Module → List ℕ
later m =
    unless (all_limits_fit m) BadLimits
    (unless (one_each m) SecondInstance
    (unless (all_constant m) NotConstant
    (unless (names_differ m) DuplicateExport
    (unless (start_lawful m) StartType
    (unless (one_result m) SecondResult [])))))
