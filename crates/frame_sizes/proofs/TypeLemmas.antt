-- The parameters of a type, by its index.
use Rattle.std.proofs.Common.{◌≡◌, ℕ, ◌<◌, ◌≤◌, List, [], length, map, get_or, ap, ◌∙◌, refl}
use Rattle.std.specs.List.{slice_get}
use Rattle.std.specs.Option.{option_map}
use Rattle.std.proofs.lemmas.Option.{slice_get-map, slice_get_read, slice_get_past}
use Rattle.wa_types.specs.declared.values.ValType.{ValType}
use Rattle.wa_types.specs.declared.syntax.FuncType.{FuncType}
use Rattle.wa_types.specs.Modules.{or_empty}
use Rattle.wa_types.specs.View.{func_type_of}

abbrev pub params_at : List FuncType → ℕ → List ValType
params_at types i = (or_empty (slice_get (map func_type_of types) i)).params

pub params_there : (types : List FuncType) (i : ℕ) (t : FuncType) → i < length types → t ≡ get_or types i t → params_at types i ≡ t.params.items
params_there types i t lt e =
    ap (λ o. (or_empty o).params) (slice_get-map func_type_of types i ∙ ap (option_map func_type_of) (slice_get_read types (length types) i t refl lt e))

pub no_params : (types : List FuncType) (i : ℕ) → length types ≤ i → params_at types i ≡ []
no_params types i le = ap (λ o. (or_empty o).params) (slice_get-map func_type_of types i ∙ ap (option_map func_type_of) (slice_get_past types i le))
