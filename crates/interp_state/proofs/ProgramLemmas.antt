-- What a module has under an index.
use Rattle.std.proofs.Common.{◌≡◌, ℕ, List, map, slice_get, Some, None, ap, ◌∙◌}
use Rattle.std.specs.Option.{option_map}
use Rattle.std.proofs.lemmas.Option.{slice_get-map}
use Rattle.wa_types.specs.declared.syntax.FuncType.{FuncType as FuncTypeValue}
use Rattle.wa_types.specs.Syntax.{Module}
use Rattle.wa_types.specs.Modules.{func_sorts, or_empty, empty_type, type_at, func_type_at}
use Rattle.wa_types.specs.View.{func_type_of}

pub sort_some : (ts : List FuncTypeValue) (x : ℕ) (t : FuncTypeValue) → slice_get ts x ≡ Some t → or_empty (slice_get (map func_type_of ts) x) ≡ func_type_of t
sort_some ts x t e = ap or_empty (slice_get-map func_type_of ts x ∙ ap (option_map func_type_of) e)

pub sort_none : (ts : List FuncTypeValue) (x : ℕ) → slice_get ts x ≡ None → or_empty (slice_get (map func_type_of ts) x) ≡ empty_type
sort_none ts x e = ap or_empty (slice_get-map func_type_of ts x ∙ ap (option_map func_type_of) e)

pub func_some : (m : Module) (x sort : ℕ) → slice_get (func_sorts m) x ≡ Some sort → func_type_at m x ≡ type_at m sort
func_some m x sort e = ap or_empty (slice_get-map (type_at m) (func_sorts m) x ∙ ap (option_map (type_at m)) e)

pub func_none : (m : Module) (x : ℕ) → slice_get (func_sorts m) x ≡ None → func_type_at m x ≡ empty_type
func_none m x e = ap or_empty (slice_get-map (type_at m) (func_sorts m) x ∙ ap (option_map (type_at m)) e)

pub ruleset looking = (sort_some, sort_none)

pub ruleset typing = (func_some, func_none)

pub ruleset finding = (slice_get-map, slice_get-map)
