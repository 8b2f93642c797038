-- What a module has under an index, and lists that are gathered.
use Rattle.std.proofs.Common.{◌≡◌, ℕ, ◌+◌, ◌<◌, ◌≤◌, List, [], ◌∷◌, ◌++◌, length, map, get_or, take, slice_get, Some, None, ap, sym, ◌∙◌, refl, append_assoc}
use Rattle.std.specs.Option.{option_map}
use Rattle.std.proofs.lemmas.Option.{slice_get-map}
use Rattle.std.proofs.lemmas.List.{map_more, take_all}
use Rattle.wa_types.specs.declared.syntax.FuncType.{FuncType as FuncTypeValue}
use Rattle.wa_types.specs.Syntax.{Module}
use Rattle.wa_types.specs.Modules.{func_sorts, or_empty, empty_type, type_at, func_type_at}
use Rattle.wa_types.specs.View.{func_type_of}

pub sort_some : (ts : List FuncTypeValue) (x : ℕ) (t : FuncTypeValue) → slice_get ts x ≡ Some t → or_empty (slice_get (map func_type_of ts) x) ≡ func_type_of t
sort_some ts x t e = ap or_empty (slice_get-map func_type_of ts x ∙ ap (option_map func_type_of) e)

pub sort_none : (ts : List FuncTypeValue) (x : ℕ) → slice_get ts x ≡ None → or_empty (slice_get (map func_type_of ts) x) ≡ empty_type
sort_none ts x e = ap or_empty (slice_get-map func_type_of ts x ∙ ap (option_map func_type_of) e)

pub func_some : (m : Module) (x sort : ℕ) → slice_get (func_sorts m) x ≡ Some sort → func_type_at m x ≡ type_at m sort
func_some m x sort e = ap or_empty (slice_get-map (type_at m) (func_sorts m) x ∙ ap (option_map (type_at m)) e)

pub func_none : (m : Module) (x : ℕ) → slice_get (func_sorts m) x ≡ None → func_type_at m x ≡ empty_type
func_none m x e = ap or_empty (slice_get-map (type_at m) (func_sorts m) x ∙ ap (option_map (type_at m)) e)

pub ruleset looking = (sort_some, sort_none)

pub ruleset typing = (func_some, func_none)

pub map_map : {X Y Z : Type 0} (g : Y → Z) (f : X → Y) (xs : List X) → map g (map f xs) ≡ map (λ x. g (f x)) xs
map_map g f [] = refl
map_map g f (x ∷ xs) = ap (λ z. g (f x) ∷ z) (map_map g f xs)

-- one more item of a map, in front of which something stands
pub on_more : {X Y : Type 0} (f : X → Y) (front ys new : List Y) (xs : List X) (i : ℕ) (x : X) (y : Y) → new ≡ ys ++ y ∷ [] → y ≡ f x → i < length xs → x ≡ get_or xs i x
    → ys ≡ front ++ map f (take i xs)
    → new ≡ front ++ map f (take (i + 1) xs)
on_more f front ys new xs i x y e is h at before =
    e ∙ ap (λ z. z ++ y ∷ []) before ∙ ap (λ z. (front ++ map f (take i xs)) ++ z ∷ []) (is ∙ ap f at)
    ∙ append_assoc front (map f (take i xs)) (f (get_or xs i x) ∷ []) ∙ ap (λ z. front ++ z) (sym (map_more f xs i x h))

-- what stands behind a front, of a map of a map
pub on_close : {X Y Z : Type 0} (g : Y → Z) (f : X → Y) (front ys : List Z) (xs : List X) (i : ℕ) → length xs ≤ i → ys ≡ front ++ map (λ x. g (f x)) (take i xs) → ys ≡ front ++ map g (map f xs)
on_close g f front ys xs i h e = e ∙ ap (λ z. front ++ map (λ x. g (f x)) z) (take_all i xs h) ∙ ap (λ z. front ++ z) (sym (map_map g f xs))

pub ruleset appending = (on_more, on_more)
