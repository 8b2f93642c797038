-- Devices by the names of imports: tables of places, one more line behind those before it.
use Rattle.std.proofs.Common.{◌≡◌, ℕ, suc, ◌+◌, ◌<◌, ◌≤◌, List, [], ◌∷◌, ◌++◌, length, map, get_or, take, Option, Some, None, Bool, true, false, ap, sym, ◌∙◌, refl, if◌then◌else◌}
use Rattle.std.specs.List.{cons_option, filter_map}
use Rattle.std.specs.Str.{bytes_eq}
use Rattle.std.specs.Borrow.{Bor}
use Rattle.std.specs.BTreeMap.{BTreeMap, UpdatesBy}
use Rattle.std.specs.Cmp.Lexicographic.{slice_cmp}
use Rattle.std.specs.Option.{option_map, option_or}
use Rattle.std.specs.Ordering.{nat_cmp}
use Rattle.std.proofs.lemmas.List.{map_more, take_all}
use Rattle.std.proofs.lemmas.Map.Text.{btree_map_updates_str}
use Rattle.std.proofs.lemmas.Option.{slice_get-map, slice_get_read}
use Rattle.wa_types.specs.declared.syntax.Import.{Import}
use Rattle.wa_types.specs.Modules.{imported_func}
use Rattle.wa_types.specs.Pausing.{joined_name}
use Rattle.script_model.specs.Script.{BindText}
use Rattle.script_reader.specs.declared.script.BindText.{BindText as BindValue}
use Rattle.script_reader.specs.Views.{bind_of}
use Rattle.script_setup.specs.Bindings.{bound_imports, last_device, where_func}
use Rattle.script_setup.specs.Places.{device_at, place_in}

-- ---- one for each function import

pub bound_each : (imports : List Import) (binds : List BindText) → length (bound_imports imports binds) ≡ length (filter_map (λ (i : Import). imported_func i.kind) imports)
bound_each [] binds = refl
bound_each (x ∷ xs) binds = by (imported_func x.kind) (bound_each xs binds) where
  by : (o : Option ℕ) → length (bound_imports xs binds) ≡ length (filter_map (λ (i : Import). imported_func i.kind) xs)
      → length (cons_option (where_func o (last_device (joined_name x) binds)) (bound_imports xs binds)) ≡ length (cons_option o (filter_map (λ (i : Import). imported_func i.kind) xs))
  by None more = more
  by (Some sort) more = ap suc more

-- by tables that tell the same
pub same_devices : (f h : List ℕ → Option (List ℕ)) (imports : List Import) → ((name : List ℕ) → f name ≡ h name)
    → filter_map (λ (i : Import). where_func (imported_func i.kind) (f (joined_name i))) imports ≡ filter_map (λ (i : Import). where_func (imported_func i.kind) (h (joined_name i))) imports
same_devices f h [] e = refl
same_devices f h (x ∷ xs) e =
    ap (λ (o : Option (List ℕ)). cons_option (where_func (imported_func x.kind) o) (filter_map (λ (i : Import). where_func (imported_func i.kind) (f (joined_name i))) xs)) (e (joined_name x))
    ∙ ap (cons_option (where_func (imported_func x.kind) (h (joined_name x)))) (same_devices f h xs e)

-- ---- the last line of a name

last_more : (name : List ℕ) (bs : List BindText) (b : BindText) → last_device name (bs ++ b ∷ []) ≡ (if bytes_eq b.import name then Some b.device else last_device name bs)
last_more name [] b = by_test (bytes_eq b.import name) where
  by_test : (t : Bool) → option_or None (if t then Some b.device else None) ≡ (if t then Some b.device else None)
  by_test true = refl
  by_test false = refl
last_more name (x ∷ bs) b = ap (λ (o : Option (List ℕ)). option_or o (own x)) (last_more name bs b) ∙ by_test (bytes_eq b.import name) where
  own : BindText → Option (List ℕ)
  own y = if bytes_eq y.import name then Some y.device else None

  by_test : (t : Bool) → option_or (if t then Some b.device else last_device name bs) (own x) ≡ (if t then Some b.device else option_or (last_device name bs) (own x))
  by_test true = refl
  by_test false = refl

module _ (xs : List BindValue) where
  abbrev all : List BindText
  all = map bind_of xs

  there : (i : ℕ) (x : BindValue) → i < length xs → x ≡ get_or xs i x → device_at all (Some i) ≡ Some x.device
  there i x lt at = ap (option_map (λ (b : BindText). b.device)) (slice_get-map bind_of xs i ∙ ap (option_map bind_of) (slice_get_read xs (length xs) i x refl lt at))

  -- one more line
  pub next_places : (old new : List ℕ → Option ℕ) (i : ℕ) (x : BindValue) → i < length xs → x ≡ get_or xs i x
      → ((name : List ℕ) → device_at all (old name) ≡ last_device name (map bind_of (take i xs)))
      → ((name : List ℕ) → new name ≡ (if bytes_eq x.import name then Some i else old name)) → (name : List ℕ) → device_at all (new name) ≡ last_device name (map bind_of (take (i + 1) xs))
  next_places old new i x lt at before now name =
      ap (device_at all) (now name) ∙ by (bytes_eq x.import name)
      ∙ ap (λ (o : Option (List ℕ)). if bytes_eq x.import name then Some x.device else o) (before name)
      ∙ sym (last_more name (map bind_of (take i xs)) (bind_of x))
      ∙ ap (λ (y : BindValue). last_device name (map bind_of (take i xs) ++ bind_of y ∷ [])) at ∙ ap (last_device name) (sym (map_more bind_of xs i x lt))
    where
      by : (t : Bool) → device_at all (if t then Some i else old name) ≡ (if t then Some x.device else device_at all (old name))
      by true = there i x lt at
      by false = refl

  pub all_places : (found : List ℕ → Option ℕ) (i : ℕ) → length xs ≤ i → ((name : List ℕ) → device_at all (found name) ≡ last_device name (map bind_of (take i xs)))
      → (name : List ℕ) → device_at all (found name) ≡ last_device name all
  all_places found i h e name = e name ∙ ap (λ (ys : List BindValue). last_device name (map bind_of ys)) (take_all i xs h)

-- ---- changes of the table

pub put_found : (old new : BTreeMap (Bor (List ℕ)) ℕ) (key wanted : List ℕ) (v : ℕ) → key ≡ wanted
    → UpdatesBy (λ (x y : Bor (List ℕ)). slice_cmp nat_cmp x.now y.now) (λ (k : Bor (List ℕ)). slice_cmp nat_cmp key k.now) old new (Some v)
    → (name : List ℕ) → place_in new name ≡ (if bytes_eq wanted name then Some v else place_in old name)
put_found old new key wanted v e u name =
    btree_map_updates_str key old new (Some v) u name ∙ ap (λ (k : List ℕ). if bytes_eq k name then Some v else place_in old name) e
