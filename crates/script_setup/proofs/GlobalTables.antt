-- Tables of imported globals and of the lines that set them, one more item behind those before it.
use Rattle.std.proofs.Common.{◌≡◌, ℕ, ◌+◌, ◌<◌, ◌≤◌, List, [], ◌∷◌, ◌++◌, length, map, get_or, take, Option, Some, None, Bool, true, false, cond, ◌||◌, ◌&&◌, not, ap, sym, ◌∙◌, refl, if◌then◌else◌}
use Rattle.std.specs.List.{filter_map, cons_option}
use Rattle.std.specs.Str.{bytes_eq}
use Rattle.std.proofs.lemmas.List.{take_more, take_all, map_more}
use Rattle.std.proofs.lemmas.List.Folds.{list_any-append}
use Rattle.std.specs.Prelude.{String}
use Rattle.std.specs.declared.alloc.Global.{Global}
use Rattle.std.specs.Borrow.{Bor}
use Rattle.std.specs.BTreeMap.{BTreeMap, UpdatesBy, get_by_text}
use Rattle.std.specs.Cmp.Lexicographic.{slice_cmp}
use Rattle.std.specs.Option.{option_or, unwrap_or}
use Rattle.std.specs.Ordering.{nat_cmp}
use Rattle.std.specs.String.{string_bytes, string_cmp}
use Rattle.std.proofs.lemmas.Map.Text.{btree_map_updates_str, btree_map_updates_text}
use Rattle.std.proofs.lemmas.Slice.Eq.{bytes_eq-Decides}
use Rattle.wa_types.specs.declared.values.ValType.{ValType}
use Rattle.wa_types.specs.declared.values.ValType.TheVariants.{I32, I64}
use Rattle.wa_types.specs.declared.values.Value.{Value}
use Rattle.wa_types.specs.declared.values.Value.TheVariants as V
use Rattle.wa_types.specs.declared.syntax.Import.{Import}
use Rattle.wa_types.specs.Encoding.{same_type}
use Rattle.wa_types.specs.Modules.{imported_global}
use Rattle.wa_types.specs.Pausing.{joined_name}
use Rattle.wa_types.specs.Typing.{GlobalType, type_of}
use Rattle.script_model.specs.Script.{GlobalText}
use Rattle.script_reader.specs.declared.script.GlobalText.{GlobalText as GlobalValue}
use Rattle.script_reader.specs.Views.{global_of}
use Rattle.script_setup.specs.declared.globals.Types.{Types}
use Rattle.script_setup.specs.SetUpRules.{has_type, is_global, imports_global, is_set, last_value, other_type, value_or_zero}
use Rattle.script_setup.specs.Tables.{no_types, types_in, value_in, with_type, with_global, types_of, is_lawful}

-- ---- types

or_no : (a : Bool) → (a || false) ≡ a
or_no true = refl
or_no false = refl

added : (n b h : Bool) → (n || ((b && h) || false)) ≡ (if b then (n || h) else n)
added n true h = ap (λ (x : Bool). n || x) (or_no h)
added n false h = or_no n

abbrev types : Bool → Bool → Types
types n w = record { narrow = n; wide = w }

with_one : (n w b : Bool) (o : Option GlobalType) → types (n || ((b && has_type I32 o) || false)) (w || ((b && has_type I64 o) || false)) ≡ with_global o b (types n w)
with_one n w true None = ap (λ (x : Bool). types x (w || false)) (or_no n) ∙ ap (types n) (or_no w)
with_one n w false None = ap (λ (x : Bool). types x (w || false)) (or_no n) ∙ ap (types n) (or_no w)
with_one n w true (Some g) =
    ap (λ (x : Bool). types x (w || (same_type g.ty I64 || false))) (added n true (same_type g.ty I32)) ∙ ap (types (n || same_type g.ty I32)) (added w true (same_type g.ty I64))
with_one n w false (Some g) = ap (λ (x : Bool). types x (w || false)) (or_no n) ∙ ap (types n) (or_no w)

one_more : (xs : List Import) (x : Import) (name : List ℕ) → types_of (xs ++ x ∷ []) name ≡ with_global (imported_global x.kind) (bytes_eq (joined_name x) name) (types_of xs name)
one_more xs x name =
    ap (λ (b : Bool). types b (imports_global (xs ++ x ∷ []) name I64)) (list_any-append (is_global name I32) xs (x ∷ []))
    ∙ ap (types (imports_global xs name I32 || imports_global (x ∷ []) name I32)) (list_any-append (is_global name I64) xs (x ∷ []))
    ∙ with_one (imports_global xs name I32) (imports_global xs name I64) (bytes_eq (joined_name x) name) (imported_global x.kind)

pub next_types : (old new : List ℕ → Types) (xs : List Import) (i : ℕ) (x : Import) → i < length xs → x ≡ get_or xs i x → ((name : List ℕ) → old name ≡ types_of (take i xs) name)
    → ((name : List ℕ) → new name ≡ with_global (imported_global x.kind) (bytes_eq (joined_name x) name) (old name)) → (name : List ℕ) → new name ≡ types_of (take (i + 1) xs) name
next_types old new xs i x lt at before now name =
    now name ∙ ap (with_global (imported_global x.kind) (bytes_eq (joined_name x) name)) (before name) ∙ sym (one_more (take i xs) x name)
    ∙ ap (λ (y : Import). types_of (take i xs ++ y ∷ []) name) at ∙ ap (λ (ys : List Import). types_of ys name) (sym (take_more xs i x lt))

pub all_types : (found : List ℕ → Types) (xs : List Import) (i : ℕ) → length xs ≤ i → ((name : List ℕ) → found name ≡ types_of (take i xs) name) → (name : List ℕ) → found name ≡ types_of xs name
all_types found xs i h e name = e name ∙ ap (λ (ys : List Import). types_of ys name) (take_all i xs h)

-- a lawful value by these types
pub lawful_is_set : (imports : List Import) (g : GlobalText) → is_lawful (types_of imports g.name) g.value ≡ is_set imports g
lawful_is_set imports g = by_value g.value where
  by_value : (v : Value) → is_lawful (types_of imports g.name) v ≡ (imports_global imports g.name (type_of v) && not (imports_global imports g.name (other_type (type_of v))))
  by_value (V.I32 n) = refl
  by_value (V.I64 n) = refl

-- ---- values

last_more : (name : List ℕ) (gs : List GlobalText) (g : GlobalText) → last_value name (gs ++ g ∷ []) ≡ (if bytes_eq g.name name then Some g.value else last_value name gs)
last_more name [] g = by_test (bytes_eq g.name name) where
  by_test : (b : Bool) → option_or None (if b then Some g.value else None) ≡ (if b then Some g.value else None)
  by_test true = refl
  by_test false = refl
last_more name (x ∷ gs) g = ap (λ (o : Option Value). option_or o (own x)) (last_more name gs g) ∙ by_test (bytes_eq g.name name) where
  own : GlobalText → Option Value
  own y = if bytes_eq y.name name then Some y.value else None

  by_test : (b : Bool) → option_or (if b then Some g.value else last_value name gs) (own x) ≡ (if b then Some g.value else option_or (last_value name gs) (own x))
  by_test true = refl
  by_test false = refl

pub next_values : (old new : List ℕ → Option Value) (xs : List GlobalValue) (i : ℕ) (x : GlobalValue) → i < length xs → x ≡ get_or xs i x
    → ((name : List ℕ) → old name ≡ last_value name (map global_of (take i xs)))
    → ((name : List ℕ) → new name ≡ (if bytes_eq x.name name then Some x.value else old name)) → (name : List ℕ) → new name ≡ last_value name (map global_of (take (i + 1) xs))
next_values old new xs i x lt at before now name =
    now name ∙ ap (λ (o : Option Value). if bytes_eq x.name name then Some x.value else o) (before name) ∙ sym (last_more name (map global_of (take i xs)) (global_of x))
    ∙ ap (λ (y : GlobalValue). last_value name (map global_of (take i xs) ++ global_of y ∷ [])) at ∙ ap (last_value name) (sym (map_more global_of xs i x lt))

pub all_values : (found : List ℕ → Option Value) (xs : List GlobalValue) (i : ℕ) → length xs ≤ i → ((name : List ℕ) → found name ≡ last_value name (map global_of (take i xs)))
    → (name : List ℕ) → found name ≡ last_value name (map global_of xs)
all_values found xs i h e name = e name ∙ ap (λ (ys : List GlobalValue). last_value name (map global_of ys)) (take_all i xs h)

-- values by tables that tell the same
pub same_values : (f h : List ℕ → Option Value) (imports : List Import) → ((name : List ℕ) → f name ≡ h name)
    → filter_map (λ (i : Import). value_or_zero (imported_global i.kind) (f (joined_name i))) imports ≡ filter_map (λ (i : Import). value_or_zero (imported_global i.kind) (h (joined_name i))) imports
same_values f h [] e = refl
same_values f h (x ∷ xs) e =
    ap (λ (o : Option Value). cons_option (value_or_zero (imported_global x.kind) o) (filter_map (λ (i : Import). value_or_zero (imported_global i.kind) (f (joined_name i))) xs)) (e (joined_name x))
    ∙ ap (cons_option (value_or_zero (imported_global x.kind) (h (joined_name x)))) (same_values f h xs e)

-- ---- changes of the tables

-- one more imported global under its name
pub put_found : (old new : BTreeMap (String Global) Types) (bs : List ℕ) (v : Types) (ty : ValType) → v ≡ with_type ty (types_in old bs)
    → UpdatesBy string_cmp (λ k. slice_cmp nat_cmp bs (string_bytes k)) old new (Some v) → (name : List ℕ)
    → types_in new name ≡ (if bytes_eq bs name then with_type ty (types_in old name) else types_in old name)
put_found old new bs v ty e u name = ap (λ (o : Option Types). unwrap_or o no_types) (btree_map_updates_text bs old new (Some v) u name) ∙ by (bytes_eq bs name) refl where
  by : (b : Bool) → bytes_eq bs name ≡ b → unwrap_or (cond b (Some v) (get_by_text old name)) no_types ≡ (if b then with_type ty (types_in old name) else types_in old name)
  by true h = e ∙ ap (λ (n : List ℕ). with_type ty (types_in old n)) ((bytes_eq-Decides bs name).0 h)
  by false h = refl

-- one more value under its name
pub put_told : (old new : BTreeMap (Bor (List ℕ)) Value) (key wanted : List ℕ) (v : Value) → key ≡ wanted
    → UpdatesBy (λ (x y : Bor (List ℕ)). slice_cmp nat_cmp x.now y.now) (λ (k : Bor (List ℕ)). slice_cmp nat_cmp key k.now) old new (Some v)
    → (name : List ℕ) → value_in new name ≡ (if bytes_eq wanted name then Some v else value_in old name)
put_told old new key wanted v e u name =
    btree_map_updates_str key old new (Some v) u name ∙ ap (λ (k : List ℕ). if bytes_eq k name then Some v else value_in old name) e
