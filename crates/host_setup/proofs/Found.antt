-- Exports that are kept by their names: the first of a name counts.
use Rattle.std.proofs.Common.{◌≡◌, ℕ, ◌+◌, ◌<◌, Bool, true, false, cond, Option, Some, None, List, [], ◌∷◌, ◌++◌, length, get_or, take, sym, ap, ◌∙◌, subst, refl, if◌then◌else◌}
use Rattle.std.specs.List.{find}
use Rattle.std.specs.Option.{is_some, option_map, option_or}
use Rattle.std.specs.Str.{bytes_eq}
use Rattle.std.specs.Borrow.{Bor}
use Rattle.std.specs.BTreeMap.{BTreeMap, UpdatesBy}
use Rattle.std.specs.Cmp.Lexicographic.{slice_cmp}
use Rattle.std.specs.Ordering.{nat_cmp}
use Rattle.std.proofs.lemmas.List.{take_more}
use Rattle.std.proofs.lemmas.Map.Text.{btree_map_updates_str}
use Rattle.std.proofs.lemmas.Slice.Eq.{bytes_eq-Decides}
use Rattle.wa_types.specs.declared.syntax.Export.{Export}
use Rattle.wa_types.specs.Validity.{same_name}
use Rattle.wasm_validate.proofs.NameLemmas.{same-pointwise}
use Rattle.host_setup.specs.SetUp.{func_of}
use Rattle.host_setup.specs.Views.{named_in}

or_else_none : {A : Type 0} (o : Option A) → option_or o None ≡ o
or_else_none None = refl
or_else_none (Some x) = refl

abbrev told : Bool → Export → Option (Option ℕ)
told t e = if t then Some (func_of e) else None

-- the name is there already
pub there_already : (names : BTreeMap (Bor (List ℕ)) (Option ℕ)) (key : List ℕ) (e : Export) → key ≡ e.name → is_some (named_in names key) ≡ true
    → (name : List ℕ) → named_in names name ≡ option_or (named_in names name) (told (same_name e.name name) e)
there_already names key e k some name = by_name (same_name e.name name) refl where
  some_first : (o : Option (Option ℕ)) (other : Option (Option ℕ)) → is_some o ≡ true → o ≡ option_or o other
  some_first (Some x) other h = refl
  some_first None other h = let no : ⊥ = cc in absurd no

  by_name : (t : Bool) → same_name e.name name ≡ t → named_in names name ≡ option_or (named_in names name) (told t e)
  by_name false h = sym (or_else_none (named_in names name))
  by_name true h =
      let same : e.name ≡ name = (bytes_eq-Decides e.name name).0 (sym (same-pointwise e.name name) ∙ h) in
      some_first (named_in names name) (told true e) (subst (λ (n : List ℕ). is_some (named_in names n) ≡ true) (k ∙ same) some)

-- one more name
pub put_there : (old new : BTreeMap (Bor (List ℕ)) (Option ℕ)) (key : List ℕ) (e : Export) → key ≡ e.name → is_some (named_in old key) ≡ false
    → UpdatesBy (λ (x y : Bor (List ℕ)). slice_cmp nat_cmp x.now y.now) (λ (k : Bor (List ℕ)). slice_cmp nat_cmp key k.now) old new (Some (func_of e))
    → (name : List ℕ) → named_in new name ≡ option_or (named_in old name) (told (same_name e.name name) e)
put_there old new key e k none u name =
    btree_map_updates_str key old new (Some (func_of e)) u name ∙ by_name (bytes_eq key name) refl
  where
    none_first : (o : Option (Option ℕ)) (other : Option (Option ℕ)) → is_some o ≡ false → other ≡ option_or o other
    none_first None other h = refl
    none_first (Some x) other h = let no : ⊥ = cc in absurd no

    same_test : same_name e.name name ≡ bytes_eq key name
    same_test = same-pointwise e.name name ∙ ap (λ (n : List ℕ). bytes_eq n name) (sym k)

    by_name : (t : Bool) → bytes_eq key name ≡ t → cond t (Some (func_of e)) (named_in old name) ≡ option_or (named_in old name) (told (same_name e.name name) e)
    by_name false h = sym (or_else_none (named_in old name)) ∙ ap (λ (t : Bool). option_or (named_in old name) (told t e)) (sym (same_test ∙ h))
    by_name true h =
        none_first (named_in old name) (Some (func_of e)) (subst (λ (n : List ℕ). is_some (named_in old n) ≡ false) ((bytes_eq-Decides key name).0 h) none)
        ∙ ap (λ (t : Bool). option_or (named_in old name) (told t e)) (sym (same_test ∙ h))

-- the first of a name among exports, one more behind them
abbrev first_of : List ℕ → List Export → Option (Option ℕ)
first_of name es = option_map func_of (find (λ (e : Export). same_name e.name name) es)

found_more : (name : List ℕ) (es : List Export) (e : Export) → first_of name (es ++ e ∷ []) ≡ option_or (first_of name es) (told (same_name e.name name) e)
found_more name [] e = by_name (same_name e.name name) where
  by_name : (t : Bool) → option_map func_of (cond t (Some e) None) ≡ told t e
  by_name true = refl
  by_name false = refl
found_more name (x ∷ es) e = by_name (same_name x.name name) (found_more name es e) where
  by_name : (t : Bool) → first_of name (es ++ e ∷ []) ≡ option_or (first_of name es) (told (same_name e.name name) e)
      → option_map func_of (cond t (Some x) (find (λ (y : Export). same_name y.name name) (es ++ e ∷ [])))
      ≡ option_or (option_map func_of (cond t (Some x) (find (λ (y : Export). same_name y.name name) es))) (told (same_name e.name name) e)
  by_name true h = refl
  by_name false h = h

pub next_export : (old new : List ℕ → Option (Option ℕ)) (es : List Export) (i : ℕ) (e : Export) → i < length es → e ≡ get_or es i e → ((name : List ℕ) → old name ≡ first_of name (take i es))
    → ((name : List ℕ) → new name ≡ option_or (old name) (told (same_name e.name name) e)) → (name : List ℕ) → new name ≡ first_of name (take (i + 1) es)
next_export old new es i e lt at before now name =
    now name ∙ ap (λ o. option_or o (told (same_name e.name name) e)) (before name) ∙ sym (found_more name (take i es) e)
    ∙ ap (λ (x : Export). first_of name (take i es ++ x ∷ [])) at ∙ ap (first_of name) (sym (take_more es i e lt))
