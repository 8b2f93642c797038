-- A module that isn't reserved has no export under a name of the runtime.
use Rattle.std.proofs.Common.{◌≡◌, ℕ, zero, suc, ◌+◌, ◌<◌, ◌||◌, not, List, [], ◌∷◌, Option, Some, None, Bool, true, false, cond, refl, sym, ap, ◌∙◌, length, arith, All, Contains}
use Rattle.std.specs.Prelude.{slice_index_or, nat_lt, position}
use Rattle.std.specs.List.{list_any, position_or_len}
use Rattle.std.specs.Str.{bytes_eq}
use Rattle.std.proofs.lemmas.Bool.{or_parts, lt-ltb, le-ltb, ltb-true, ltb-false}
use Rattle.std.proofs.lemmas.List.Elements.{All-nil, All-cons}
use Rattle.std.proofs.lemmas.Slice.Eq.{bytes_eq-Decides}
use Rattle.wa_types.specs.declared.syntax.Export.{Export}
use Rattle.wa_types.specs.Syntax.{Module}
use Rattle.wa_types.specs.Runtime.{runtime_names}
use Rattle.run_theory.specs.Quiet.{FreeOfNames}
use Rattle.local_spill.specs.Reserved.{is_runtime_name, reserved_import, reserved_export, first_reserved, reserved_at}

not_named : (name : List ℕ) (names : List (List ℕ)) → list_any (λ own. bytes_eq name own) names ≡ false → Contains names name → ⊥
not_named name [] h c = let lt = c.1 in absurd (omega arith)
not_named name (own ∷ names) h c =
    let b = or_parts (bytes_eq name own) (list_any (λ x. bytes_eq name x) names) h in
    at (λ e. let t = sym b.0 ∙ (bytes_eq-Decides name own).1 e in cc) (not_named name names b.1) c.0 c.1 c.2
  where
    at : (name ≡ own → ⊥) → (Contains names name → ⊥) → (k : ℕ) → k < length (own ∷ names) → slice_index_or (own ∷ names) k name ≡ name → ⊥
    at differs rest zero lt e = differs (sym e)
    at differs rest (suc k) lt e = rest (k, omega arith, e)

each_free : (es : List Export) → list_any (λ (e : Export). is_runtime_name e.name) es ≡ false → All (λ (e : Export). Contains runtime_names e.name → ⊥) es
each_free [] h = All-nil (λ (e : Export). Contains runtime_names e.name → ⊥)
each_free (e ∷ es) h =
    let b = or_parts (is_runtime_name e.name) (list_any (λ (x : Export). is_runtime_name x.name) es) h in
    All-cons (λ (x : Export). Contains runtime_names x.name → ⊥) e es (not_named e.name runtime_names b.0) (each_free es b.1)

first_step : (b : Bool) (i n : ℕ) (c : Bool) → nat_lt i n ≡ c → nat_lt (cond (not b) (1 + i) 0) (suc n) ≡ (b || c)
first_step true i n c h = lt-ltb 0 (suc n) (omega arith)
first_step false i n true h = let k = ltb-true i n h in lt-ltb (1 + i) (suc n) (omega arith)
first_step false i n false h = let k = ltb-false i n h in le-ltb (1 + i) (suc n) (omega arith)

found_first : {X : Type 0} (p : X → Bool) (xs : List X) → nat_lt (position_or_len p xs) (length xs) ≡ list_any p xs
found_first p [] = refl
found_first p (x ∷ xs) = first_step (p x) (position_or_len p xs) (length xs) (list_any p xs) (found_first p xs)

none_found : {X : Type 0} (p : X → Bool) (xs : List X) → position p xs ≡ None → list_any p xs ≡ false
none_found p xs e = go (list_any p xs) (found_first p xs)
  where
    go : (b : Bool) → nat_lt (position_or_len p xs) (length xs) ≡ b → b ≡ false
    go false h = refl
    go true h = let z : position p xs ≡ Some (position_or_len p xs) = ap (λ b. cond b (Some (position_or_len p xs)) None) h in let bad : None ≡ Some (position_or_len p xs) = sym e ∙ z in cc

second_none : (a b : Option ℕ) → first_reserved a b ≡ None → b ≡ None
second_none (Some i) b e = cc
second_none None (Some j) e = cc
second_none None None e = refl

-- as `reserved` answers
pub unreserved_is_free : (m : Module) → reserved_at m ≡ None → FreeOfNames m
unreserved_is_free m e = each_free m.exports (none_found (λ (x : Export). is_runtime_name x.name) m.exports (second_none (reserved_import m.imports) (reserved_export m.exports) e))
