-- What a call's set keeps is what the policy `live` saves there.
use Rattle.std.proofs.Common.{◌≡◌, ◌∙◌, ℕ, zero, suc, ◌+◌, ◌<◌, ◌↔◌, List, [], ◌∷◌, length, get_or, map, Some, Bool, true, false, All, refl, sym, ap, subst, arith}
use Rattle.std.specs.Prelude.{slice_get, if◌then◌else◌}
use Rattle.std.proofs.lemmas.List.Elements.{All-nil, All-cons}
use Rattle.std.proofs.lemmas.List.Sums.{sum_by-cons}
use Rattle.std.proofs.lemmas.Option.{slice_get_within}
use Rattle.wa_types.specs.declared.values.ValType.{ValType}
use Rattle.wa_types.specs.Frames.{Place, Saved, named_places, place_onto}
use Rattle.wa_types.specs.Pausing.{Numbered, Settings, calls_in, has_number, places_from, save_live}
use Rattle.wa_types.specs.Syntax.{Func, Module}
use Rattle.wa_types.specs.Validity.{Valid}
use Rattle.run_theory.specs.Flat.{FlatFunc}
use Rattle.run_theory.specs.FlatView.{flat_func_of}
use Rattle.flat_laws.specs.Flatten.{flattened}
use Rattle.flatten.specs.declared.whole.Flattened.{Flattened}
use Rattle.frame_laws.specs.Layout.{FrameField, kept, kept_count}
use Rattle.emitted_form.specs.LiveFrames.{fields_at}
use Rattle.live_locals.specs.LiveAt.{KeepsAt, LiveAtCalls}
use Rattle.live_locals.specs.Sets.{has}
use Rattle.live_locals.proofs.SavedLive.{live_is_saved}
use Rattle.call_frames.specs.Views.{fields_in, kept_total, kept_where}
use Rattle.emitted_form.specs.LiveParts.{saved_total}
use Rattle.func_rewrite.specs.Frames.{IsFlattened}

abbrev kept_place : Place → FrameField
kept_place p = kept p.local p.ty

-- ---- one set

-- the fields of a set are the places that it has
pub fields_named : (x : ℕ) (set : List Bool) (types : List ValType) (keep : ℕ → Bool) → length set ≡ length types → ((i : ℕ) → i < length set → keep (x + i) ≡ get_or set i false)
    → fields_in x set types ≡ map kept_place (named_places keep x types)
fields_named x [] [] keep e h = refl
fields_named x [] (t ∷ ts) keep e h = absurd (omega (arith, e))
fields_named x (b ∷ bs) [] keep e h = absurd (omega (arith, e))
fields_named x (b ∷ bs) (t ∷ ts) keep e h =
    let z : x ≡ x + 0 = omega arith in
    let here : b ≡ keep x = sym (ap keep z ∙ h 0 (omega arith)) in
    ap (λ c. kept_where c x t (fields_in (suc x) bs ts)) here
    ∙ by (keep x) (fields_named (suc x) bs ts keep (omega (arith, e)) (λ i lt. let n : suc x + i ≡ x + suc i = omega arith in ap keep n ∙ h (suc i) (omega (arith, lt))))
  where
    by : (c : Bool) → fields_in (suc x) bs ts ≡ map kept_place (named_places keep (suc x) ts)
        → kept_where c x t (fields_in (suc x) bs ts) ≡ map kept_place (place_onto c x t (named_places keep (suc x) ts))
    by true ih = ap (λ fs. kept x t ∷ fs) ih
    by false ih = ih

pub set_fields : (set : List Bool) (types : List ValType) → length set ≡ length types → fields_in 0 set types ≡ map kept_place (named_places (has set) 0 types)
set_fields set types e = fields_named 0 set types (has set) e (λ i lt. let z : 0 + i ≡ i = omega arith in ap (has set) z)

all_count : (ps : List Place) → kept_count (map kept_place ps) ≡ length ps
all_count [] = refl
all_count (p ∷ ps) = ap suc (all_count ps)

-- ---- places of calls

module _ {X : Type 0} (t : X → Bool) where
  pub places_below : (n : ℕ) (xs : List X) → All (λ p. p < n + length xs) (places_from t n xs)
  places_below n [] = All-nil (λ p. p < n + 0)
  places_below n (x ∷ xs) = by (t x) (wider (places_from t (suc n) xs) (places_below (suc n) xs))
    where
      wider : (ps : List ℕ) → All (λ p. p < suc n + length xs) ps → All (λ p. p < n + suc (length xs)) ps
      wider ps h k d lt = let a = h k d lt in omega (arith, a)

      by : (b : Bool) → All (λ p. p < n + suc (length xs)) (places_from t (suc n) xs) → All (λ p. p < n + suc (length xs)) (if b then n ∷ places_from t (suc n) xs else places_from t (suc n) xs)
      by true h = All-cons (λ p. p < n + suc (length xs)) n (places_from t (suc n) xs) (omega arith) h
      by false h = h

all_at : (bound : ℕ) (ps : List ℕ) (k p : ℕ) → All (λ q. q < bound) ps → slice_get ps k ≡ Some p → p < bound
all_at bound [] k p h e = cc
all_at bound (q ∷ ps) zero p h e = let z : q ≡ p = cc in let a = h 0 0 (omega arith) in omega (arith, a, z)
all_at bound (q ∷ ps) (suc k) p h e = all_at bound ps k p (λ j d lt. h (suc j) d (omega (arith, lt))) e

-- ---- the calls of a function

module _ (m : Module) (s : Settings) (which : List Bool) (f : Func) (v : Flattened) (valid : Valid m) (h : IsFlattened m f v)
    (ns : List ℕ) (sets : List (List Bool)) (en : ns ≡ Numbered m s which f) (live : LiveAtCalls (flat_func_of v.func) ns sets) where
  abbrev x : ℕ
  x = v.func.func

  abbrev types : List ValType
  types = v.func.locals.items

  same_types : types ≡ (flattened m x f).locals
  same_types = ap (λ (g : FlatFunc). g.locals) h.flat

  within : (k place : ℕ) → slice_get ns k ≡ Some place → place < length (calls_in f)
  within k place at =
      let a = all_at (0 + length (calls_in f)) (Numbered m s which f) k place (places_below (has_number m s which) 0 (calls_in f)) (ap (λ ps. slice_get ps k) (sym en) ∙ at) in omega (arith, a)

  pub sized : (k : ℕ) → k < length ns → length (get_or sets k []) ≡ length types
  sized k lt = live.locals k lt

  -- the places of a call's set are those that are saved
  pub places_saved : (k place : ℕ) → slice_get ns k ≡ Some place → named_places (has (get_or sets k [])) 0 types ≡ Saved m save_live f place
  places_saved k place at =
      let set : List Bool = get_or sets k [] in
      let exact : (y : ℕ) → y < length (flattened m x f).locals → (has set y ≡ true) ↔ KeepsAt (flattened m x f) place y =
      λ y lt. subst (λ (g : FlatFunc). y < length g.locals → (has set y ≡ true) ↔ KeepsAt g place y) h.flat (λ l. live.exact k place y at l) lt in
      ap (named_places (has set) 0) same_types ∙ live_is_saved m x f place (has set) valid h.defined (within k place at) exact

  pub fields_saved : (k place : ℕ) → slice_get ns k ≡ Some place → fields_in 0 (get_or sets k []) types ≡ fields_at m f place
  fields_saved k place at =
      let lt = slice_get_within ns k place at in
      set_fields (get_or sets k []) types (sized k lt) ∙ ap (map kept_place) (places_saved k place at)

  count_saved : (k place : ℕ) → slice_get ns k ≡ Some place → kept_count (fields_in 0 (get_or sets k []) types) ≡ length (Saved m save_live f place)
  count_saved k place at = ap kept_count (fields_saved k place at) ∙ all_count (Saved m save_live f place)

total_same : (m : Module) (f : Func) (types : List ValType) (ns : List ℕ) (sets : List (List Bool)) → length sets ≡ length ns
    → ((k place : ℕ) → slice_get ns k ≡ Some place → kept_count (fields_in 0 (get_or sets k []) types) ≡ length (Saved m save_live f place)) → kept_total types sets ≡ saved_total m f ns
total_same m f types [] [] e h = refl
total_same m f types [] (set ∷ sets) e h = absurd (omega (arith, e))
total_same m f types (n ∷ ns) [] e h = absurd (omega (arith, e))
total_same m f types (n ∷ ns) (set ∷ sets) e h =
    let a = h 0 n refl in
    let b = total_same m f types ns sets (omega (arith, e)) (λ k place at. h (suc k) place at) in
    let c = sum_by-cons (λ (place : ℕ). length (Saved m save_live f place)) n ns in omega (arith, a, b, c)

module _ (m : Module) (s : Settings) (which : List Bool) (f : Func) (v : Flattened) (valid : Valid m) (h : IsFlattened m f v)
    (ns : List ℕ) (sets : List (List Bool)) (en : ns ≡ Numbered m s which f) (live : LiveAtCalls (flat_func_of v.func) ns sets) where
  pub total_saved : kept_total v.func.locals.items sets ≡ saved_total m f (Numbered m s which f)
  total_saved =
      total_same m f v.func.locals.items ns sets live.calls (count_saved m s which f v valid h ns sets en live) ∙ ap (saved_total m f) en
