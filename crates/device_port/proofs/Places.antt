-- What stands at a place of a list, and the first device of a name.
use Rattle.std.proofs.Common.{Result, Ok, Err, IsErrOf, OnErr, arith, ◌≡◌, ◌^◌, inl, inr, ℕ, suc, zero, ◌+◌, ◌<◌, Bool, true, false, cond, ◌&&◌, ◌||◌, nat_eq, List, [], ◌∷◌, ◌++◌, length}
use Rattle.std.proofs.Common.{get_or, take, drop, set, map, slice_get, slice_set, Some, refl, sym, ap, ◌∙◌}
use Rattle.std.specs.List.{list_any, remove}
use Rattle.std.specs.Option.{option_map}
use Rattle.std.specs.Str.{bytes_eq}
use Rattle.std.proofs.lemmas.List.{length-map, map-set, map-append, drop-map, set-get_or}
use Rattle.std.proofs.lemmas.List.Folds.{list_any_more}
use Rattle.std.proofs.lemmas.Option.{slice_get-map, slice_get-get_or}
use Rattle.wa_types.specs.Validity.{same_name}
use Rattle.wa_types.specs.declared.values.Value.{Value}
use Rattle.wa_model.specs.declared.events.End.TheVariants.{DeviceFault, NoDevice}
use Rattle.wa_model.specs.Plan.{ValueFits, refused}
use Rattle.world_model.specs.World.{Device, Asked, is_named, journaled, taken_out, MeetsDevice}
use Rattle.std.proofs.lemmas.Map.Keys.{any_passes_from_place}
use Rattle.device_port.specs.declared.device.Reply.{Reply}
use Rattle.device_port.specs.Journals.{entry, with_entry, replied}
use Rattle.device_port.specs.Listed.{IsFirstOf, ChangesAt}

pub same_bytes : (xs ys : List ℕ) → same_name xs ys ≡ bytes_eq xs ys
same_bytes [] [] = refl
same_bytes [] (y ∷ ys) = refl
same_bytes (x ∷ xs) [] = refl
same_bytes (x ∷ xs) (y ∷ ys) = ap (λ b. nat_eq x y && b) (same_bytes xs ys)

true≢false : true ≡ false → ⊥
true≢false e = cc

-- ---- a meaning of each item

module _ {X Y : Type 0} (f : X → Y) where
  pub there : (xs : List X) (i : ℕ) (x : X) → i < length xs → x ≡ get_or xs i x → slice_get (map f xs) i ≡ Some (f x)
  there xs i x within is =
      slice_get-map f xs i ∙ ap (option_map f) (slice_get-get_or xs i x within) ∙ ap (λ y. Some (f y)) (sym is)

  pub take-map : (i : ℕ) (xs : List X) → take i (map f xs) ≡ map f (take i xs)
  take-map zero xs = refl
  take-map (suc i) [] = refl
  take-map (suc i) (x ∷ xs) = ap (λ l. f x ∷ l) (take-map i xs)

  pub any-map : (p : Y → Bool) (xs : List X) → list_any p (map f xs) ≡ list_any (λ x. p (f x)) xs
  any-map p [] = refl
  any-map p (x ∷ xs) = ap (λ b. p (f x) || b) (any-map p xs)

  -- one more that fails the test
  pub none_more : (p : Y → Bool) (xs : List X) (i : ℕ) (x : X) → i < length xs → x ≡ get_or xs i x → p (f x) ≡ false → list_any p (map f (take i xs)) ≡ false
      → list_any p (map f (take (i + 1) xs)) ≡ false
  none_more p xs i x within is fails none =
      any-map p (take (i + 1) xs)
      ∙ list_any_more (λ y. p (f y)) xs i x within
      ∙ ap (λ b. b || p (f (get_or xs i x))) (sym (any-map p (take i xs)) ∙ none)
      ∙ ap (λ y. p (f y)) (sym is) ∙ fails

  -- another item at a place
  pub changed : (R : Y → Y → Type 0) (xs : List X) (i : ℕ) (x y : X) → i < length xs → x ≡ get_or xs i x → R (f x) (f y) → ChangesAt R i (map f xs) (map f (set xs i y))
  changed R xs i x y within is so =
      record { before = f x; after = f y; there = there xs i x within is; changed = so; others = map-set f xs i y }

  pub unchanged : (xs : List X) (i : ℕ) (x y : X) → x ≡ get_or xs i x → f y ≡ f x → map f (set xs i y) ≡ map f xs
  unchanged xs i x y is same =
      map-set f xs i y ∙ ap (set (map f xs) i) same ∙ sym (map-set f xs i x) ∙ ap (λ z. map f (set xs i z)) is ∙ ap (map f) (set-get_or xs i x)

  pub removed : (xs ys : List X) (i : ℕ) → ys ≡ remove xs i → map f ys ≡ remove (map f xs) i
  removed xs ys i is =
      ap (map f) is ∙ map-append f (take i xs) (drop (suc i) xs) ∙ (λ k. sym (take-map i xs) k ++ sym (drop-map f (suc i) xs) k)

  pub inside : (xs : List X) (i : ℕ) → i < length (map f xs) → i < length xs
  inside xs i within = omega (arith, length-map xs f, within)

-- ---- tests

pub or_left : (a b : Bool) → (a || b) ≡ false → a ≡ false
or_left false b e = refl
or_left true b e = e

pub or_right : (a b : Bool) → (a || b) ≡ false → b ≡ false
or_right false b e = e
or_right true b e = absurd (true≢false e)

pub pick_true : {A : Type 0} (b : Bool) (x y : A) → b ≡ true → cond b x y ≡ x
pick_true true x y is = refl
pick_true false x y is = absurd (true≢false (sym is))

pub pick_false : {A : Type 0} (b : Bool) (x y : A) → b ≡ false → cond b x y ≡ y
pick_false false x y is = refl
pick_false true x y is = absurd (true≢false is)

pub some_is : {A : Type 0} (x y : A) → Some x ≡ Some y → x ≡ y
some_is x y e = cc

-- ---- the first of a name

module _ (name : List ℕ) where
  pub found : {X : Type 0} (f : X → Device) (xs : List X) (i : ℕ) (x : X) → i < length xs → x ≡ get_or xs i x → is_named name (f x) ≡ true
      → list_any (is_named name) (map f (take i xs)) ≡ false → IsFirstOf (map f xs) name i
  found f xs i x within is named none =
      record { device = f x; there = there f xs i x within is; named = named; first = ap (list_any (is_named name)) (take-map f i xs) ∙ none }

  pub journaled_first : (call : Asked) (ds : List Device) (i : ℕ) (d e : Device) → slice_get ds i ≡ Some d → is_named name d ≡ true → list_any (is_named name) (take i ds) ≡ false
      → e ≡ with_entry call d → slice_set ds i e ≡ journaled name call ds
  journaled_first call [] i d e is named none so = refl
  journaled_first call (x ∷ ds) zero d e is named none so =
      let same : x ≡ d = some_is x d is in
      ap (λ y. y ∷ ds) (so ∙ ap (with_entry call) (sym same)) ∙ sym (pick_true (is_named name x) _ _ (ap (is_named name) same ∙ named))
  journaled_first call (x ∷ ds) (suc i) d e is named none so =
      ap (λ l. x ∷ l) (journaled_first call ds i d e is named (or_right (is_named name x) _ none) so)
      ∙ sym (pick_false (is_named name x) _ _ (or_left (is_named name x) _ none))

  pub taken_out_first : (ds : List Device) (i : ℕ) (d : Device) → slice_get ds i ≡ Some d → is_named name d ≡ true → list_any (is_named name) (take i ds) ≡ false → remove ds i ≡ taken_out name ds
  taken_out_first [] i d is named none = absurd (true≢false cc)
  taken_out_first (x ∷ ds) zero d is named none =
      let same : x ≡ d = some_is x d is in
      sym (pick_true (is_named name x) _ _ (ap (is_named name) same ∙ named))
  taken_out_first (x ∷ ds) (suc i) d is named none =
      ap (λ l. x ∷ l) (taken_out_first ds i d is named (or_right (is_named name x) _ none))
      ∙ sym (pick_false (is_named name x) _ _ (or_left (is_named name x) _ none))

  pub journaled_by : (call : Asked) (old new : List Device) (i : ℕ) → IsFirstOf old name i → ChangesAt (λ d e. e ≡ with_entry call d) i old new → new ≡ journaled name call old
  journaled_by call old new i first changed =
      let same : changed.before ≡ first.device = some_is _ _ (sym changed.there ∙ first.there) in
      changed.others ∙ journaled_first call old i changed.before changed.after changed.there (ap (is_named name) same ∙ first.named) first.first changed.changed

  pub taken_out_by : (ds : List Device) (i : ℕ) → IsFirstOf ds name i → remove ds i ≡ taken_out name ds
  taken_out_by ds i first = taken_out_first ds i first.device first.there first.named first.first

-- ---- what a new call meets

pub is_there : (name : List ℕ) (ds : List Device) (i : ℕ) → IsFirstOf ds name i → list_any (is_named name) ds ≡ true
is_there name ds i first = any_passes_from_place (is_named name) ds i first.device first.there first.named

pub meets_reply : (import : ℕ) (base name : List ℕ) (args : List Value) (reply : Reply) (ds ds' : List Device) (i : ℕ) → IsFirstOf ds name i → ValueFits reply.value → reply.ticks < 2 ^ 32
    → ds' ≡ journaled name (entry base args reply) ds → MeetsDevice import base name args ds (replied reply) ds'
meets_reply import base name args reply ds ds' i first fits small is =
    rw (is_there name ds i first) (inl (record { value = reply.value; ticks = reply.ticks }, fits, small, refl, is))

pub meets_fault : (import : ℕ) (base name : List ℕ) (args : List Value) (ds ds' : List Device) (i : ℕ) → IsFirstOf ds name i → ds' ≡ ds
    → MeetsDevice import base name args ds (refused (DeviceFault import)) ds'
meets_fault import base name args ds ds' i first is = rw (is_there name ds i first) (inr (refl, is))

pub meets_none : (import : ℕ) (base name : List ℕ) (args : List Value) (ds : List Device) → list_any (is_named name) ds ≡ false → MeetsDevice import base name args ds (refused (NoDevice import)) ds
meets_none import base name args ds none = rw none (refl, refl)

-- what is said of an error, at this one
pub of_err : {T E P : Type 0} (r : Result T E) (e : E) → IsErrOf r e → OnErr r P → P
of_err (Ok x) e is p = absurd cc
of_err (Err x) e is p = p
