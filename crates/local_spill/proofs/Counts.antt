-- Counting the imports of one kind.
use Rattle.std.proofs.Common.{◌≡◌, ◌+◌, ◌++◌, List, [], ◌∷◌, refl, sym, arith, length, Option, Some, None, true, false, cond, count_by, length-append, ◌<◌}
use Rattle.std.proofs.lemmas.List.{length-map, append-nil}
use Rattle.std.proofs.lemmas.List.Recursion.{is_count_by}
use Rattle.std.specs.Prelude.{is_some}
use Rattle.std.specs.List.{filter_map, list_any}
use Rattle.wa_types.specs.declared.syntax.Limits.{Limits}
use Rattle.wa_types.specs.Base.{added_memories, one_page}

step : {X Y : Type 0} → (f : X → Option Y) → (x : X) (xs : List X) (o : Option Y) → f x ≡ o
    → length (filter_map f (x ∷ xs)) ≡ cond (is_some (f x)) (1 + length (filter_map f xs)) (length (filter_map f xs))
step f x xs None e = rw e refl
step f x xs (Some y) e = rw e (omega arith)

-- those that give something are counted by a test
pub length-filter_map : {X Y : Type 0} → (f : X → Option Y) → (xs : List X) → length (filter_map f xs) ≡ count_by (λ z. is_some (f z)) xs
length-filter_map f xs = is_count_by (λ ys. length (filter_map f ys)) (λ z. is_some (f z)) refl (λ x ys. step f x ys (f x) refl) xs

none_step : {X Y : Type 0} → (f : X → Option Y) → (x : X) (xs : List X) (o : Option Y) → f x ≡ o → (list_any (λ z. is_some (f z)) xs ≡ false → filter_map f xs ≡ [])
    → list_any (λ z. is_some (f z)) (x ∷ xs) ≡ false → filter_map f (x ∷ xs) ≡ []
none_step f x xs None e h k = rw e (h (rw e at k))
none_step f x xs (Some y) e h k = absurd (let w = rw e at k in cc)

-- where none gives something, nothing is given
pub filter_map-none : {X Y : Type 0} → (f : X → Option Y) → (xs : List X) → list_any (λ z. is_some (f z)) xs ≡ false → filter_map f xs ≡ []
filter_map-none f [] h = refl
filter_map-none f (x ∷ xs) h = none_step f x xs (f x) refl (filter_map-none f xs) h

some_step : {X Y : Type 0} → (f : X → Option Y) → (x : X) (xs : List X) (o : Option Y) → f x ≡ o
    → (list_any (λ z. is_some (f z)) xs ≡ true → (y : Y) × (ys : List Y) × (filter_map f xs ≡ y ∷ ys)) → list_any (λ z. is_some (f z)) (x ∷ xs) ≡ true
    → (y : Y) × (ys : List Y) × (filter_map f (x ∷ xs) ≡ y ∷ ys)
some_step f x xs None e h k = let r = h (rw e at k) in (r.0, r.1, rw e r.2)
some_step f x xs (Some y) e h k = (y, filter_map f xs, rw e refl)

-- where one gives something, something is given
pub filter_map-some : {X Y : Type 0} → (f : X → Option Y) → (xs : List X) → list_any (λ z. is_some (f z)) xs ≡ true → (y : Y) × (ys : List Y) × (filter_map f xs ≡ y ∷ ys)
filter_map-some f [] h = absurd (cc)
filter_map-some f (x ∷ xs) h = some_step f x xs (f x) refl (filter_map-some f xs) h

added_defined : (xs ys : List Limits) → 0 < length ys → added_memories (xs ++ ys) ≡ []
added_defined [] [] h = absurd (omega arith)
added_defined [] (y ∷ ys) h = refl
added_defined (x ∷ xs) ys h = refl

-- no memory is added where one is defined
pub kept_defined : (xs ys : List Limits) → 0 < length ys → ys ≡ ys ++ added_memories (xs ++ ys)
kept_defined xs ys h = rw (added_defined xs ys h) (sym (append-nil ys))

-- nor where one is imported
pub kept_imported : {X : Type 0} → (f : X → Option Limits) → (is : List X) (ys : List Limits) → list_any (λ z. is_some (f z)) is ≡ true → ys ≡ ys ++ added_memories (filter_map f is ++ ys)
kept_imported f is ys h = let w = filter_map-some f is h in rw w.2 (sym (append-nil ys))

-- else one is
pub got_one : {X : Type 0} → (f : X → Option Limits) → (is : List X) (ys : List Limits) → list_any (λ z. is_some (f z)) is ≡ false → length ys ≡ 0
    → ys ++ added_memories (filter_map f is ++ ys) ≡ ys ++ one_page ∷ []
got_one f is [] h e = rw (filter_map-none f is h) refl
got_one f is (y ∷ ys) h e = absurd (omega arith)

pub ruleset counting = (length-filter_map, length-append, length-map)
