-- Texts in order, none of which begins another: which of them a name begins with.
use Rattle.std.proofs.Common.{arith, ◌≡◌, ◌⊎◌, ℕ, zero, suc, ◌+◌, ◌<◌, ◌≤◌, List, [], ◌∷◌, length, get_or, Bool, true, false, ◌&&◌, ◌||◌, cond, nat_eq, All, IsPermutation, Ordering, Less, Equal, Greater, refl, sym, ap, subst, ◌∙◌, inl, inr, true≢false}
use Rattle.std.specs.List.{list_any, starts_with, dedup, dedup_from, AllWithin}
use Rattle.std.specs.List.Sorted.{IsSorted, IsPartitionedBy}
use Rattle.std.specs.Cmp.Lexicographic.{slice_cmp, nat_list_cmp_total}
use Rattle.std.specs.Ordering.{is_le, is_lt, is_gt, nat_cmp, ordering_then, ordering_reverse}
use Rattle.std.specs.Borrow.{Bor}
use Rattle.std.proofs.lemmas.Bool.{and_parts}
use Rattle.std.proofs.lemmas.Bool.Decides.{Decides-eqb}
use Rattle.std.proofs.lemmas.Cmp.{by_ranked, nat_cmp_total, ranked, tied_itself, upto}
use Rattle.std.proofs.lemmas.List.Folds.{list_any_at, list_any_none}
use Rattle.std.proofs.lemmas.List.Sorted.{All-permutation, IsPermutation-sym}
use Rattle.wasm_validate.proofs.OrderedNames.{by_name}
use Rattle.call_graph.specs.Index.{any_begins, Upto, ApartFrom, Apart}

-- ---- the order of names

-- what the first bytes of two texts in order tell
first_bytes : (x y : ℕ) (o : Ordering) → is_le (ordering_then (nat_cmp x y) o) ≡ true → (x < y) ⊎ ((x ≡ y) × (is_le o ≡ true))
first_bytes x y o h =
    by_ranked (x < y) (x ≡ y) (y < x) (nat_cmp x y) (ranked x y (nat_cmp x y) refl) (λ e lt. inl lt) (λ e same. inr (same, sym (ap (λ c. is_le (ordering_then c o)) e) ∙ h))
    (λ e lt. absurd (true≢false (sym h ∙ ap (λ c. is_le (ordering_then c o)) e)))

not_after : (o : Ordering) → is_le o ≡ true → is_gt o ≡ false
not_after Less h = refl
not_after Equal h = refl
not_after Greater h = absurd (true≢false (sym h))

up_to : (o : Ordering) → is_gt o ≡ false → is_le o ≡ true
up_to Less h = refl
up_to Equal h = refl
up_to Greater h = absurd (true≢false h)

up_from : (o : Ordering) → is_lt o ≡ false → is_le (ordering_reverse o) ≡ true
up_from Less h = absurd (true≢false h)
up_from Equal h = refl
up_from Greater h = refl

upto_trans : (x y z : List ℕ) → Upto x y → Upto y z → Upto x z
upto_trans x y z h k = up_to (slice_cmp nat_cmp x z) (upto nat_list_cmp_total x y z (not_after (slice_cmp nat_cmp x y) h) (not_after (slice_cmp nat_cmp y z) k))

upto_from : (x y : List ℕ) → is_lt (slice_cmp nat_cmp y x) ≡ false → Upto x y
upto_from x y h = ap is_le (nat_list_cmp_total.antisymm x y) ∙ up_from (slice_cmp nat_cmp y x) h

-- ---- texts that begin a name

same_first : (x y : ℕ) (rest : Bool) → (nat_eq x y && rest) ≡ true → (x ≡ y) × (rest ≡ true)
same_first x y rest h = let p = and_parts (nat_eq x y) rest h in ((Decides-eqb x y).0 p.0, p.1)

both_true : (a b : Bool) → a ≡ true → b ≡ true → (a && b) ≡ true
both_true a b e f = ap (λ c. c && b) e ∙ f

-- a text isn't behind what begins with it
begun_upto : (text name : List ℕ) → starts_with nat_eq name text ≡ true → Upto text name
begun_upto [] [] h = refl
begun_upto [] (z ∷ zs) h = refl
begun_upto (x ∷ xs) [] h = absurd (true≢false (sym h))
begun_upto (x ∷ xs) (z ∷ zs) h =
    let p = same_first x z (starts_with nat_eq zs xs) h in
    ap (λ k. is_le (ordering_then (nat_cmp x k) (slice_cmp nat_cmp xs zs))) (sym p.0) ∙ ap (λ c. is_le (ordering_then c (slice_cmp nat_cmp xs zs))) (tied_itself nat_cmp_total x)
    ∙ begun_upto xs zs p.1

-- what begins with a text begins with what the text begins with
begun_twice : (front text name : List ℕ) → starts_with nat_eq text front ≡ true → starts_with nat_eq name text ≡ true → starts_with nat_eq name front ≡ true
begun_twice [] text name h k = refl
begun_twice (x ∷ xs) [] name h k = absurd (true≢false (sym h))
begun_twice (x ∷ xs) (y ∷ ys) [] h k = absurd (true≢false (sym k))
begun_twice (x ∷ xs) (y ∷ ys) (z ∷ zs) h k =
    let p = same_first x y (starts_with nat_eq ys xs) h in
    let q = same_first y z (starts_with nat_eq zs ys) k in
    both_true (nat_eq x z) (starts_with nat_eq zs xs) ((Decides-eqb x z).1 (p.0 ∙ q.0)) (begun_twice xs ys zs p.1 q.1)

between_bytes : {A B : Type 0} (x y z : ℕ) → x ≡ z → (x < y) ⊎ ((x ≡ y) × A) → (y < z) ⊎ ((y ≡ z) × B) → (x ≡ y) × A × B
between_bytes x y z e (inl l) (inl k) = absurd (omega (arith, e, l, k))
between_bytes x y z e (inl l) (inr k) = absurd (omega (arith, e, l, k.0))
between_bytes x y z e (inr l) (inl k) = absurd (omega (arith, e, l.0, k))
between_bytes x y z e (inr l) (inr k) = (l.0, l.1, k.1)

-- what stands between a text and a name that begins with it begins with it too
begun_between : (front text name : List ℕ) → starts_with nat_eq name front ≡ true → Upto front text → Upto text name → starts_with nat_eq text front ≡ true
begun_between [] text name h low high = refl
begun_between (x ∷ xs) [] name h low high = absurd (true≢false (sym low))
begun_between (x ∷ xs) (y ∷ ys) [] h low high = absurd (true≢false (sym high))
begun_between (x ∷ xs) (y ∷ ys) (z ∷ zs) h low high =
    let p = same_first x z (starts_with nat_eq zs xs) h in
    let q = between_bytes x y z p.0 (first_bytes x y (slice_cmp nat_cmp xs ys) low) (first_bytes y z (slice_cmp nat_cmp ys zs) high) in
    both_true (nat_eq x y) (starts_with nat_eq ys xs) ((Decides-eqb x y).1 q.0) (begun_between xs ys zs p.1 q.1 q.2)

-- ---- one that begins a name, among others

or_false : (b : Bool) → (b || false) ≡ b
or_false true = refl
or_false false = refl

or_absorbs : (a b c : Bool) → (b ≡ true → a ≡ true) → (a || c) ≡ (a || (b || c))
or_absorbs true b c h = refl
or_absorbs false true c h = absurd (true≢false (sym (h refl)))
or_absorbs false false c h = refl

-- a test that fails of each of them
none_passes : {X : Type 0} (p : X → Bool) (xs : List X) → list_any p xs ≡ false → All (λ x. p x ≡ false) xs
none_passes p xs none k d lt = by_test (p (get_or xs k d)) refl
  where
    by_test : (b : Bool) → p (get_or xs k d) ≡ b → p (get_or xs k d) ≡ false
    by_test true e = absurd (true≢false (sym (list_any_at p xs k d lt e) ∙ none))
    by_test false e = e

none_moved : {X : Type 0} (p : X → Bool) (xs ys : List X) → IsPermutation xs ys → list_any p xs ≡ false → list_any p ys ≡ false
none_moved p xs ys h none = list_any_none p ys (All-permutation (λ x. p x ≡ false) xs ys h (none_passes p xs none))

-- in another order the same ones pass
pub any_moved : {X : Type 0} (p : X → Bool) (xs ys : List X) → IsPermutation xs ys → list_any p ys ≡ list_any p xs
any_moved p xs ys h = by_tests (list_any p xs) (list_any p ys) refl refl
  where
    by_tests : (a b : Bool) → list_any p xs ≡ a → list_any p ys ≡ b → list_any p ys ≡ list_any p xs
    by_tests true true e f = f ∙ sym e
    by_tests true false e f = absurd (true≢false (sym e ∙ none_moved p ys xs (IsPermutation-sym xs ys h) f))
    by_tests false true e f = absurd (true≢false (sym f ∙ none_moved p xs ys h e))
    by_tests false false e f = f ∙ sym e

-- ---- the shortest of texts in order

-- the first text begins with the second
abbrev pub longer : Bor (List ℕ) → Bor (List ℕ) → Bool
longer text front = starts_with nat_eq text.now front.now

-- texts behind this one, in order
abbrev Rise : List ℕ → List (Bor (List ℕ)) → Type 0
Rise front [] = Unit {0}
Rise front (t ∷ ts) = Upto front t.now × Rise t.now ts

rise_from : (t : Bor (List ℕ)) (ts : List (Bor (List ℕ))) → IsSorted by_name (t ∷ ts) → Rise t.now ts
rise_from t [] up = tt
rise_from t (u ∷ us) up = (
  upto_from t.now u.now (up 0 t (omega arith) (omega arith)),
  rise_from u us (λ k d l m.
      let z : suc (k + 1) ≡ suc k + 1 = omega arith in
      subst (λ (j : ℕ). is_lt (by_name (get_or (t ∷ u ∷ us) j d) (get_or (u ∷ us) k d)) ≡ false) (sym z) (up (suc k) d (omega arith) (omega (arith, m)))),
)

rise_past : (front next : List ℕ) (ts : List (Bor (List ℕ))) → Upto front next → Rise next ts → Rise front ts
rise_past front next [] up rise = tt
rise_past front next (t ∷ ts) up rise = (upto_trans front next t.now up rise.0, rise.1)

apart_behind : (front : List ℕ) (t : Bor (List ℕ)) (ts : List (Bor (List ℕ))) → Upto front t.now → starts_with nat_eq t.now front ≡ false → Rise t.now ts
    → ApartFrom front (dedup_from longer t ts)
apart_behind front t [] up other rise = (up, other, tt)
apart_behind front t (u ∷ us) up other rise =
    by_test (longer u t) refl (apart_behind front t us up other (rise_past t.now u.now us rise.0 rise.1)) (λ e. apart_behind t.now u us rise.0 e rise.1)
  where
    by_test : (b : Bool) → longer u t ≡ b → ApartFrom front (dedup_from longer t us) → (longer u t ≡ false → ApartFrom t.now (dedup_from longer u us))
        → ApartFrom front (cond b (dedup_from longer t us) (t ∷ dedup_from longer u us))
    by_test true e without with = without
    by_test false e without with = (up, other, with e)

apart_from : (t : Bor (List ℕ)) (ts : List (Bor (List ℕ))) → Rise t.now ts → Apart (dedup_from longer t ts)
apart_from t [] rise = tt
apart_from t (u ∷ us) rise = by_test (longer u t) refl (apart_from t us (rise_past t.now u.now us rise.0 rise.1))
  where
    by_test : (b : Bool) → longer u t ≡ b → Apart (dedup_from longer t us) → Apart (cond b (dedup_from longer t us) (t ∷ dedup_from longer u us))
    by_test true e without = without
    by_test false e without = apart_behind t.now u us rise.0 e rise.1

pub shortest_apart : (texts : List (Bor (List ℕ))) → IsSorted by_name texts → Apart (dedup longer texts)
shortest_apart [] up = tt
shortest_apart (t ∷ ts) up = apart_from t ts (rise_from t ts up)

kept_from : (name : List ℕ) (t : Bor (List ℕ)) (ts : List (Bor (List ℕ))) → any_begins (dedup_from longer t ts) name ≡ (starts_with nat_eq name t.now || any_begins ts name)
kept_from name t [] = refl
kept_from name t (u ∷ us) = by_test (longer u t) refl (kept_from name t us) (kept_from name u us)
  where
    by_test : (b : Bool) → longer u t ≡ b → any_begins (dedup_from longer t us) name ≡ (starts_with nat_eq name t.now || any_begins us name)
        → any_begins (dedup_from longer u us) name ≡ (starts_with nat_eq name u.now || any_begins us name)
        → any_begins (cond b (dedup_from longer t us) (t ∷ dedup_from longer u us)) name ≡ (starts_with nat_eq name t.now || (starts_with nat_eq name u.now || any_begins us name))
    by_test true e without with =
        without ∙ or_absorbs (starts_with nat_eq name t.now) (starts_with nat_eq name u.now) (any_begins us name) (begun_twice t.now u.now name e)
    by_test false e without with = ap (λ c. starts_with nat_eq name t.now || c) with

-- names begin with one of the shortest where they begin with one of all
pub shortest_begin : (name : List ℕ) (texts : List (Bor (List ℕ))) → any_begins (dedup longer texts) name ≡ any_begins texts name
shortest_begin name [] = refl
shortest_begin name (t ∷ ts) = kept_from name t ts

-- ---- which of them a name begins with

-- a text isn't behind a name
abbrev pub is_upto : List ℕ → Bor (List ℕ) → Bool
is_upto name t = is_le (slice_cmp nat_cmp t.now name)

apart_rest : (t : Bor (List ℕ)) (ts : List (Bor (List ℕ))) → ApartFrom t.now ts → Apart ts
apart_rest t [] h = tt
apart_rest t (u ∷ us) h = h.2

rises : (front : List ℕ) (ts : List (Bor (List ℕ))) → ApartFrom front ts → (k : ℕ) (d : Bor (List ℕ)) → k < length ts → Upto front (get_or ts k d).now
rises front [] h k d lt = absurd (omega (arith, lt))
rises front (t ∷ ts) h zero d lt = h.0
rises front (t ∷ ts) h (suc k) d lt = upto_trans front t.now (get_or ts k d).now h.0 (rises t.now ts h.2 k d (omega (arith, lt)))

-- those that aren't behind a name stand in front
pub parted : (name : List ℕ) (ts : List (Bor (List ℕ))) → Apart ts → IsPartitionedBy (is_upto name) ts
parted name [] h i j d le lt up = absurd (omega (arith, lt))
parted name (t ∷ ts) h zero zero d le lt up = up
parted name (t ∷ ts) h zero (suc j) d le lt up = upto_trans t.now (get_or ts j d).now name (rises t.now ts h j d (omega (arith, lt))) up
parted name (t ∷ ts) h (suc i) zero d le lt up = absurd (omega (arith, le))
parted name (t ∷ ts) h (suc i) (suc j) d le lt up = parted name ts (apart_rest t ts h) i j d (omega (arith, le)) (omega (arith, lt)) up

-- none that is behind the name begins it
none_behind : (name : List ℕ) (ts : List (Bor (List ℕ))) → AllWithin (λ t. is_upto name t ≡ false) ts 0 (length ts) → any_begins ts name ≡ false
none_behind name ts high = list_any_none (λ (t : Bor (List ℕ)). starts_with nat_eq name t.now) ts (λ k d lt. by_test k d lt (starts_with nat_eq name (get_or ts k d).now) refl)
  where
    by_test : (k : ℕ) (d : Bor (List ℕ)) → k < length ts → (b : Bool) → starts_with nat_eq name (get_or ts k d).now ≡ b → starts_with nat_eq name (get_or ts k d).now ≡ false
    by_test k d lt true e = absurd (true≢false (sym (begun_upto (get_or ts k d).now name e) ∙ high k d (omega arith) lt))
    by_test k d lt false e = e

last_decides : (name : List ℕ) (d t : Bor (List ℕ)) (ts : List (Bor (List ℕ))) (count : ℕ) → ApartFrom t.now ts → count ≤ length ts
    → AllWithin (λ u. is_upto name u ≡ true) ts 0 count → AllWithin (λ u. is_upto name u ≡ false) ts count (length ts)
    → any_begins (t ∷ ts) name ≡ starts_with nat_eq name (get_or (t ∷ ts) count d).now
last_decides name d t ts zero h le low high = ap (λ b. starts_with nat_eq name t.now || b) (none_behind name ts high) ∙ or_false (starts_with nat_eq name t.now)
last_decides name d t [] (suc n) h le low high = absurd (omega (arith, le))
last_decides name d t (u ∷ us) (suc n) h le low high =
    ap (λ b. b || any_begins (u ∷ us) name) (by_test (starts_with nat_eq name t.now) refl)
    ∙ last_decides name d u us n h.2 (omega (arith, le)) (λ k e l m. low (suc k) e (omega arith) (omega (arith, m))) (λ k e l m. high (suc k) e (omega (arith, l)) (omega (arith, m)))
  where
    by_test : (b : Bool) → starts_with nat_eq name t.now ≡ b → starts_with nat_eq name t.now ≡ false
    by_test true e = absurd (true≢false (sym (begun_between t.now u.now name e h.0 (low 0 u (omega arith) (omega arith))) ∙ h.1))
    by_test false e = e

-- of texts the first `count` of which aren't behind the name, the last of these begins it, or none
pub last_begins : (name : List ℕ) (d : Bor (List ℕ)) (ts : List (Bor (List ℕ))) (count last : ℕ) → Apart ts → count ≡ suc last → count ≤ length ts
    → AllWithin (λ u. is_upto name u ≡ true) ts 0 count → AllWithin (λ u. is_upto name u ≡ false) ts count (length ts)
    → starts_with nat_eq name (get_or ts last d).now ≡ any_begins ts name
last_begins name d [] count last h e le low high = absurd (omega (arith, e, le))
last_begins name d (t ∷ ts) zero last h e le low high = absurd (omega (arith, e))
last_begins name d (t ∷ ts) (suc n) last h e le low high =
    let same : n ≡ last = omega (arith, e) in
    ap (λ k. starts_with nat_eq name (get_or (t ∷ ts) k d).now) (sym same)
    ∙ sym (last_decides name d t ts n h (omega (arith, le)) (λ k e l m. low (suc k) e (omega arith) (omega (arith, m))) (λ k e l m. high (suc k) e (omega (arith, l)) (omega (arith, m))))

pub none_begins : (name : List ℕ) (ts : List (Bor (List ℕ))) (count : ℕ) → count ≡ 0 → AllWithin (λ u. is_upto name u ≡ false) ts count (length ts) → false ≡ any_begins ts name
none_begins name ts count e high = sym (none_behind name ts (λ k d l m. high k d (omega (arith, e)) m))
