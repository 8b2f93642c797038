-- The slots of a function are its pairs of a height and a type.
use Rattle.std.proofs.Common.{arith, ◌≡◌, ℕ, zero, suc, ◌+◌, ◌<◌, ◌≤◌, ◌⊎◌, inl, inr, ◌++◌, length, reverse, slice_get, nat_eq, List, [], ◌∷◌, Some, None, Bool, true, false, ◌&&◌, ◌||◌}
use Rattle.std.proofs.Common.{refl, ap, sym, ◌∙◌, subst}
use Rattle.std.specs.List.{list_any}
use Rattle.std.proofs.lemmas.Bool.{eqb-true, eq-eqb}
use Rattle.std.proofs.lemmas.List.{reverse-append, length-reverse}
use Rattle.std.proofs.lemmas.Option.{slice_get_past}
use Rattle.wa_types.specs.declared.values.ValType.{ValType}
use Rattle.wa_types.specs.declared.values.ValType.TheVariants.{I32, I64}
use Rattle.wa_types.specs.Encoding.{same_type}
use Rattle.wa_types.specs.Syntax.{Func, Module}
use Rattle.wa_types.specs.Pruned.{pruned}
use Rattle.wa_types.specs.Typing.{listed, Typed}
use Rattle.wa_types.specs.Modules.{around}
use Rattle.wa_types.specs.Points.{SlotPair, func_points}
use Rattle.wa_types.specs.Frames.{Pair, pair_onto, pairs_from, is_type, stands_at, greatest, same_pair, SlotPairs}
use Rattle.wa_types.proofs.TypingLemmas.{less_on, pruned_types}
use Rattle.wa_types.proofs.PointLemmas.{In, visited, is_visited}

pub same_true : (t u : ValType) → same_type t u ≡ true → t ≡ u
same_true I32 I32 e = refl
same_true I32 I64 e = cc
same_true I64 I32 e = cc
same_true I64 I64 e = refl

pub same_self : (t : ValType) → same_type t t ≡ true
same_self I32 = refl
same_self I64 = refl

pub get_left : (ys zs : List ValType) (h : ℕ) → h < length ys → slice_get (ys ++ zs) h ≡ slice_get ys h
get_left [] zs h lt = absurd (omega (arith, lt))
get_left (y ∷ ys) zs zero lt = refl
get_left (y ∷ ys) zs (suc h) lt = get_left ys zs h (omega (arith, lt))

pub get_seam : (ys : List ValType) (x : ValType) (zs : List ValType) → slice_get (ys ++ x ∷ zs) (length ys) ≡ Some x
get_seam [] x zs = refl
get_seam (y ∷ ys) x zs = get_seam ys x zs

pub length-cons : (x : ValType) (xs : List ValType) → length (x ∷ xs) ≡ suc (length xs)
length-cons x xs = refl

-- the operand at the bottom's distance
pub reverse_left : (x : ValType) (xs : List ValType) (h : ℕ) → h < length xs → slice_get (reverse (x ∷ xs)) h ≡ slice_get (reverse xs) h
reverse_left x xs h lt =
    ap (λ ys. slice_get ys h) (reverse-append (x ∷ []) xs) ∙ get_left (reverse xs) (x ∷ []) h (omega (arith, lt, length-reverse xs))

pub reverse_top : (x : ValType) (xs : List ValType) → slice_get (reverse (x ∷ xs)) (length xs) ≡ Some x
reverse_top x xs =
    ap (λ ys. slice_get ys (length xs)) (reverse-append (x ∷ []) xs) ∙ ap (slice_get (reverse xs ++ x ∷ [])) (sym (length-reverse xs)) ∙ get_seam (reverse xs) x []

Splits : ℕ → ValType → List ValType → Type 0
Splits h t ops = (above : List ValType) × (lower : List ValType) × (ops ≡ above ++ t ∷ lower) × (h ≡ length lower)

stands_top : (h : ℕ) (t x : ValType) (xs : List ValType) → h ≡ length xs → stands_at h t (x ∷ xs) ≡ true → Splits h t (x ∷ xs)
unfolding Splits
stands_top h t x xs e s =
    let same : same_type t x ≡ true = sym (ap (is_type t) (reverse_top x xs)) ∙ sym (ap (λ k. stands_at k t (x ∷ xs)) e) ∙ s in
    ([], xs, ap (λ y. y ∷ xs) (sym (same_true t x same)), e)

past_none : (h : ℕ) (t x : ValType) (xs : List ValType) → length xs < h → stands_at h t (x ∷ xs) ≡ true → ⊥
past_none h t x xs lt s =
    let past : slice_get (reverse (x ∷ xs)) h ≡ None = slice_get_past (reverse (x ∷ xs)) h (omega (arith, lt, length-reverse (x ∷ xs), length-cons x xs)) in
    let none : false ≡ true = sym (ap (is_type t) past) ∙ s in cc

-- an operand at a height splits the operands
pub stands_splits : (h : ℕ) (t : ValType) (ops : List ValType) → stands_at h t ops ≡ true → (above : List ValType) × (lower : List ValType) × (ops ≡ above ++ t ∷ lower) × (h ≡ length lower)
unfolding Splits
stands_splits h t [] s = cc
stands_splits h t (x ∷ xs) s = elim (less_on h (length xs)) [
  | inl lt ↦ let w = stands_splits h t xs (sym (ap (is_type t) (reverse_left x xs h lt)) ∙ s) in (x ∷ w.0, w.1, ap (λ ys. x ∷ ys) w.2, w.3)
  | inr ge ↦ elim (less_on (length xs) h) [
    | inl gt ↦ absurd (past_none h t x xs gt s)
    | inr le ↦ stands_top h t x xs (omega (arith, ge, le)) s
  ]
]

pub split_left : (above lower : List ValType) (t : ValType) → slice_get (reverse (above ++ t ∷ lower)) (length lower) ≡ Some t
split_left above lower t =
    ap (λ ys. slice_get ys (length lower)) (reverse-append above (t ∷ lower))
    ∙ get_left (reverse (t ∷ lower)) (reverse above) (length lower) (omega (arith, length-reverse (t ∷ lower), length-cons t lower))
    ∙ reverse_top t lower

-- what splits the operands stands at a height
pub splits_stands : (h : ℕ) (t : ValType) (ops above lower : List ValType) → ops ≡ above ++ t ∷ lower → h ≡ length lower → stands_at h t ops ≡ true
splits_stands h t ops above lower e f =
    ap (λ ys. is_type t (slice_get (reverse ys) h)) e ∙ ap (λ k. is_type t (slice_get (reverse (above ++ t ∷ lower)) k)) f ∙ ap (is_type t) (split_left above lower t) ∙ same_self t

pub stands_below : (h : ℕ) (t : ValType) (ops : List ValType) → stands_at h t ops ≡ true → h < length ops
stands_below h t ops s = elim (less_on h (length ops)) [
  | inl lt ↦ lt
  | inr ge ↦ absurd (
      let past : slice_get (reverse ops) h ≡ None = slice_get_past (reverse ops) h (omega (arith, ge, length-reverse ops)) in
      let none : false ≡ true = sym (ap (is_type t) past) ∙ s in cc)
]

pub either_true : (a b : Bool) → (a || b) ≡ true → (a ≡ true) ⊎ (b ≡ true)
either_true true b e = inl refl
either_true false b e = inr e

pub or_left : (a b : Bool) → a ≡ true → (a || b) ≡ true
or_left true b e = refl
or_left false b e = cc

pub or_right : (a b : Bool) → b ≡ true → (a || b) ≡ true
or_right true b e = refl
or_right false b e = e

pub both_true : (a b : Bool) → (a && b) ≡ true → (a ≡ true) × (b ≡ true)
both_true true b e = (refl, e)
both_true false b e = cc

pub and_both : (a b : Bool) → a ≡ true → b ≡ true → (a && b) ≡ true
and_both true b e f = f
and_both false b e f = cc

pub any_in : (test : List ValType → Bool) (xs : List (List ValType)) → list_any test xs ≡ true → (x : List ValType) × In x xs × (test x ≡ true)
any_in test [] e = cc
any_in test (x ∷ xs) e = elim (either_true (test x) (list_any test xs) e) [
  | inl h ↦ (x, inl refl, h)
  | inr h ↦ let w = any_in test xs h in (w.0, inr w.1, w.2)
]

pub in_any : (test : List ValType → Bool) (xs : List (List ValType)) (x : List ValType) → In x xs → test x ≡ true → list_any test xs ≡ true
in_any test [] x i e = absurd i
in_any test (y ∷ ys) x (inl f) e = or_left (test y) (list_any test ys) (sym (ap test f) ∙ e)
in_any test (y ∷ ys) x (inr i) e = or_right (test y) (list_any test ys) (in_any test ys x i e)

pub in_greatest : (xs : List (List ValType)) (x : List ValType) → In x xs → length x ≤ greatest xs
in_greatest [] x i = absurd i
in_greatest (y ∷ ys) x (inl e) = let f : length x ≡ length y = ap length e in omega (arith, f)
in_greatest (y ∷ ys) x (inr i) = let h = in_greatest ys x i in omega (arith, h)

pub own_pair : (h n : ℕ) (t u : ValType) → (nat_eq h n && same_type t u) ≡ true → (h ≡ n) × (t ≡ u)
own_pair h n t u e = let w = both_true (nat_eq h n) (same_type t u) e in (eqb-true h n w.0, same_true t u w.1)

-- one pair that may stand in front
onto_has : (b : Bool) (n h : ℕ) (u t : ValType) (ps : List Pair) → list_any (same_pair h t) (pair_onto b n u ps) ≡ true → ((b ≡ true) × (h ≡ n) × (t ≡ u)) ⊎ (list_any (same_pair h t) ps ≡ true)
onto_has true n h u t ps e = elim (either_true (nat_eq h n && same_type t u) (list_any (same_pair h t) ps) e) [
  | inl f ↦ let w = own_pair h n t u f in inl (refl, w.0, w.1)
  | inr f ↦ inr f
]
onto_has false n h u t ps e = inr e

has_onto : (b : Bool) (n h : ℕ) (u t : ValType) (ps : List Pair) → list_any (same_pair h t) ps ≡ true → list_any (same_pair h t) (pair_onto b n u ps) ≡ true
has_onto true n h u t ps e = or_right (nat_eq h n && same_type t u) (list_any (same_pair h t) ps) e
has_onto false n h u t ps e = e

new_onto : (b : Bool) (n : ℕ) (u : ValType) (ps : List Pair) → b ≡ true → list_any (same_pair n u) (pair_onto b n u ps) ≡ true
new_onto true n u ps e = or_left (nat_eq n n && same_type u u) (list_any (same_pair n u) ps) (and_both (nat_eq n n) (same_type u u) (eq-eqb n n refl) (same_self u))
new_onto false n u ps e = cc

-- a pair of the list passes
pub pairs_pass : (test : ℕ → ValType → Bool) (n k h : ℕ) (t : ValType) → list_any (same_pair h t) (pairs_from test n k) ≡ true → test h t ≡ true
pairs_pass test n zero h t e = cc
pairs_pass test n (suc k) h t e =
    elim (onto_has (test n I32) n h I32 t (pair_onto (test n I64) n I64 (pairs_from test (suc n) k)) e) [
      | inl (f, g, u) ↦ ap (λ m. test m t) g ∙ ap (test n) u ∙ f
      | inr r ↦ elim (onto_has (test n I64) n h I64 t (pairs_from test (suc n) k) r) [
        | inl (f, g, u) ↦ ap (λ m. test m t) g ∙ ap (test n) u ∙ f
        | inr s ↦ pairs_pass test (suc n) k h t s
      ]
    ]

at_number : (test : ℕ → ValType → Bool) (n k : ℕ) (t : ValType) → test n t ≡ true → list_any (same_pair n t) (pairs_from test n (suc k)) ≡ true
at_number test n k I32 e = new_onto (test n I32) n I32 (pair_onto (test n I64) n I64 (pairs_from test (suc n) k)) e
at_number test n k I64 e =
    has_onto (test n I32) n n I32 I64 (pair_onto (test n I64) n I64 (pairs_from test (suc n) k)) (new_onto (test n I64) n I64 (pairs_from test (suc n) k) e)

moved_pair : (test : ℕ → ValType → Bool) (n k h : ℕ) (t : ValType) → n ≡ h → test h t ≡ true → list_any (same_pair h t) (pairs_from test n (suc k)) ≡ true
moved_pair test n k h t e f =
    subst (λ (m : ℕ). list_any (same_pair m t) (pairs_from test n (suc k)) ≡ true) e (at_number test n k t (ap (λ m. test m t) e ∙ f))

-- what passes is a pair of the list
pub pass_pairs : (test : ℕ → ValType → Bool) (n k h : ℕ) (t : ValType) → n ≤ h → h < n + k → test h t ≡ true → list_any (same_pair h t) (pairs_from test n k) ≡ true
pass_pairs test n zero h t le lt e = absurd (omega (arith, le, lt))
pass_pairs test n (suc k) h t le lt e = elim (less_on n h) [
  | inl less ↦ has_onto (test n I32) n h I32 t (pair_onto (test n I64) n I64 (pairs_from test (suc n) k))
      (has_onto (test n I64) n h I64 t (pairs_from test (suc n) k) (pass_pairs test (suc n) k h t (omega (arith, less)) (omega (arith, lt)) e))
  | inr ge ↦ moved_pair test n k h t (omega (arith, le, ge)) e
]

-- The computed slots of a typed body are its pairs.
pub slots_are_pairs : (m : Module) (f : Func) → Typed (around m f) f.body → (h : ℕ) (t : ValType) → list_any (same_pair h t) (SlotPairs m f) ≡ true → SlotPair m f h t
slots_are_pairs m f typed h t e =
    let passed = pairs_pass (λ k u. list_any (stands_at k u) (func_points m f)) 0 (greatest (func_points m f)) h t e in
    let w = any_in (stands_at h t) (func_points m f) passed in
    let s = stands_splits h t w.0 w.2 in (
      w.0,
      s.0,
      s.1,
      is_visited (around m f) ((around m f).result ∷ []) (pruned f.body) (listed (around m f).result) [] [] w.0
          (pruned_types (around m f) ((around m f).result ∷ []) f.body (listed (around m f).result) [] typed) w.1,
      s.2,
      s.3,
    )

pub pairs_are_slots : (m : Module) (f : Func) → (h : ℕ) (t : ValType) → SlotPair m f h t → list_any (same_pair h t) (SlotPairs m f) ≡ true
pairs_are_slots m f h t (all, above, lower, at, e, g) =
    let seen = visited (around m f) ((around m f).result ∷ []) (pruned f.body) [] [] [] all at in
    let stands = splits_stands h t all above lower e g in
    let few = in_greatest (func_points m f) all seen in
    let low = stands_below h t all stands in
    pass_pairs (λ k u. list_any (stands_at k u) (func_points m f)) 0 (greatest (func_points m f)) h t (omega arith) (omega (arith, few, low)) (in_any (stands_at h t) (func_points m f) all seen stands)
