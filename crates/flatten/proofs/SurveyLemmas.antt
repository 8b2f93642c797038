-- What a survey finds.
use Rattle.std.proofs.Common.{◌≡◌, ℕ, ◌-◌, ◌<◌, ◌||◌, ◌&&◌, ◌++◌, List, [], ◌∷◌, length, reverse, take, drop, get_or, nat_eq, Bool, true, false, refl, arith, ap, sym, ◌∙◌, ◌⊎◌, inl, inr}
use Rattle.std.proofs.lemmas.List.{length-reverse, append_assoc, take-append-drop}
use Rattle.wa_types.specs.declared.values.ValType.{ValType}
use Rattle.wa_types.specs.declared.values.ValType.TheVariants.{I32, I64}
use Rattle.wa_types.specs.Encoding.{same_type}
use Rattle.wa_types.specs.Syntax.{Code, done, plain, nest, branch}
use Rattle.wa_types.specs.Points.{points}
use Rattle.std.proofs.lemmas.Bool.{eq-eqb, eqb-true}
use Rattle.wa_types.specs.Frames.{stands_at}
use Rattle.wa_types.proofs.SlotLemmas.{stands_splits, splits_stands}
use Rattle.wasm_validate.specs.Walk.{Walk}
use Rattle.flatten.specs.declared.marks.Seen.{Seen}
use Rattle.flatten.specs.Numbers.{is_marked, same_at}
use Rattle.flatten.specs.Surveying.{is_top, any_point, Covers}
use Rattle.flatten.specs.Emitting.{all_of}
use Rattle.flatten.proofs.PositionLemmas.{last_of}

pub top_none : (types all : List ValType) (h : ℕ) (t : ValType) → reverse types ≡ all → length types ≡ 0 → false ≡ is_top h t all
top_none types all h t e n = by all (ap length e)
  where
    by : (all : List ValType) → length (reverse types) ≡ length all → false ≡ is_top h t all
    by [] f = refl
    by (x ∷ xs) f = absurd (omega (arith, f, n, length-reverse types))

pub top_some : (types all : List ValType) (d : ValType) (h : ℕ) (t : ValType) → reverse types ≡ all → 0 < length types
    → same_at h t (length types - 1) (get_or types (length types - 1) d) ≡ is_top h t all
top_some types all d h t e lt = by all refl
  where
    by : (xs : List ValType) → all ≡ xs → same_at h t (length types - 1) (get_or types (length types - 1) d) ≡ is_top h t xs
    by [] f = absurd (omega (arith, ap length (e ∙ f), length-reverse types))
    by (x ∷ xs) f =
        let n : length types - 1 ≡ length xs = omega (arith, ap length (e ∙ f), length-reverse types) in
        ap (λ k. same_at h t k (get_or types (length types - 1) d)) n ∙ ap (λ ty. same_at h t (length xs) ty) (last_of types xs x d (e ∙ f))

pub ruleset topping = (top_none, top_some)

-- ---- what stands where

pub stands_drop : (k h : ℕ) (t : ValType) (ops : List ValType) → stands_at h t (drop k ops) ≡ true → stands_at h t ops ≡ true
stands_drop k h t ops e =
    let s = stands_splits h t (drop k ops) e in
    splits_stands h t ops (take k ops ++ s.0) s.1 (sym (take-append-drop k ops) ∙ ap (λ z. take k ops ++ z) s.2 ∙ sym (append_assoc (take k ops) s.0 (t ∷ s.1))) s.3

same_self : (t : ValType) → same_type t t ≡ true
same_self I32 = refl
same_self I64 = refl

type_same : (t u : ValType) → same_type t u ≡ true → t ≡ u
type_same I32 I32 e = refl
type_same I32 I64 e = cc
type_same I64 I32 e = cc
type_same I64 I64 e = refl

both_true : (a b : Bool) → (a && b) ≡ true → (a ≡ true) × (b ≡ true)
both_true true b e = (refl, e)
both_true false b e = cc

pub top_stands : (h : ℕ) (t : ValType) (ops : List ValType) → is_top h t ops ≡ true → stands_at h t ops ≡ true
top_stands h t [] e = cc
top_stands h t (x ∷ rest) e =
    let b = both_true (nat_eq h (length rest)) (same_type t x) e in
    splits_stands h t (x ∷ rest) [] rest (ap (λ y. y ∷ rest) (sym (type_same t x b.1))) (eqb-true h (length rest) b.0)

head_is : (x t : ValType) (xs ys : List ValType) → x ∷ xs ≡ t ∷ ys → (t ≡ x) × (xs ≡ ys)
head_is x t xs ys e = (cc, cc)

pub stands_top : (h : ℕ) (t : ValType) (ops : List ValType) → stands_at h t ops ≡ true → (is_top h t ops ≡ true) ⊎ (stands_at h t (drop 1 ops) ≡ true)
stands_top h t [] e = inr e
stands_top h t (x ∷ rest) e = by (stands_splits h t (x ∷ rest) e)
  where
    by : (above : List ValType) × (lower : List ValType) × (x ∷ rest ≡ above ++ t ∷ lower) × (h ≡ length lower) → (is_top h t (x ∷ rest) ≡ true) ⊎ (stands_at h t rest ≡ true)
    by ([], lower, f, g) =
        let q = head_is x t rest lower f in
        inl (ap (λ b. b && same_type t x) (eq-eqb h (length rest) (g ∙ ap length (sym q.1))) ∙ ap (λ y. same_type t y) (sym q.0) ∙ same_self t)
    by (y ∷ above, lower, f, g) = let q = head_is x y rest (above ++ t ∷ lower) f in inr (splits_stands h t rest above lower q.1 g)

-- ---- marks that cover

pub covers_next : (a b : List Seen) (all new : List ValType) (k : ℕ) → Covers a all → drop 1 new ≡ drop k all
    → ((h : ℕ) (t : ValType) → is_marked b h t ≡ (is_top h t new || is_marked a h t)) → Covers b new
covers_next a b all new k ca e m h t s = by (stands_top h t new s)
  where
    or_left : (x y : Bool) → x ≡ true → (x || y) ≡ true
    or_left true y q = refl
    or_left false y q = cc

    or_right : (x y : Bool) → y ≡ true → (x || y) ≡ true
    or_right true y q = refl
    or_right false y q = q

    by : (is_top h t new ≡ true) ⊎ (stands_at h t (drop 1 new) ≡ true) → is_marked b h t ≡ true
    by (inl q) = m h t ∙ or_left (is_top h t new) (is_marked a h t) q
    by (inr q) = m h t ∙ or_right (is_top h t new) (is_marked a h t) (ca h t (stands_drop k h t all (ap (stands_at h t) (sym e) ∙ q)))

-- a mark of the top is no more than what is found anyway
pub seen_on : (top m x : Bool) → (top ≡ true → x ≡ true) → ((top || m) || x) ≡ (m || x)
seen_on true true x f = refl
seen_on true false x f = sym (f refl)
seen_on false m x f = refl

-- what is covered adds nothing
pub absorbed : (m s x : Bool) → (s ≡ true → m ≡ true) → (m || x) ≡ (m || (s || x))
absorbed true s x f = refl
absorbed false true x f = let z = f refl in cc
absorbed false false x f = refl

pub or_same : (a b c : Bool) → ((a || b) || c) ≡ (a || (b || c))
or_same true b c = refl
or_same false b c = refl

pub or_turned : (p m x y : Bool) → (((p || m) || x) || y) ≡ (m || ((p || x) || y))
or_turned true true x y = refl
or_turned true false x y = refl
or_turned false m x y = or_same m x y

pub or_turned_twice : (p m x y z : Bool) → ((((p || m) || x) || y) || z) ≡ (m || (((p || x) || y) || z))
or_turned_twice true true x y z = refl
or_turned_twice true false x y z = refl
or_turned_twice false m x y z = ap (λ b. b || z) (or_same m x y) ∙ or_same m (x || y) z

or_true : (x y : Bool) → x ≡ true → (x || y) ≡ true
or_true true y q = refl
or_true false y q = cc

pub point_head : (h : ℕ) (t : ValType) (w : Walk) (k : Code) → stands_at h t (all_of w) ≡ true → any_point h t w k ≡ true
unfolding points
point_head h t w done e = or_true (stands_at h t (all_of w)) false e
point_head h t w (plain p rest) e = or_true (stands_at h t (all_of w)) _ e
point_head h t w (nest s r body rest) e = or_true (stands_at h t (all_of w)) _ e
point_head h t w (branch r a b rest) e = or_true (stands_at h t (all_of w)) _ e
