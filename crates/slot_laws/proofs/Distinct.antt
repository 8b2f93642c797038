-- Pairs in order are no more than those of a list that has them all.
use Rattle.std.proofs.Common.{arith, ◌≡◌, ℕ, suc, ◌≤◌, inl, inr, length, List, [], ◌∷◌, Bool, true, false, All, refl, ap, sym, ◌∙◌, subst}
use Rattle.std.specs.List.{list_any}
use Rattle.std.proofs.lemmas.Bool.{eq-eqb}
use Rattle.std.specs.Prelude.{nat_eq}
use Rattle.std.proofs.lemmas.List.Elements.{All-head, All-tail}
use Rattle.wa_types.specs.declared.values.ValType.{ValType}
use Rattle.wa_types.specs.Encoding.{same_type}
use Rattle.wa_types.specs.Frames.{Pair, same_pair}
use Rattle.wa_types.proofs.SlotLemmas.{same_self, either_true, or_left, or_right, and_both, own_pair}
use Rattle.slot_laws.specs.SlotBounds.{Precedes, Ascend}
use Rattle.slot_laws.proofs.Order.{never_itself}

-- without the first that is this pair
abbrev keep_if_not : Bool → Pair → (behind cut : List Pair) → List Pair
keep_if_not true q behind cut = behind
keep_if_not false q behind cut = q ∷ cut

abbrev without : ℕ → ValType → List Pair → List Pair
without n t [] = []
without n t (q ∷ qs) = keep_if_not (same_pair n t q) q qs (without n t qs)

one_fewer : (n : ℕ) (t : ValType) (qs : List Pair) → list_any (same_pair n t) qs ≡ true → length qs ≡ suc (length (without n t qs))
one_fewer n t [] e = cc
one_fewer n t (q ∷ qs) e = by_first (same_pair n t q) refl (λ h. one_fewer n t qs h)
  where
    by_first : (b : Bool) → same_pair n t q ≡ b → (list_any (same_pair n t) qs ≡ true → length qs ≡ suc (length (without n t qs)))
        → suc (length qs) ≡ suc (length (keep_if_not b q qs (without n t qs)))
    by_first true f go = refl
    by_first false f go =
        elim (either_true (same_pair n t q) (list_any (same_pair n t) qs) e) [
          | inl h ↦ absurd (let bad : false ≡ true = sym f ∙ h in cc)
          | inr h ↦ let g = go h in omega (arith, g)
        ]

still_in : (n h : ℕ) (t u : ValType) (qs : List Pair) → list_any (same_pair h u) qs ≡ true → (h ≡ n → u ≡ t → ⊥) → list_any (same_pair h u) (without n t qs) ≡ true
still_in n h t u [] e differ = cc
still_in n h t u (q ∷ qs) e differ = by_first (same_pair n t q) refl (λ k. still_in n h t u qs k differ)
  where
    by_first : (b : Bool) → same_pair n t q ≡ b → (list_any (same_pair h u) qs ≡ true → list_any (same_pair h u) (without n t qs) ≡ true)
        → list_any (same_pair h u) (keep_if_not b q qs (without n t qs)) ≡ true
    by_first true f go =
        elim (either_true (same_pair h u q) (list_any (same_pair h u) qs) e) [
          | inl k ↦ let w = own_pair h q.number u q.ty k in let v = own_pair n q.number t q.ty f in absurd (differ (w.0 ∙ sym v.0) (w.1 ∙ sym v.1))
          | inr k ↦ k
        ]
    by_first false f go =
        elim (either_true (same_pair h u q) (list_any (same_pair h u) qs) e) [
          | inl k ↦ or_left (same_pair h u q) (list_any (same_pair h u) (without n t qs)) k
          | inr k ↦ or_right (same_pair h u q) (list_any (same_pair h u) (without n t qs)) (go k)
        ]

-- a pair that another precedes is another
apart : (p : Pair) (ps : List Pair) (h : ℕ) (u : ValType) → All (Precedes p) ps → list_any (same_pair h u) ps ≡ true → h ≡ p.number → u ≡ p.ty → ⊥
apart p [] h u a e f g = cc
apart p (q ∷ ps) h u a e f g = elim (either_true (same_pair h u q) (list_any (same_pair h u) ps) e) [
  | inl k ↦ (
      let w = own_pair h q.number u q.ty k in
      never_itself p (subst (Precedes p) (same q p (sym w.0 ∙ f) (sym w.1 ∙ g)) (All-head (Precedes p) q ps a)))
  | inr k ↦ apart p ps h u (All-tail (Precedes p) q ps a) k f g
]
  where
    same : (q p : Pair) → q.number ≡ p.number → q.ty ≡ p.ty → q ≡ p
    same q p e f = ap (λ n. record { number = n; ty = q.ty }) e ∙ ap (λ v. record { number = p.number; ty = v }) f

pub few_of : (ps qs : List Pair) → Ascend ps → ((h : ℕ) (t : ValType) → list_any (same_pair h t) ps ≡ true → list_any (same_pair h t) qs ≡ true) → length ps ≤ length qs
few_of [] qs a h = omega arith
few_of (p ∷ ps) qs a h =
    let own : list_any (same_pair p.number p.ty) (p ∷ ps) ≡ true =
    or_left (same_pair p.number p.ty p) (list_any (same_pair p.number p.ty) ps) (and_both (nat_eq p.number p.number) (same_type p.ty p.ty) (eq-eqb p.number p.number refl) (same_self p.ty)) in
    let there = h p.number p.ty own in
    let fewer = one_fewer p.number p.ty qs there in
    let rest =
    few_of ps (without p.number p.ty qs) a.1 (λ k u e. still_in p.number k p.ty u qs (h k u (or_right (same_pair k u p) (list_any (same_pair k u) ps) e)) (λ f g. apart p ps k u a.0 e f g)) in
    omega (arith, fewer, rest)
