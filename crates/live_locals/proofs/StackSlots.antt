-- Which slots a call's stack has.
use Rattle.std.proofs.Common.{◌≡◌, ◌∙◌, ℕ, zero, suc, ◌<◌, ◌≤◌, ◌⊎◌, inl, inr, List, [], ◌∷◌, length, reverse, Some, Bool, true, false, ◌&&◌, refl, sym, ap, subst, arith}
use Rattle.std.specs.Prelude.{slice_get}
use Rattle.std.proofs.lemmas.Bool.{cases_lt, eq-eqb}
use Rattle.std.proofs.lemmas.List.{reverse-reverse, length-reverse}
use Rattle.std.proofs.lemmas.Option.{slice_get_within}
use Rattle.wa_types.specs.declared.values.ValType.{ValType}
use Rattle.wa_types.specs.Encoding.{same_type}
use Rattle.wa_types.specs.Frames.{Pair, same_pair}
use Rattle.wa_types.proofs.SlotLemmas.{same_self, reverse_left, reverse_top, own_pair}
use Rattle.flat_laws.specs.Flatten.{Names, past, place, slot, slots}
use Rattle.flat_laws.specs.Behind.{Among}
use Rattle.flat_laws.proofs.LiveFlat.{among_reversed}

-- ---- where a pair stands

-- the pair of a number and a type
abbrev pub pair_at : ℕ → ValType → Pair
pair_at h t = record { number = h; ty = t }

pair_made : (p : Pair) (h : ℕ) (t : ValType) → h ≡ p.number → t ≡ p.ty → p ≡ pair_at h t
pair_made p h t e f = ap (λ k. pair_at k p.ty) (sym e) ∙ ap (pair_at h) (sym f)

pub place_found : (h : ℕ) (t : ValType) (ps : List Pair) → place h t ps < length ps → slice_get ps (place h t ps) ≡ Some (pair_at h t)
place_found h t [] lt = absurd (omega (arith, lt))
place_found h t (p ∷ ps) lt = by (same_pair h t p) refl lt (place_found h t ps)
  where
    by : (b : Bool) → same_pair h t p ≡ b → past b (place h t ps) < suc (length ps) → (place h t ps < length ps → slice_get ps (place h t ps) ≡ Some (pair_at h t))
        → slice_get (p ∷ ps) (past b (place h t ps)) ≡ Some (pair_at h t)
    by true e l later = let w = own_pair h p.number t p.ty e in ap Some (pair_made p h t w.0 w.1)
    by false e l later = later (omega (arith, l))

same_own : (h : ℕ) (t : ValType) → same_pair h t (pair_at h t) ≡ true
same_own h t = ap (λ b. b && same_type t t) (eq-eqb h h refl) ∙ same_self t

pub place_within : (h : ℕ) (t : ValType) (ps : List Pair) (i : ℕ) → slice_get ps i ≡ Some (pair_at h t) → place h t ps < length ps
place_within h t [] i e = cc
place_within h t (p ∷ ps) zero e =
    let z : p ≡ pair_at h t = cc in let q : same_pair h t p ≡ true = ap (same_pair h t) z ∙ same_own h t in
    let r : past (same_pair h t p) (place h t ps) ≡ 0 = ap (λ b. past b (place h t ps)) q in omega (arith, r)
place_within h t (p ∷ ps) (suc i) e = by (same_pair h t p) (place_within h t ps i e)
  where
    by : (b : Bool) → place h t ps < length ps → past b (place h t ps) < suc (length ps)
    by true l = omega arith
    by false l = omega (arith, l)

-- ---- the slots of operands

module _ (n : Names) (y : ℕ) where
  pub slot_among : (ops : List ValType) (h : ℕ) (t : ValType) → slice_get (reverse ops) h ≡ Some t → y ≡ slot n h t → Among y (slots n ops)
  slot_among [] h t e q = cc
  slot_among (u ∷ ops) h t e q = by (cases_lt h (length ops)) (λ d. slot_among ops h t d q)
    where
      by : (h < length ops) ⊎ (length ops ≤ h) → (slice_get (reverse ops) h ≡ Some t → Among y (slots n ops)) → Among y (slot n (length ops) u ∷ slots n ops)
      by (inl l) later = inr (later (sym (reverse_left u ops h l) ∙ e))
      by (inr g) later =
          let w = slice_get_within (reverse (u ∷ ops)) h t e in let k = length-reverse (u ∷ ops) in
          let z : h ≡ length ops = omega (arith, w, k, g) in
          let same : Some u ≡ Some t = sym (reverse_top u ops) ∙ ap (slice_get (reverse (u ∷ ops))) (sym z) ∙ e in
          let ty : u ≡ t = cc in inl (q ∙ (λ i. slot n (z i) (sym ty i)))

  pub among_slot : (ops : List ValType) → Among y (slots n ops) → (h : ℕ) × (t : ValType) × (slice_get (reverse ops) h ≡ Some t) × (y ≡ slot n h t)
  among_slot [] a = absurd a
  among_slot (u ∷ ops) (inl e) = (length ops, u, reverse_top u ops, e)
  among_slot (u ∷ ops) (inr a) =
      let w = among_slot ops a in let l = slice_get_within (reverse ops) w.0 w.1 w.2 in let k = length-reverse ops in
      (w.0, w.1, reverse_left u ops w.0 (omega (arith, l, k)) ∙ w.2, w.3)

  pub from_reversed : (ops : List ValType) → Among y (reverse (slots n ops)) → Among y (slots n ops)
  from_reversed ops a = subst (Among y) (reverse-reverse (slots n ops)) (among_reversed y (reverse (slots n ops)) a)
