-- Slots and labels where flattening stands.
use Rattle.std.proofs.Common.{◌≡◌, ℕ, zero, suc, ◌+◌, ◌-◌, ◌<◌, ◌++◌, List, [], ◌∷◌, length, reverse, take, drop, get_or, length-drop, refl, arith, ap, sym, ◌∙◌}
use Rattle.std.proofs.lemmas.List.{length-reverse, reverse-append, reverse-reverse, get_or-append_right, take-append-drop}
use Rattle.std.proofs.Math.Seq.{drop-append_seam}
use Rattle.wa_types.specs.declared.values.ValType.{ValType}
use Rattle.flatten.specs.Emitting.{first_or}
use Rattle.flat_laws.specs.Flatten.{Names, slots, top}

-- the topmost of types that stand the deepest first
pub last_of : {X : Type 0} (types rest : List X) (t d : X) → reverse types ≡ t ∷ rest → get_or types (length types - 1) d ≡ t
last_of types rest t d e =
    let front = reverse rest in
    let all : types ≡ front ++ t ∷ [] = sym (reverse-reverse types) ∙ ap reverse e ∙ reverse-append (t ∷ []) rest in
    let at : length types - 1 ≡ length front = omega (arith, ap length e, length-reverse types, length-reverse rest) in
    let zero : length front - length front ≡ 0 = omega arith in
    ap (λ k. get_or types k d) at ∙ ap (λ ts. get_or ts (length front) d) all ∙ get_or-append_right front (t ∷ []) (length front) (length front) d refl (omega arith)
    ∙ ap (λ k. get_or (t ∷ []) k d) zero

pub last_type : (types rest : List ValType) (t d : ValType) → reverse types ≡ t ∷ rest → get_or types (length types - 1) d ≡ t
last_type types rest t d e = last_of types rest t d e

pub long_types : (types rest : List ValType) (t : ValType) → reverse types ≡ t ∷ rest → length types ≡ length rest + 1
long_types types rest t e = omega (arith, ap length e, length-reverse types)

-- one slot more
pub slot_more : (n : Names) (old new : List ℕ) (t : ValType) (rest all : List ValType) → reverse old ≡ slots n rest → all ≡ t ∷ rest → new ≡ old ++ top n all ∷ [] → reverse new ≡ slots n all
slot_more n old new t rest all h e f =
    ap reverse f ∙ reverse-append old (top n all ∷ []) ∙ ap (λ ss. top n all ∷ ss) h ∙ ap (λ ts. top n ts ∷ slots n rest) e ∙ sym (ap (slots n) e)

-- the topmost slot, where slots stand the deepest first
pub last_slot : (ss : List ℕ) (d : ℕ) → 0 < length ss → get_or ss (length ss - 1) d ≡ first_or (reverse ss)
last_slot ss d lt = by (reverse ss) refl
  where
    by : (rs : List ℕ) → reverse ss ≡ rs → get_or ss (length ss - 1) d ≡ first_or rs
    by [] e = absurd (omega (arith, ap length e, length-reverse ss))
    by (x ∷ rs) e = last_of ss rs x d e

pub no_slot : (ss : List ℕ) → length ss ≡ 0 → 0 ≡ first_or (reverse ss)
no_slot [] e = refl
no_slot (s ∷ ss) e = absurd (omega arith)

pub less_one : (ss : List ℕ) (n : ℕ) → n ≡ length ss → 0 < n → reverse (take (n - 1) ss) ≡ drop 1 (reverse ss)
less_one ss n e lt =
    let k : ℕ = n - 1 in
    let a : List ℕ = reverse (drop k ss) in
    let all : reverse ss ≡ a ++ reverse (take k ss) = ap reverse (sym (take-append-drop k ss)) ∙ reverse-append (take k ss) (drop k ss) in
    let one : 1 ≡ length a = omega (arith, length-reverse (drop k ss), length-drop k ss) in
    sym (ap (drop 1) all ∙ ap (λ j. drop j (a ++ reverse (take k ss))) one ∙ drop-append_seam a (reverse (take k ss)))

pub top_is : (n : Names) (ops : List ValType) (ss : List ℕ) → ss ≡ slots n ops → first_or ss ≡ top n ops
top_is n [] ss e = ap first_or e
top_is n (t ∷ ops) ss e = ap first_or e

pub slots_drop : (n : Names) (k : ℕ) (ops : List ValType) → drop k (slots n ops) ≡ slots n (drop k ops)
slots_drop n zero ops = refl
slots_drop n (suc k) [] = refl
slots_drop n (suc k) (t ∷ ops) = slots_drop n k ops

pub slots_long : (n : Names) (ops : List ValType) → length (slots n ops) ≡ length ops
slots_long n [] = refl
slots_long n (t ∷ ops) = ap suc (slots_long n ops)

pub ruleset slots_off = (last_slot, no_slot, less_one)

pub ruleset topping = (long_types, last_type)
