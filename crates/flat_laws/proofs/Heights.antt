-- Operands that all have slots are no more than the slots.
use Rattle.std.proofs.Common.{◌≡◌, ℕ, zero, suc, ◌≤◌, ◌<◌, List, [], ◌∷◌, length, Bool, true, false, refl, arith}
use Rattle.std.specs.Prelude.{nat_eq}
use Rattle.std.specs.List.{list_any}
use Rattle.std.proofs.lemmas.Bool.{eqb-true, and_parts}
use Rattle.wa_types.specs.declared.values.ValType.{ValType}
use Rattle.wa_types.specs.declared.values.ValType.TheVariants.{I32, I64}
use Rattle.wa_types.specs.Encoding.{same_type}
use Rattle.wa_types.specs.Syntax.{Func, Module}
use Rattle.wa_types.specs.Points.{func_points}
use Rattle.wa_types.specs.Frames.{Pair, same_pair, pair_onto, pairs_from, stands_at, greatest, SlotPairs}
use Rattle.flat_laws.specs.Flatten.{Names, names, past, place}
use Rattle.flat_laws.specs.Placed.{AllIn}

-- pairs in the order of their numbers, from this number on
abbrev Rise : ℕ → List Pair → Type 0
Rise n [] = Unit {0}
Rise n (p ∷ ps) = (n ≤ p.number) × Rise p.number ps

rise_from : (n k : ℕ) (ps : List Pair) → n ≤ k → Rise k ps → Rise n ps
rise_from n k [] le r = tt
rise_from n k (p ∷ ps) le r = let a = r.0 in (omega arith, r.1)

onto_rises : (b : Bool) (n : ℕ) (t : ValType) (ps : List Pair) → Rise n ps → Rise n (pair_onto b n t ps)
onto_rises true n t ps r = (omega arith, r)
onto_rises false n t ps r = r

pairs_rise : (test : ℕ → ValType → Bool) (n k : ℕ) → Rise n (pairs_from test n k)
pairs_rise test n zero = tt
pairs_rise test n (suc k) =
    onto_rises (test n I32) n I32 (pair_onto (test n I64) n I64 (pairs_from test (suc n) k))
    (onto_rises (test n I64) n I64 (pairs_from test (suc n) k) (rise_from n (suc n) (pairs_from test (suc n) k) (omega arith) (pairs_rise test (suc n) k)))

number_is : (h : ℕ) (t : ValType) (p : Pair) → same_pair h t p ≡ true → h ≡ p.number
number_is h t p e = eqb-true h p.number (and_parts (nat_eq h p.number) (same_type t p.ty) e).0

-- what has a place isn't below the first number
at_least : (n h : ℕ) (t : ValType) (ps : List Pair) → Rise n ps → place h t ps < length ps → n ≤ h
at_least n h t [] r lt = absurd (omega arith)
at_least n h t (p ∷ ps) r lt = by (same_pair h t p) refl (λ z. at_least p.number h t ps r.1 z) lt
  where
    by : (b : Bool) → same_pair h t p ≡ b → (place h t ps < length ps → p.number ≤ h) → past b (place h t ps) < suc (length ps) → n ≤ h
    by true e ih lt = let z = number_is h t p e in let a = r.0 in omega arith
    by false e ih lt = let z = ih (omega arith) in let a = r.0 in omega arith

-- places rise with heights
places_rise : (n h k : ℕ) (t u : ValType) (ps : List Pair) → Rise n ps → h < k → place h t ps < length ps → place k u ps < length ps → place h t ps < place k u ps
places_rise n h k t u [] r lt a b = absurd (omega arith)
places_rise n h k t u (p ∷ ps) r lt a b = by (λ i j. places_rise p.number h k t u ps r.1 lt i j) (same_pair h t p) (same_pair k u p) refl refl a b
  where
    by : (place h t ps < length ps → place k u ps < length ps → place h t ps < place k u ps) → (x y : Bool) → same_pair h t p ≡ x → same_pair k u p ≡ y
        → past x (place h t ps) < suc (length ps) → past y (place k u ps) < suc (length ps) → past x (place h t ps) < past y (place k u ps)
    by ih true true ex ey a b = let i = number_is h t p ex in let j = number_is k u p ey in absurd (omega arith)
    by ih true false ex ey a b = omega arith
    by ih false true ex ey a b = let j = number_is k u p ey in let i = at_least p.number h t ps r.1 (omega arith) in absurd (omega arith)
    by ih false false ex ey a b = let z = ih (omega arith) (omega arith) in omega arith

-- an operand's place isn't below its height
no_lower : (n : Names) (ops : List ValType) (t : ValType) → Rise 0 n.slots → AllIn n (t ∷ ops) → length ops ≤ place (length ops) t n.slots
no_lower n [] t r a = omega arith
no_lower n (u ∷ ops) t r a =
    let ih = no_lower n ops u r a.1 in
    let up = places_rise 0 (length ops) (length (u ∷ ops)) u t n.slots r (omega arith) a.1.0 a.0 in omega arith

few_operands : (n : Names) (ops : List ValType) → Rise 0 n.slots → AllIn n ops → length ops ≤ length n.slots
few_operands n [] r a = omega arith
few_operands n (t ∷ ops) r a = let z = no_lower n ops t r a in let b = a.0 in omega arith

pub operands_few : (m : Module) (f : Func) (ops : List ValType) → AllIn (names m f) ops → length ops ≤ length (SlotPairs m f)
operands_few m f ops a = few_operands (names m f) ops (pairs_rise (λ h t. list_any (stands_at h t) (func_points m f)) 0 (greatest (func_points m f))) a
