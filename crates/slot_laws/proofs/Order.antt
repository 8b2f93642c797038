-- Pairs and saved places stand in order, each once.
use Rattle.std.proofs.Common.{arith, ◌≡◌, ℕ, zero, suc, ◌+◌, ◌≤◌, inl, inr, ◌++◌, length, List, [], ◌∷◌, Some, Bool, true, false, All, refl, ap, sym, ◌∙◌, subst}
use Rattle.std.specs.Prelude.{slice_get}
use Rattle.std.proofs.lemmas.List.Elements.{All-nil, All-cons, All-head, All-tail, All-weaker}
use Rattle.wa_types.specs.declared.values.ValType.{ValType}
use Rattle.wa_types.specs.declared.values.ValType.TheVariants.{I32, I64}
use Rattle.wa_types.specs.Frames.{Pair, pair_onto, pairs_from, Place, place_onto, named_places, slot_places}
use Rattle.slot_laws.specs.SlotBounds.{Precedes, Ascend, StandOnce, RiseFrom}

-- ---- pairs

abbrev FromNumber : ℕ → Pair → Type 0
FromNumber n p = n ≤ p.number

onto_from : (b : Bool) (n : ℕ) (t : ValType) (ps : List Pair) → All (FromNumber n) ps → All (FromNumber n) (pair_onto b n t ps)
onto_from true n t ps h = All-cons (FromNumber n) (record { number = n; ty = t }) ps (omega arith) h
onto_from false n t ps h = h

-- no number is below the first
numbers_from : (test : ℕ → ValType → Bool) (n k : ℕ) → All (FromNumber n) (pairs_from test n k)
numbers_from test n zero = All-nil (FromNumber n)
numbers_from test n (suc k) =
    let later = All-weaker (FromNumber (suc n)) (FromNumber n) (λ p h. omega (arith, h)) (pairs_from test (suc n) k) (numbers_from test (suc n) k) in
    onto_from (test n I32) n I32 (pair_onto (test n I64) n I64 (pairs_from test (suc n) k)) (onto_from (test n I64) n I64 (pairs_from test (suc n) k) later)

-- a pair in front of those that it precedes
onto_ascends : (b : Bool) (n : ℕ) (t : ValType) (ps : List Pair) → All (Precedes (record { number = n; ty = t })) ps → Ascend ps → Ascend (pair_onto b n t ps)
onto_ascends true n t ps h a = (h, a)
onto_ascends false n t ps h a = a

-- the i32 of a number precedes its i64
onto_precedes : (b : Bool) (n : ℕ) (ps : List Pair) → All (Precedes (record { number = n; ty = I32 })) ps → All (Precedes (record { number = n; ty = I32 })) (pair_onto b n I64 ps)
onto_precedes true n ps h = All-cons (Precedes (record { number = n; ty = I32 })) (record { number = n; ty = I64 }) ps (inr (refl, refl, refl)) h
onto_precedes false n ps h = h

pub pairs_ascend : (test : ℕ → ValType → Bool) (n k : ℕ) → Ascend (pairs_from test n k)
pairs_ascend test n zero = tt
pairs_ascend test n (suc k) =
    let rest : List Pair = pairs_from test (suc n) k in
    let behind = λ (t : ValType). All-weaker (FromNumber (suc n)) (Precedes (record { number = n; ty = t })) (λ p h. inl (omega (arith, h))) rest (numbers_from test (suc n) k) in
    onto_ascends (test n I32) n I32 (pair_onto (test n I64) n I64 rest) (onto_precedes (test n I64) n rest (behind I32))
    (onto_ascends (test n I64) n I64 rest (behind I64) (pairs_ascend test (suc n) k))

pub all_there : {X : Type 0} (P : X → Type 0) (xs : List X) (i : ℕ) (x : X) → All P xs → slice_get xs i ≡ Some x → P x
all_there P [] i x h e = cc
all_there P (y ∷ xs) zero x h e = let f : y ≡ x = cc in subst P f (All-head P y xs h)
all_there P (y ∷ xs) (suc i) x h e = all_there P xs i x (All-tail P y xs h) e

pub never_itself : (p : Pair) → Precedes p p → ⊥
never_itself p (inl lt) = omega (arith, lt)
never_itself p (inr (same, narrow, wide)) = let z : I32 ≡ I64 = sym narrow ∙ wide in cc

pub stand_once : (ps : List Pair) → Ascend ps → StandOnce ps
stand_once [] a = λ i j p e f. cc
stand_once (q ∷ ps) a = by_places (stand_once ps a.1)
  where
    by_places : StandOnce ps → (i j : ℕ) (p : Pair) → slice_get (q ∷ ps) i ≡ Some p → slice_get (q ∷ ps) j ≡ Some p → i ≡ j
    by_places behind zero zero p e f = refl
    by_places behind zero (suc j) p e f =
        let z : q ≡ p = cc in
        absurd (never_itself p (subst (λ r. Precedes r p) z (all_there (Precedes q) ps j p a.0 f)))
    by_places behind (suc i) zero p e f =
        let z : q ≡ p = cc in
        absurd (never_itself p (subst (λ r. Precedes r p) z (all_there (Precedes q) ps i p a.0 e)))
    by_places behind (suc i) (suc j) p e f = ap suc (behind i j p e f)

-- ---- places

pub rise_more : (low high : ℕ) (ps : List Place) → low ≤ high → RiseFrom high ps → RiseFrom low ps
rise_more low high [] le h = tt
rise_more low high (p ∷ ps) le h = let g : high ≤ p.local = h.0 in (omega (arith, le, g), h.1)

onto_rises : (b : Bool) (x : ℕ) (t : ValType) (ps : List Place) → RiseFrom (suc x) ps → RiseFrom x (place_onto b x t ps)
onto_rises true x t ps h = (omega arith, h)
onto_rises false x t ps h = rise_more x (suc x) ps (omega arith) h

pub slots_rise : (keep : Pair → Bool) (x : ℕ) (ps : List Pair) → RiseFrom x (slot_places keep x ps)
slots_rise keep x [] = tt
slots_rise keep x (p ∷ ps) = onto_rises (keep p) x p.ty (slot_places keep (suc x) ps) (slots_rise keep (suc x) ps)

onto_append : (b : Bool) (x : ℕ) (t : ValType) (ps more : List Place) → place_onto b x t ps ++ more ≡ place_onto b x t (ps ++ more)
onto_append true x t ps more = refl
onto_append false x t ps more = refl

pub named_rise : (keep : ℕ → Bool) (x : ℕ) (ts : List ValType) (more : List Place) → RiseFrom (x + length ts) more → RiseFrom x (named_places keep x ts ++ more)
named_rise keep x [] more h = rise_more x (x + 0) more (omega arith) h
named_rise keep x (t ∷ ts) more h =
    let e : x + suc (length ts) ≡ suc x + length ts = omega arith in
    let rest = named_rise keep (suc x) ts more (subst (λ n. RiseFrom n more) e h) in
    subst (RiseFrom x) (sym (onto_append (keep x) x t (named_places keep (suc x) ts) more)) (onto_rises (keep x) x t (named_places keep (suc x) ts ++ more) rest)

-- no place of those from a local on is of a lower one
lowest : (low : ℕ) (ps : List Place) (i : ℕ) (p : Place) → RiseFrom low ps → slice_get ps i ≡ Some p → low ≤ p.local
lowest low [] i p h e = cc
lowest low (q ∷ ps) zero p h e = let z : q ≡ p = cc in subst (λ (r : Place). low ≤ r.local) z h.0
lowest low (q ∷ ps) (suc i) p h e =
    let g : low ≤ q.local = h.0 in
    let k = lowest (suc q.local) ps i p h.1 e in omega (arith, g, k)

-- each place stands once
pub rise_once : (low : ℕ) (ps : List Place) (i j : ℕ) (p : Place) → RiseFrom low ps → slice_get ps i ≡ Some p → slice_get ps j ≡ Some p → i ≡ j
rise_once low [] i j p h e f = cc
rise_once low (q ∷ ps) zero zero p h e f = refl
rise_once low (q ∷ ps) zero (suc j) p h e f =
    let z : q ≡ p = cc in
    let k = lowest (suc q.local) ps j p h.1 f in
    let same : q.local ≡ p.local = ap (λ (r : Place). r.local) z in absurd (omega (arith, k, same))
rise_once low (q ∷ ps) (suc i) zero p h e f =
    let z : q ≡ p = cc in
    let k = lowest (suc q.local) ps i p h.1 e in
    let same : q.local ≡ p.local = ap (λ (r : Place). r.local) z in absurd (omega (arith, k, same))
rise_once low (q ∷ ps) (suc i) (suc j) p h e f = ap suc (rise_once (suc q.local) ps i j p h.1 e f)
