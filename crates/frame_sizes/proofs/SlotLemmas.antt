-- Pairs and points, as lists that are given as slices.
use Rattle.std.proofs.Common.{arith, ◌≡◌, ℕ, zero, suc, ◌+◌, ◌-◌, ◌<◌, ◌≤◌, List, [], ◌∷◌, ◌++◌, ◌||◌, map, max, Option, Some, None, Bool, true, false, refl, ap, sym, ◌∙◌, length, take, drop, get_or, reverse, slice_get, append_assoc}
use Rattle.std.proofs.lemmas.List.{append-nil, length-reverse, reverse-reverse, take_more, take_all, map-append}
use Rattle.std.proofs.lemmas.List.Folds.{list_any-append}
use Rattle.std.specs.Prelude.{Vec}
use Rattle.std.specs.List.{list_any}
use Rattle.std.specs.declared.alloc.Global.{Global}
use Rattle.wa_types.specs.declared.values.ValType.{ValType}
use Rattle.wa_types.specs.declared.values.ValType.TheVariants.{I32, I64}
use Rattle.wa_types.specs.Encoding.{same_type}
use Rattle.wa_types.specs.Frames.{Pair, pair_onto, pairs_from, stands_at, is_type, greatest}
use Rattle.frame_sizes.specs.declared.slot_pairs.Pair.{Pair as PairValue}
use Rattle.frame_sizes.specs.Points.{lists_of}
use Rattle.frame_sizes.specs.Slots.{pair_of, pairs_of}

-- ---- one list of operands

pub found_none : (h : ℕ) (t : ValType) (ops : List ValType) → slice_get ops h ≡ None → false ≡ stands_at h t (reverse ops)
found_none h t ops e = sym (ap (is_type t) (ap (λ xs. slice_get xs h) (reverse-reverse ops) ∙ e))

pub found_some : (h : ℕ) (t u : ValType) (ops : List ValType) → slice_get ops h ≡ Some u → same_type t u ≡ stands_at h t (reverse ops)
found_some h t u ops e = sym (ap (is_type t) (ap (λ xs. slice_get xs h) (reverse-reverse ops) ∙ e))

pub ruleset reversing = (found_none, found_some)

-- ---- all points

abbrev Points : Type 0
Points = List (Vec ValType Global)

lists_append : (ps qs : Points) → lists_of (ps ++ qs) ≡ lists_of ps ++ lists_of qs
lists_append ps qs = map-append (λ (v : Vec ValType Global). reverse v.items) ps qs

lists_taken : (ps : Points) (i : ℕ) (x : Vec ValType Global) → i < length ps → x ≡ get_or ps i x → lists_of (take (i + 1) ps) ≡ lists_of (take i ps) ++ reverse x.items ∷ []
lists_taken ps i x lt at =
    ap lists_of (take_more ps i x lt) ∙ lists_append (take i ps) (get_or ps i x ∷ []) ∙ ap (λ (v : Vec ValType Global). lists_of (take i ps) ++ reverse v.items ∷ []) (sym at)

max_turned : (a b c : ℕ) → max a (max b c) ≡ max (max a b) c
max_turned a b c = grind arith

greatest_more : (xs : List (List ValType)) (x : List ValType) → greatest (xs ++ x ∷ []) ≡ max (length x) (greatest xs)
greatest_more [] x = refl
greatest_more (y ∷ xs) x = ap (max (length y)) (greatest_more xs x) ∙ grind arith

pub highest_more : (ps : Points) (i : ℕ) (x : Vec ValType Global) (old new : ℕ) → i < length ps → x ≡ get_or ps i x → old ≡ greatest (lists_of (take i ps)) → new ≡ max (length x.items) old
    → new ≡ greatest (lists_of (take (i + 1) ps))
highest_more ps i x old new lt at e f =
    f ∙ ap (max (length x.items)) e ∙ ap (λ n. max n (greatest (lists_of (take i ps)))) (sym (length-reverse x.items)) ∙ sym (greatest_more (lists_of (take i ps)) (reverse x.items))
    ∙ ap greatest (sym (lists_taken ps i x lt at))

pub highest_end : (ps : Points) (i most : ℕ) → length ps ≤ i → most ≡ greatest (lists_of (take i ps)) → most ≡ greatest (lists_of ps)
highest_end ps i most le e = e ∙ ap (λ (qs : Points). greatest (lists_of qs)) (take_all i ps le)

pub ruleset highest = (highest_more, highest_end)

any_one : (p : List ValType → Bool) (x : List ValType) → list_any p (x ∷ []) ≡ p x
any_one p x = either_none (p x)
  where
    either_none : (b : Bool) → (b || false) ≡ b
    either_none true = refl
    either_none false = refl

module _ (h : ℕ) (t : ValType) (ps : Points) (i : ℕ) where
  any_taken : (x : Vec ValType Global) → i < length ps → x ≡ get_or ps i x
      → list_any (stands_at h t) (lists_of (take (i + 1) ps)) ≡ (list_any (stands_at h t) (lists_of (take i ps)) || stands_at h t (reverse x.items))
  any_taken x lt at =
      ap (list_any (stands_at h t)) (lists_taken ps i x lt at) ∙ list_any-append (stands_at h t) (lists_of (take i ps)) (reverse x.items ∷ [])
      ∙ ap (λ b. list_any (stands_at h t) (lists_of (take i ps)) || b) (any_one (stands_at h t) (reverse x.items))

  pub none_more : (x : Vec ValType Global) → i < length ps → x ≡ get_or ps i x → list_any (stands_at h t) (lists_of (take i ps)) ≡ false → stands_at h t (reverse x.items) ≡ false
      → list_any (stands_at h t) (lists_of (take (i + 1) ps)) ≡ false
  none_more x lt at e f = any_taken x lt at ∙ ap (λ b. b || stands_at h t (reverse x.items)) e ∙ f

  pub none_end : length ps ≤ i → list_any (stands_at h t) (lists_of (take i ps)) ≡ false → false ≡ list_any (stands_at h t) (lists_of ps)
  none_end le e = sym e ∙ ap (λ (qs : Points). list_any (stands_at h t) (lists_of qs)) (take_all i ps le)

pub some_there : (h : ℕ) (t : ValType) (ps : Points) (i : ℕ) (x : Vec ValType Global) → i < length ps → x ≡ get_or ps i x → stands_at h t (reverse x.items) ≡ true
    → true ≡ list_any (stands_at h t) (lists_of ps)
some_there h t [] i x lt at e = absurd (omega (arith, lt))
some_there h t (p ∷ ps) zero x lt at e = sym (ap (λ b. b || list_any (stands_at h t) (lists_of ps)) (ap (λ (v : Vec ValType Global). stands_at h t (reverse v.items)) (sym at) ∙ e))
some_there h t (p ∷ ps) (suc i) x lt at e = by (stands_at h t (reverse p.items)) (some_there h t ps i x (omega (arith, lt)) at e)
  where
    by : (b : Bool) → true ≡ list_any (stands_at h t) (lists_of ps) → true ≡ (b || list_any (stands_at h t) (lists_of ps))
    by true f = refl
    by false f = f

pub ruleset standing = (none_more, none_end, some_there)

-- ---- pairs

pub pairs_more : (ps : List PairValue) (p : PairValue) → pairs_of (ps ++ p ∷ []) ≡ pairs_of ps ++ pair_of p ∷ []
pairs_more ps p = map-append pair_of ps (p ∷ [])

pub ruleset pushing = (pairs_more, append-nil)

onto_is : (b : Bool) (n : ℕ) (t : ValType) (rest : List Pair) → pair_onto b n t rest ≡ pair_onto b n t [] ++ rest
onto_is true n t rest = refl
onto_is false n t rest = refl

pub pairs_some : (test : ℕ → ValType → Bool) (n k : ℕ) → 0 < k → pairs_from test n k ≡ pair_onto (test n I32) n I32 [] ++ (pair_onto (test n I64) n I64 [] ++ pairs_from test (n + 1) (k - 1))
pairs_some test n zero h = absurd (omega (arith, h))
pairs_some test n (suc k) h =
    let m : suc n ≡ n + 1 = omega arith in
    let l : k ≡ suc k - 1 = omega arith in
    onto_is (test n I32) n I32 _
    ∙ ap (λ z. pair_onto (test n I32) n I32 [] ++ z) (onto_is (test n I64) n I64 (pairs_from test (suc n) k))
    ∙ ap (λ i. pair_onto (test n I32) n I32 [] ++ (pair_onto (test n I64) n I64 [] ++ pairs_from test i k)) m
    ∙ ap (λ i. pair_onto (test n I32) n I32 [] ++ (pair_onto (test n I64) n I64 [] ++ pairs_from test (n + 1) i)) l

-- a height's pairs are put behind those below it
pub height_put : (test : ℕ → ValType → Bool) (h count : ℕ) (old mid new all : List Pair) (narrow wide : Bool) → h < count → narrow ≡ test h I32 → wide ≡ test h I64
    → old ++ pairs_from test h (count - h) ≡ all → mid ≡ old ++ pair_onto narrow h I32 [] → new ≡ mid ++ pair_onto wide h I64 [] → new ++ pairs_from test (h + 1) (count - (h + 1)) ≡ all
height_put test h count old mid new all narrow wide lt en ew before em ex =
    let rest : List Pair = pairs_from test (h + 1) (count - h - 1) in
    let left : count - (h + 1) ≡ count - h - 1 = omega arith in
    ap (λ k. new ++ pairs_from test (h + 1) k) left
    ∙ ap (λ z. z ++ rest) (ex ∙ ap (λ z. z ++ pair_onto wide h I64 []) em) ∙ append_assoc (old ++ pair_onto narrow h I32 []) (pair_onto wide h I64 []) rest
    ∙ append_assoc old (pair_onto narrow h I32 []) (pair_onto wide h I64 [] ++ rest)
    ∙ ap (λ b. old ++ (pair_onto b h I32 [] ++ (pair_onto wide h I64 [] ++ rest))) en ∙ ap (λ b. old ++ (pair_onto (test h I32) h I32 [] ++ (pair_onto b h I64 [] ++ rest))) ew
    ∙ ap (λ z. old ++ z) (sym (pairs_some test h (count - h) (omega (arith, lt)))) ∙ before
