-- The result locals of a function are the results of its blocks and ifs, and its own.
use Rattle.std.proofs.Common.{arith, ◌≡◌, ℕ, suc, ◌+◌, ◌<◌, ◌⊎◌, inl, inr, ◌++◌, List, [], ◌∷◌, Some, None, Option, Bool, true, false, refl, ap, sym, ◌∙◌}
use Rattle.std.specs.List.{list_any}
use Rattle.std.proofs.lemmas.Bool.{eq-eqb}
use Rattle.std.specs.Prelude.{nat_eq}
use Rattle.wa_types.specs.declared.values.ValType.{ValType}
use Rattle.wa_types.specs.Encoding.{same_type}
use Rattle.wa_types.specs.Syntax.{a_block, a_loop, Code, done, plain, nest, branch, Func, Module}
use Rattle.wa_types.specs.Pruned.{pruned}
use Rattle.wa_types.specs.Modules.{around}
use Rattle.wa_types.specs.Counts.{depth_of}
use Rattle.wa_types.specs.Frames.{Pair, same_pair, pair_of, results_in, all_results, ResultPairs}
use Rattle.wa_types.proofs.SlotLemmas.{same_self, either_true, or_left, or_right, and_both, own_pair, pairs_pass, pass_pairs}
use Rattle.slot_laws.specs.SlotBounds.{ResultIn, ResultPair, ResultsArePairs, ResultsAscend, ResultsStandOnce, SlotsAscend}
use Rattle.slot_laws.proofs.Order.{pairs_ascend, stand_once}
use Rattle.wa_types.specs.Frames.{stands_at, greatest}
use Rattle.wa_types.specs.Points.{func_points}

pub any_either : (test : Pair → Bool) (xs ys : List Pair) → list_any test (xs ++ ys) ≡ true → (list_any test xs ≡ true) ⊎ (list_any test ys ≡ true)
any_either test [] ys e = inr e
any_either test (x ∷ xs) ys e = elim (either_true (test x) (list_any test (xs ++ ys)) e) [
  | inl h ↦ inl (or_left (test x) (list_any test xs) h)
  | inr h ↦ elim (any_either test xs ys h) [ inl k ↦ inl (or_right (test x) (list_any test xs) k) | inr k ↦ inr k ]
]

pub any_left : (test : Pair → Bool) (xs ys : List Pair) → list_any test xs ≡ true → list_any test (xs ++ ys) ≡ true
any_left test [] ys e = cc
any_left test (x ∷ xs) ys e = elim (either_true (test x) (list_any test xs) e) [
  | inl h ↦ or_left (test x) (list_any test (xs ++ ys)) h
  | inr h ↦ or_right (test x) (list_any test (xs ++ ys)) (any_left test xs ys h)
]

pub any_right : (test : Pair → Bool) (xs ys : List Pair) → list_any test ys ≡ true → list_any test (xs ++ ys) ≡ true
any_right test [] ys e = e
any_right test (x ∷ xs) ys e = or_right (test x) (list_any test (xs ++ ys)) (any_right test xs ys e)

-- a result of a construct at a depth
pub pair_is : (n d : ℕ) (t : ValType) (r : Option ValType) → list_any (same_pair d t) (pair_of n r) ≡ true → (d ≡ n) × (r ≡ Some t)
pair_is n d t None e = cc
pair_is n d t (Some u) e = elim (either_true (same_pair d t (record { number = n; ty = u })) false e) [
  | inl h ↦ let w = own_pair d n t u h in (w.0, ap Some (sym w.1))
  | inr h ↦ cc
]

-- .. and back: the pair of a construct's result is among its own
pub is_pair : (n d : ℕ) (t : ValType) (r : Option ValType) → d ≡ n → r ≡ Some t → list_any (same_pair d t) (pair_of n r) ≡ true
is_pair n d t r e f =
    let own : list_any (same_pair d t) (pair_of d (Some t)) ≡ true =
    or_left (same_pair d t (record { number = d; ty = t })) false (and_both (nat_eq d d) (same_type t t) (eq-eqb d d refl) (same_self t)) in
    ap (λ k. list_any (same_pair d t) (pair_of k r)) (sym e) ∙ ap (λ o. list_any (same_pair d t) (pair_of d o)) f ∙ own

result_found : (k d : ℕ) (t : ValType) (code : Code) → list_any (same_pair d t) (results_in k code) ≡ true → ResultIn k code d t
unfolding results_in ResultIn
result_found k d t done e = cc
result_found k d t (plain p rest) e = result_found k d t rest e
result_found k d t (nest a_block r body rest) e = elim (any_either (same_pair d t) (pair_of k r ++ results_in (suc k) body) (results_in k rest) e) [
  | inl h ↦ elim (any_either (same_pair d t) (pair_of k r) (results_in (suc k) body) h) [
    | inl g ↦ inl (pair_is k d t r g)
    | inr g ↦ inr (inl (result_found (suc k) d t body g))
  ]
  | inr h ↦ inr (inr (result_found k d t rest h))
]
result_found k d t (nest a_loop r body rest) e = elim (any_either (same_pair d t) (results_in (suc k) body) (results_in k rest) e) [
  | inl h ↦ inl (result_found (suc k) d t body h)
  | inr h ↦ inr (result_found k d t rest h)
]
result_found k d t (branch r a b rest) e = elim (any_either (same_pair d t) (pair_of k r ++ results_in (suc k) a ++ results_in (suc k) b) (results_in k rest) e) [
  | inl h ↦ elim (any_either (same_pair d t) (pair_of k r ++ results_in (suc k) a) (results_in (suc k) b) h) [
    | inl g ↦ elim (any_either (same_pair d t) (pair_of k r) (results_in (suc k) a) g) [
      | inl i ↦ inl (pair_is k d t r i)
      | inr i ↦ inr (inl (result_found (suc k) d t a i))
    ]
    | inr g ↦ inr (inr (inl (result_found (suc k) d t b g)))
  ]
  | inr h ↦ inr (inr (inr (result_found k d t rest h)))
]

found_result : (k d : ℕ) (t : ValType) (code : Code) → ResultIn k code d t → list_any (same_pair d t) (results_in k code) ≡ true
unfolding results_in ResultIn
found_result k d t done h = absurd h
found_result k d t (plain p rest) h = found_result k d t rest h
found_result k d t (nest a_block r body rest) (inl (e, f)) =
    any_left (same_pair d t) (pair_of k r ++ results_in (suc k) body) (results_in k rest) (any_left (same_pair d t) (pair_of k r) (results_in (suc k) body) (is_pair k d t r e f))
found_result k d t (nest a_block r body rest) (inr (inl h)) =
    any_left (same_pair d t) (pair_of k r ++ results_in (suc k) body) (results_in k rest) (any_right (same_pair d t) (pair_of k r) (results_in (suc k) body) (found_result (suc k) d t body h))
found_result k d t (nest a_block r body rest) (inr (inr h)) =
    any_right (same_pair d t) (pair_of k r ++ results_in (suc k) body) (results_in k rest) (found_result k d t rest h)
found_result k d t (nest a_loop r body rest) (inl h) = any_left (same_pair d t) (results_in (suc k) body) (results_in k rest) (found_result (suc k) d t body h)
found_result k d t (nest a_loop r body rest) (inr h) = any_right (same_pair d t) (results_in (suc k) body) (results_in k rest) (found_result k d t rest h)
found_result k d t (branch r a b rest) (inl (e, f)) =
    any_left (same_pair d t) (pair_of k r ++ results_in (suc k) a ++ results_in (suc k) b) (results_in k rest)
    (any_left (same_pair d t) (pair_of k r ++ results_in (suc k) a) (results_in (suc k) b) (any_left (same_pair d t) (pair_of k r) (results_in (suc k) a) (is_pair k d t r e f)))
found_result k d t (branch r a b rest) (inr (inl h)) =
    any_left (same_pair d t) (pair_of k r ++ results_in (suc k) a ++ results_in (suc k) b) (results_in k rest)
    (any_left (same_pair d t) (pair_of k r ++ results_in (suc k) a) (results_in (suc k) b) (any_right (same_pair d t) (pair_of k r) (results_in (suc k) a) (found_result (suc k) d t a h)))
found_result k d t (branch r a b rest) (inr (inr (inl h))) =
    any_left (same_pair d t) (pair_of k r ++ results_in (suc k) a ++ results_in (suc k) b) (results_in k rest)
    (any_right (same_pair d t) (pair_of k r ++ results_in (suc k) a) (results_in (suc k) b) (found_result (suc k) d t b h))
found_result k d t (branch r a b rest) (inr (inr (inr h))) =
    any_right (same_pair d t) (pair_of k r ++ results_in (suc k) a ++ results_in (suc k) b) (results_in k rest) (found_result k d t rest h)

-- no construct stands deeper than the code nests
depth_bounds : (k d : ℕ) (t : ValType) (code : Code) → ResultIn k code d t → d < k + depth_of code
unfolding depth_of ResultIn
depth_bounds k d t done h = absurd h
depth_bounds k d t (plain p rest) h = depth_bounds k d t rest h
depth_bounds k d t (nest a_block r body rest) (inl (e, f)) = omega (arith, e)
depth_bounds k d t (nest a_block r body rest) (inr (inl h)) = let g = depth_bounds (suc k) d t body h in omega (arith, g)
depth_bounds k d t (nest a_block r body rest) (inr (inr h)) = let g = depth_bounds k d t rest h in omega (arith, g)
depth_bounds k d t (nest a_loop r body rest) (inl h) = let g = depth_bounds (suc k) d t body h in omega (arith, g)
depth_bounds k d t (nest a_loop r body rest) (inr h) = let g = depth_bounds k d t rest h in omega (arith, g)
depth_bounds k d t (branch r a b rest) (inl (e, f)) = omega (arith, e)
depth_bounds k d t (branch r a b rest) (inr (inl h)) = let g = depth_bounds (suc k) d t a h in omega (arith, g)
depth_bounds k d t (branch r a b rest) (inr (inr (inl h))) = let g = depth_bounds (suc k) d t b h in omega (arith, g)
depth_bounds k d t (branch r a b rest) (inr (inr (inr h))) = let g = depth_bounds k d t rest h in omega (arith, g)

module _ (m : Module) (f : Func) where
  abbrev own : Option ValType
  own = (around m f).result

  abbrev test : ℕ → ValType → Bool
  test d t = list_any (same_pair d t) (all_results m f)

  to_pair : (d : ℕ) (t : ValType) → list_any (same_pair d t) (ResultPairs m f) ≡ true → ResultPair m f d t
  to_pair d t e =
      let passes = pairs_pass test 0 (suc (depth_of (pruned f.body))) d t e in
      elim (any_either (same_pair d t) (pair_of 0 own) (results_in 1 (pruned f.body)) passes) [
        | inl h ↦ inl (pair_is 0 d t own h)
        | inr h ↦ inr (result_found 1 d t (pruned f.body) h)
      ]

  of_pair : (d : ℕ) (t : ValType) → ResultPair m f d t → list_any (same_pair d t) (ResultPairs m f) ≡ true
  of_pair d t (inl (e, g)) =
      pass_pairs test 0 (suc (depth_of (pruned f.body))) d t (omega arith) (omega (arith, e)) (any_left (same_pair d t) (pair_of 0 own) (results_in 1 (pruned f.body)) (is_pair 0 d t own e g))
  of_pair d t (inr h) =
      let deep = depth_bounds 1 d t (pruned f.body) h in
      pass_pairs test 0 (suc (depth_of (pruned f.body))) d t (omega arith) (omega (arith, deep))
      (any_right (same_pair d t) (pair_of 0 own) (results_in 1 (pruned f.body)) (found_result 1 d t (pruned f.body) h))

pub results_pairs : ResultsArePairs
results_pairs m f d t = (to_pair m f d t, of_pair m f d t)

pub results_ascend : ResultsAscend
results_ascend m f = pairs_ascend (test m f) 0 (suc (depth_of (pruned f.body)))

pub results_once : ResultsStandOnce
results_once m f = stand_once (ResultPairs m f) (results_ascend m f)

pub slots_ascend : SlotsAscend
slots_ascend m f = pairs_ascend (λ h t. list_any (stands_at h t) (func_points m f)) 0 (greatest (func_points m f))
