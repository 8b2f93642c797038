-- What a survey finds is what the definition numbers.
use Rattle.std.proofs.Common.{◌≡◌, ℕ, zero, suc, ◌+◌, ◌<◌, ◌||◌, ◌&&◌, ◌++◌, max, List, [], ◌∷◌, length, drop, nat_eq, Option, Some, None, Bool, true, false, if◌then◌else◌, refl, arith, ap, sym, ◌∙◌, ◌⊎◌, inl, inr, length-append}
use Rattle.std.specs.List.{list_any}
use Rattle.std.proofs.lemmas.Bool.{eqb-true}
use Rattle.std.proofs.lemmas.List.Folds.{list_any-append}
use Rattle.wa_types.specs.declared.values.ValType.{ValType}
use Rattle.wa_types.specs.declared.values.ValType.TheVariants.{I32, I64}
use Rattle.wa_types.specs.Encoding.{same_type}
use Rattle.wa_types.specs.Syntax.{Shape, a_block, a_loop, Code, done, plain, nest, branch}
use Rattle.wa_types.specs.Pruned.{is_last, pruned}
use Rattle.wa_types.specs.Counts.{depth_of}
use Rattle.wa_types.specs.Typing.{Around, label, listed, sig}
use Rattle.wa_types.specs.Points.{after, unless_last, points}
use Rattle.wa_types.specs.Frames.{Pair, pair_onto, pairs_from, pair_of, shape_pair, same_pair, stands_at, greatest, results_in}
use Rattle.wa_types.proofs.SlotLemmas.{stands_splits}
use Rattle.wasm_validate.specs.Walk.{Walk}
use Rattle.flatten.specs.declared.marks.Seen.{Seen}
use Rattle.flatten.specs.declared.survey.Found.{Found}
use Rattle.flatten.specs.Numbers.{is_marked, pairs_in}
use Rattle.flatten.specs.Emitting.{all_of}
use Rattle.flatten.specs.Surveying.{Covers, any_point, any_result, Surveyed, points_at, results_at}

-- ---- the same pairs

pairs_same : (n k : ℕ) (seen : List Seen) (test : ℕ → ValType → Bool) → ((j : ℕ) (t : ValType) → is_marked seen j t ≡ test (n + j) t)
    → ((j : ℕ) (t : ValType) → test (n + j) t ≡ true → j < k) → pairs_from test n k ≡ pairs_in n seen
pairs_same n zero [] test e lt = refl
pairs_same n (suc k) [] test e lt =
    let zero_is : n + 0 ≡ n = omega arith in
    let a : test n I32 ≡ false = ap (λ m. test m I32) (sym zero_is) ∙ sym (e 0 I32) in
    let b : test n I64 ≡ false = ap (λ m. test m I64) (sym zero_is) ∙ sym (e 0 I64) in
    ap (λ c. pair_onto c n I32 (pair_onto (test n I64) n I64 (pairs_from test (suc n) k))) a ∙ ap (λ c. pair_onto c n I64 (pairs_from test (suc n) k)) b
    ∙ pairs_same (suc n) k [] test (λ j t. e (suc j) t ∙ ap (λ m. test m t) (up n j)) (λ j t f. let w = lt (suc j) t (ap (λ m. test m t) (up n j) ∙ f) in omega (arith, w))
  where
    up : (n j : ℕ) → n + suc j ≡ suc n + j
    up n j = omega arith
pairs_same n zero (s ∷ seen) test e lt =
    let a : s.narrow ≡ false = off s.narrow (λ f. let w = lt 0 I32 (sym (e 0 I32) ∙ f) in omega (arith, w)) in
    let b : s.wide ≡ false = off s.wide (λ f. let w = lt 0 I64 (sym (e 0 I64) ∙ f) in omega (arith, w)) in
    pairs_same (suc n) zero seen test (λ j t. e (suc j) t ∙ ap (λ m. test m t) (up n j)) (λ j t f. let w = lt (suc j) t (ap (λ m. test m t) (up n j) ∙ f) in omega (arith, w))
    ∙ sym (ap (λ c. pair_onto c n I32 (pair_onto s.wide n I64 (pairs_in (suc n) seen))) a ∙ ap (λ c. pair_onto c n I64 (pairs_in (suc n) seen)) b)
  where
    up : (n j : ℕ) → n + suc j ≡ suc n + j
    up n j = omega arith

    off : (b : Bool) → (b ≡ true → ⊥) → b ≡ false
    off true f = absurd (f refl)
    off false f = refl
pairs_same n (suc k) (s ∷ seen) test e lt =
    let zero_is : n + 0 ≡ n = omega arith in
    let a : test n I32 ≡ s.narrow = ap (λ m. test m I32) (sym zero_is) ∙ sym (e 0 I32) in
    let b : test n I64 ≡ s.wide = ap (λ m. test m I64) (sym zero_is) ∙ sym (e 0 I64) in
    ap (λ c. pair_onto c n I32 (pair_onto (test n I64) n I64 (pairs_from test (suc n) k))) a ∙ ap (λ c. pair_onto s.narrow n I32 (pair_onto c n I64 (pairs_from test (suc n) k))) b
    ∙ ap (λ ps. pair_onto s.narrow n I32 (pair_onto s.wide n I64 ps)) (pairs_same (suc n) k seen test (λ j t. e (suc j) t ∙ ap (λ m. test m t) (up n j))
    (λ j t f. let w = lt (suc j) t (ap (λ m. test m t) (up n j) ∙ f) in omega (arith, w)))
  where
    up : (n j : ℕ) → n + suc j ≡ suc n + j
    up n j = omega arith

-- from number 0 on
same_pairs : (k : ℕ) (seen : List Seen) (test : ℕ → ValType → Bool) → ((j : ℕ) (t : ValType) → is_marked seen j t ≡ test j t) → ((j : ℕ) (t : ValType) → test j t ≡ true → j < k)
    → pairs_from test 0 k ≡ pairs_in 0 seen
same_pairs k seen test e lt =
    pairs_same 0 k seen test (λ j t. e j t ∙ ap (λ m. test m t) (none j)) (λ j t f. lt j t (ap (λ m. test m t) (none j) ∙ f))
  where
    none : (j : ℕ) → j ≡ 0 + j
    none j = omega arith

-- ---- bounds

stands_low : (h : ℕ) (t : ValType) (ops : List ValType) → stands_at h t ops ≡ true → h < length ops
stands_low h t ops e = let s = stands_splits h t ops e in omega (arith, s.3, ap length s.2, length-append s.0 (t ∷ s.1))

either : (a b : Bool) → (a || b) ≡ true → (a ≡ true) ⊎ (b ≡ true)
either true b e = inl refl
either false b e = inr e

point_low : (h : ℕ) (t : ValType) (pts : List (List ValType)) → list_any (stands_at h t) pts ≡ true → h < greatest pts
point_low h t [] e = cc
point_low h t (ops ∷ pts) e = by (λ f. point_low h t pts f) (either (stands_at h t ops) (list_any (stands_at h t) pts) e)
  where
    by : (list_any (stands_at h t) pts ≡ true → h < greatest pts) → (stands_at h t ops ≡ true) ⊎ (list_any (stands_at h t) pts ≡ true) → h < max (length ops) (greatest pts)
    by ih (inl f) = let w = stands_low h t ops f in omega (arith, w)
    by ih (inr f) = let w = ih f in omega (arith, w)

one_pair : (d n : ℕ) (t : ValType) (r : Option ValType) → list_any (same_pair d t) (pair_of n r) ≡ true → d ≡ n
one_pair d n t None e = cc
one_pair d n t (Some u) e = eqb-true d n (first (nat_eq d n) (same_type t u) e)
  where
    first : (a b : Bool) → ((a && b) || false) ≡ true → a ≡ true
    first true b e = refl
    first false b e = cc

module _ (d : ℕ) (t : ValType) where
  abbrev Low : ℕ → Code → Type 0
  Low n k = list_any (same_pair d t) (results_in n k) ≡ true → d < n + depth_of k

  any_two : (xs ys : List Pair) (m : ℕ) → (list_any (same_pair d t) xs ≡ true → d < m) → (list_any (same_pair d t) ys ≡ true → d < m) → list_any (same_pair d t) (xs ++ ys) ≡ true → d < m
  any_two xs ys m f g e = by (either (list_any (same_pair d t) xs) (list_any (same_pair d t) ys) (sym (list_any-append (same_pair d t) xs ys) ∙ e))
    where
      by : (list_any (same_pair d t) xs ≡ true) ⊎ (list_any (same_pair d t) ys ≡ true) → d < m
      by (inl q) = f q
      by (inr q) = g q

  shape_low : (s : Shape) (n : ℕ) (r : Option ValType) → list_any (same_pair d t) (shape_pair s n r) ≡ true → d ≡ n
  shape_low a_block n r e = one_pair d n t r e
  shape_low a_loop n r e = cc

  pub result_low : (n : ℕ) (k : Code) → Low n k
  unfolding results_in depth_of
  result_low n done e = cc
  result_low n (plain p rest) e = result_low n rest e
  result_low n (nest s r body rest) e =
      any_two (shape_pair s n r ++ results_in (suc n) body) (results_in n rest) (n + max (1 + depth_of body) (depth_of rest))
      (λ f. any_two (shape_pair s n r) (results_in (suc n) body) (n + max (1 + depth_of body) (depth_of rest)) (λ q. omega (arith, shape_low s n r q))
      (λ q. let w = result_low (suc n) body q in omega (arith, w)) f)
      (λ f. let w = result_low n rest f in omega (arith, w)) e
  result_low n (branch r a b rest) e =
      any_two (pair_of n r ++ results_in (suc n) a ++ results_in (suc n) b) (results_in n rest) (n + max (1 + max (depth_of a) (depth_of b)) (depth_of rest))
      (λ f. any_two (pair_of n r ++ results_in (suc n) a) (results_in (suc n) b) (n + max (1 + max (depth_of a) (depth_of b)) (depth_of rest))
      (λ q. any_two (pair_of n r) (results_in (suc n) a) (n + max (1 + max (depth_of a) (depth_of b)) (depth_of rest)) (λ z. omega (arith, one_pair d n t r z))
      (λ z. let w = result_low (suc n) a z in omega (arith, w)) q)
      (λ q. let w = result_low (suc n) b q in omega (arith, w)) f)
      (λ f. let w = result_low n rest f in omega (arith, w)) e

-- ---- points of pruned code

pub points_pruned : (c : Around) (ls : List (Option ValType)) (k : Code) (under ops : List ValType) → points c ls (pruned k) under ops ≡ points c ls k under ops
unfolding points pruned
points_pruned c ls done under ops = refl
points_pruned c ls (plain p rest) under ops = by (is_last p) (points_pruned c ls rest under (after (sig c ls p) ops))
  where
    by : (b : Bool) → points c ls (pruned rest) under (after (sig c ls p) ops) ≡ points c ls rest under (after (sig c ls p) ops)
        → (ops ++ under) ∷ unless_last b (points c ls (if b then done else pruned rest) under (after (sig c ls p) ops)) ≡ (ops ++ under)
        ∷ unless_last b (points c ls rest under (after (sig c ls p) ops))
    by true ih = refl
    by false ih = ap (λ z. (ops ++ under) ∷ z) ih
points_pruned c ls (nest s r body rest) under ops =
    ap (λ z. (ops ++ under) ∷ (z ++ points c ls (pruned rest) under (listed r ++ ops))) (points_pruned c (label s r ∷ ls) body (ops ++ under) [])
    ∙ ap (λ z. (ops ++ under) ∷ (points c (label s r ∷ ls) body (ops ++ under) [] ++ z)) (points_pruned c ls rest under (listed r ++ ops))
points_pruned c ls (branch r a b rest) under ops =
    let low : List ValType = drop 1 ops ++ under in
    let rest_points : List (List ValType) = points c ls rest under (listed r ++ drop 1 ops) in
    ap (λ z. (ops ++ under) ∷ (z ++ (points c (r ∷ ls) (pruned b) low [] ++ points c ls (pruned rest) under (listed r ++ drop 1 ops)))) (points_pruned c (r ∷ ls) a low [])
    ∙ ap (λ z. (ops ++ under) ∷ (points c (r ∷ ls) a low [] ++ (z ++ points c ls (pruned rest) under (listed r ++ drop 1 ops)))) (points_pruned c (r ∷ ls) b low [])
    ∙ ap (λ z. (ops ++ under) ∷ (points c (r ∷ ls) a low [] ++ (points c (r ∷ ls) b low [] ++ z))) (points_pruned c ls rest under (listed r ++ drop 1 ops))

-- ---- all of a body

module _ (w u : Walk) (given : Option ValType) (k : Code) (a b : Found) (none_slots : a.slots.items ≡ []) (marked : (d : ℕ) (t : ValType)
    → is_marked a.results.items d t ≡ (list_any (same_pair d t) (pair_of 0 given) || false)) (s : Surveyed w u k a b) (own : w.own ≡ []) (under : w.under ≡ [])
    (labels : w.labels ≡ given ∷ []) where
  nothing : (h : ℕ) (t : ValType) → is_marked a.slots.items h t ≡ false
  nothing h t = ap (λ z. is_marked z h t) none_slots ∙ empty h t
    where
      empty : (h : ℕ) (t : ValType) → is_marked [] h t ≡ false
      empty h I32 = refl
      empty h I64 = refl

  covered : Covers a.slots.items (all_of w)
  covered h t e = cover (ap (λ z. stands_at h t (z ++ w.under)) own ∙ ap (stands_at h t) under)
    where
      cover : stands_at h t (all_of w) ≡ stands_at h t [] → is_marked a.slots.items h t ≡ true
      cover f = let z = sym f ∙ e in cc

  pub slots_are : pairs_in 0 b.slots.items ≡ pairs_from (λ h t. list_any (stands_at h t) (points_at w k)) 0 (greatest (points_at w k))
  slots_are =
      sym (same_pairs (greatest (points_at w k)) b.slots.items (λ h t. list_any (stands_at h t) (points_at w k))
      (λ h t. s.slots covered h t ∙ ap (λ z. z || any_point h t w k) (nothing h t) ∙ ap (list_any (stands_at h t)) (sym (points_pruned w.around w.labels k w.under w.own)))
      (λ h t e. point_low h t (points_at w k) e))

  pub results_are : pairs_in 0 b.results.items ≡ pairs_from (λ d t. list_any (same_pair d t) (results_at given k)) 0 (suc (depth_of (pruned k)))
  results_are =
      sym (same_pairs (suc (depth_of (pruned k))) b.results.items (λ d t. list_any (same_pair d t) (results_at given k))
      (λ d t. s.results d t ∙ ap (λ z. z || any_result d t w k) (marked d t ∙ or_false (list_any (same_pair d t) (pair_of 0 given)))
      ∙ ap (λ ls. list_any (same_pair d t) (pair_of 0 given) || list_any (same_pair d t) (results_in (length ls) (pruned k))) labels
      ∙ sym (list_any-append (same_pair d t) (pair_of 0 given) (results_in 1 (pruned k))))
      (λ d t e. low d t (either _ _ (sym (list_any-append (same_pair d t) (pair_of 0 given) (results_in 1 (pruned k))) ∙ e))))
    where
      or_false : (m : Bool) → (m || false) ≡ m
      or_false true = refl
      or_false false = refl

      low : (d : ℕ) (t : ValType) → (list_any (same_pair d t) (pair_of 0 given) ≡ true) ⊎ (list_any (same_pair d t) (results_in 1 (pruned k)) ≡ true) → d < suc (depth_of (pruned k))
      low d t (inl f) = omega (arith, one_pair d 0 t given f)
      low d t (inr f) = let z = result_low d t 1 (pruned k) f in omega (arith, z)

pub no_marks : (seen : List Seen) (d : ℕ) (t : ValType) → seen ≡ [] → is_marked seen d t ≡ false
no_marks seen d t e = ap (λ z. is_marked z d t) e ∙ empty t
  where
    empty : (t : ValType) → is_marked [] d t ≡ false
    empty I32 = refl
    empty I64 = refl
