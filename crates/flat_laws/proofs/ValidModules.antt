-- Code of valid modules: typed, with a slot for each operand and a local for each result.
use Rattle.std.proofs.Common.{◌≡◌, ◌∙◌, ℕ, suc, ◌+◌, ◌≤◌, ◌<◌, List, [], ◌∷◌, ◌++◌, length, drop, Option, Some, None, Bool, true, false, ◌||◌, ◌&&◌, inl, inr, refl, sym, ap, subst, arith}
use Rattle.std.specs.Prelude.{nat_eq, if◌then◌else◌}
use Rattle.std.specs.List.{list_any}
use Rattle.std.proofs.lemmas.Bool.{eq-eqb}
use Rattle.std.proofs.lemmas.List.{append_assoc}
use Rattle.std.proofs.lemmas.List.Folds.{list_any-append}
use Rattle.wa_types.specs.declared.values.ValType.{ValType}
use Rattle.wa_types.specs.declared.values.ValType.TheVariants.{I32, I64}
use Rattle.wa_types.specs.Encoding.{same_type}
use Rattle.wa_types.specs.Syntax.{Plain, basic, local_get, local_set, local_tee, br, br_if, br_table, return, unreachable, call, call_indirect, Shape, a_block, a_loop, Code, done, plain}
use Rattle.wa_types.specs.Syntax.{nest, branch, Func, Module}
use Rattle.wa_types.specs.Pruned.{is_last, pruned}
use Rattle.wa_types.specs.Typing.{Around, listed, sig, label, Types}
use Rattle.wa_types.specs.Points.{Unless, AtPoint, after}
use Rattle.wa_types.specs.Counts.{depth_of}
use Rattle.wa_types.specs.Validity.{Valid}
use Rattle.wa_types.specs.Modules.{func_type_at, type_at, defined_at, around}
use Rattle.wa_types.specs.Frames.{Pair, same_pair, pair_of, shape_pair, results_in, all_results, SlotPairs, ResultPairs}
use Rattle.wa_types.proofs.TypingLemmas.{pruned_types}
use Rattle.wa_types.proofs.SlotLemmas.{pairs_are_slots, pass_pairs}
use Rattle.run_theory.proofs.FittingNames.{type_small, func_type_small, defined_type}
use Rattle.run_theory.proofs.FittingSteps.{body_typed}
use Rattle.flat_laws.specs.Flatten.{Names, names, past, place, flat, flat_plain}
use Rattle.flat_laws.specs.Placed.{AllIn, HasResult, GoesOn, Good}

-- ---- flat code of pruned code

pub flat_pruned : (n : Names) (c : Around) (ls : List (Option ValType)) (code : Code) (ops : List ValType) → flat n c ls (pruned code) ops ≡ flat n c ls code ops
unfolding flat pruned
flat_pruned n c ls done ops = refl
flat_pruned n c ls (plain p rest) ops = by p rest (λ os. flat_pruned n c ls rest os)
  where
    by : (p : Plain) (rest : Code) → ((os : List ValType) → flat n c ls (pruned rest) os ≡ flat n c ls rest os)
        → flat_plain n c ls ops (after (sig c ls p) ops) p (flat n c ls (if is_last p then done else pruned rest) (after (sig c ls p) ops))
        ≡ flat_plain n c ls ops (after (sig c ls p) ops) p (flat n c ls rest (after (sig c ls p) ops))
    by (basic b) rest ih = ap (flat_plain n c ls ops (after (sig c ls (basic b)) ops) (basic b)) (ih _)
    by (local_get x) rest ih = ap (flat_plain n c ls ops (after (sig c ls (local_get x)) ops) (local_get x)) (ih _)
    by (local_set x) rest ih = ap (flat_plain n c ls ops (after (sig c ls (local_set x)) ops) (local_set x)) (ih _)
    by (local_tee x) rest ih = ap (flat_plain n c ls ops (after (sig c ls (local_tee x)) ops) (local_tee x)) (ih _)
    by (br l) rest ih = refl
    by (br_if l) rest ih = ap (flat_plain n c ls ops (after (sig c ls (br_if l)) ops) (br_if l)) (ih _)
    by (br_table ts l) rest ih = refl
    by return rest ih = refl
    by unreachable rest ih = refl
    by (call x) rest ih = ap (flat_plain n c ls ops (after (sig c ls (call x)) ops) (call x)) (ih _)
    by (call_indirect x) rest ih = ap (flat_plain n c ls ops (after (sig c ls (call_indirect x)) ops) (call_indirect x)) (ih _)
flat_pruned n c ls (nest s r body rest) ops = let a = flat_pruned n c (label s r ∷ ls) body ops in let b = flat_pruned n c ls rest (listed r ++ ops) in cc
flat_pruned n c ls (branch r a b rest) ops = let ea = flat_pruned n c (r ∷ ls) a (drop 1 ops) in let eb = flat_pruned n c (r ∷ ls) b (drop 1 ops) in let er =
    flat_pruned n c ls rest (listed r ++ drop 1 ops) in cc

pub good_pruned : (n : Names) (c : Around) (ls : List (Option ValType)) (code : Code) (outs own low : List ValType) → Good n c ls (pruned code) outs own low → Good n c ls code outs own low
unfolding Good pruned
good_pruned n c ls done outs own low g = g
good_pruned n c ls (plain p rest) outs own low g = (g.0, g.1, g.2, by (is_last p) (λ h. good_pruned n c ls rest outs g.1 low h) g.3)
  where
    by : (b : Bool) → (Good n c ls (pruned rest) outs g.1 low → Good n c ls rest outs g.1 low) → GoesOn b (Good n c ls (if b then done else pruned rest) outs g.1 low)
        → GoesOn b (Good n c ls rest outs g.1 low)
    by true ih h = tt
    by false ih h = ih h
good_pruned n c ls (nest s r body rest) outs own low g = (g.0, g.1, good_pruned n c (label s r ∷ ls) body (listed r) [] (own ++ low) g.2, good_pruned n c ls rest outs (listed r ++ own) low g.3)
good_pruned n c ls (branch r a b rest) outs own low g =
    (g.0, g.1, g.2, g.3, good_pruned n c (r ∷ ls) a (listed r) [] (g.2 ++ low) g.4, good_pruned n c (r ∷ ls) b (listed r) [] (g.2 ++ low) g.5, good_pruned n c ls rest outs (listed r ++ g.2) low g.6)

-- ---- results have their locals

any_left : (a b : Bool) → a ≡ true → (a || b) ≡ true
any_left true b e = refl
any_left false b e = cc

any_right : (a b : Bool) → b ≡ true → (a || b) ≡ true
any_right true b e = refl
any_right false b e = e

in_front_of : (h : ℕ) (t : ValType) (xs ys : List Pair) → list_any (same_pair h t) xs ≡ true → list_any (same_pair h t) (xs ++ ys) ≡ true
in_front_of h t xs ys e = list_any-append (same_pair h t) xs ys ∙ any_left (list_any (same_pair h t) xs) (list_any (same_pair h t) ys) e

in_back_of : (h : ℕ) (t : ValType) (xs ys : List Pair) → list_any (same_pair h t) ys ≡ true → list_any (same_pair h t) (xs ++ ys) ≡ true
in_back_of h t xs ys e = list_any-append (same_pair h t) xs ys ∙ any_right (list_any (same_pair h t) xs) (list_any (same_pair h t) ys) e

same_self : (t : ValType) → same_type t t ≡ true
same_self I32 = refl
same_self I64 = refl

itself : (d : ℕ) (t : ValType) → list_any (same_pair d t) (pair_of d (Some t)) ≡ true
itself d t = any_left (nat_eq d d && same_type t t) false (ap (λ b. b && same_type t t) (eq-eqb d d refl) ∙ same_self t)

-- what stands in a list has a place in it
pub any_place : (h : ℕ) (t : ValType) (ps : List Pair) → list_any (same_pair h t) ps ≡ true → place h t ps < length ps
any_place h t [] e = cc
any_place h t (p ∷ ps) e = by (same_pair h t p) (λ z. any_place h t ps z) e
  where
    by : (b : Bool) → (list_any (same_pair h t) ps ≡ true → place h t ps < length ps) → (b || list_any (same_pair h t) ps) ≡ true → past b (place h t ps) < suc (length ps)
    by true ih e = omega arith
    by false ih e = let z = ih e in omega arith

abbrev Within : Names → (from to : ℕ) → List Pair → Type 0
Within n from to ps = (h : ℕ) (t : ValType) → list_any (same_pair h t) ps ≡ true → h < to → place h t n.results < length n.results

result_in : (n : Names) (s : Shape) (d to : ℕ) (r : Option ValType) → d < to → Within n d to (shape_pair s d r) → HasResult n d (label s r)
result_in n a_block d to None lt h = tt
result_in n a_block d to (Some t) lt h = h d t (itself d t) lt
result_in n a_loop d to r lt h = tt

-- ---- good code

module _ (n : Names) (c : Around) where
  abbrev Pts : List (Option ValType) → Code → (own low : List ValType) → Type 0
  Pts ls code own low = (all : List ValType) → AtPoint c ls code low own all → AllIn n all

  starts : (ls : List (Option ValType)) (code : Code) (own low : List ValType) → AtPoint c ls code low own (own ++ low)
  unfolding AtPoint
  starts ls done own low = refl
  starts ls (plain p rest) own low = inl refl
  starts ls (nest s r body rest) own low = inl refl
  starts ls (branch r a b rest) own low = inl refl

  pub good_code : (ls : List (Option ValType)) (code : Code) (outs own low : List ValType) (to : ℕ) → Types c ls code outs own → Pts ls code own low → length ls + depth_of code ≤ to
      → Within n (length ls) to (results_in (length ls) code) → Good n c ls code outs own low
  unfolding Good Types AtPoint results_in depth_of
  good_code ls done outs own low to t h le wi = (h (own ++ low) refl, t)
  good_code ls (plain p rest) outs own low to t h le wi = (h (own ++ low) (inl refl), t.0, t.1, by (is_last p) refl (λ g. good_code ls rest outs t.0 low to t.2 g le wi))
    where
      by : (b : Bool) → is_last p ≡ b → (((all : List ValType) → AtPoint c ls rest low t.0 all → AllIn n all) → Good n c ls rest outs t.0 low) → GoesOn b (Good n c ls rest outs t.0 low)
      by true e ih = tt
      by false e ih = ih (λ all at. h all (inr (t.0, t.1, subst (λ b. Unless b (AtPoint c ls rest low t.0 all)) (sym e) at)))
  good_code ls (nest s r body rest) outs own low to t h le wi =
      let d : ℕ = length ls in
      let here : List Pair = shape_pair s d r in
      let inner : List Pair = results_in (suc d) body in
      let behind : List Pair = results_in d rest in (
        h (own ++ low) (inl refl),
        result_in n s d to r (omega arith) (λ k u e lt. wi k u (in_front_of k u (here ++ inner) behind (in_front_of k u here inner e)) lt),
        good_code (label s r ∷ ls) body (listed r) [] (own ++ low) to t.0 (λ all at. h all (inr (inl at))) (omega arith)
            (λ k u e lt. wi k u (in_front_of k u (here ++ inner) behind (in_back_of k u here inner e)) lt),
        good_code ls rest outs (listed r ++ own) low to t.1 (λ all at. h all (inr (inr at))) (omega arith) (λ k u e lt. wi k u (in_back_of k u (here ++ inner) behind e) lt),
      )
  good_code ls (branch r a b rest) outs own low to t h le wi =
      let d : ℕ = length ls in
      let here : List Pair = pair_of d r in
      let one : List Pair = results_in (suc d) a in
      let two : List Pair = results_in (suc d) b in
      let behind : List Pair = results_in d rest in (
        h (own ++ low) (inl refl),
        result_in n a_block d to r (omega arith) (λ k u e lt. wi k u (in_front_of k u (here ++ one ++ two) behind (in_front_of k u (here ++ one) two (in_front_of k u here one e))) lt),
        t.0,
        t.1,
        good_code (r ∷ ls) a (listed r) [] (t.0 ++ low) to t.2 (λ all at. h all (inr (t.0, t.1, inl at))) (omega arith)
            (λ k u e lt. wi k u (in_front_of k u (here ++ one ++ two) behind (in_front_of k u (here ++ one) two (in_back_of k u here one e))) lt),
        good_code (r ∷ ls) b (listed r) [] (t.0 ++ low) to t.3 (λ all at. h all (inr (t.0, t.1, inr (inl at)))) (omega arith)
            (λ k u e lt. wi k u (in_front_of k u (here ++ one ++ two) behind (in_back_of k u (here ++ one) two e)) lt),
        good_code ls rest outs (listed r ++ t.0) low to t.4 (λ all at. h all (inr (t.0, t.1, inr (inr at)))) (omega arith) (λ k u e lt. wi k u (in_back_of k u (here ++ one ++ two) behind e) lt),
      )

-- ---- a function of a valid module

module _ (m : Module) (f : Func) where
  -- the operands of a point have slots
  all_in : (all above rest : List ValType) → AtPoint (around m f) ((around m f).result ∷ []) (pruned f.body) [] [] all → all ≡ above ++ rest → AllIn (names m f) rest
  all_in all above [] at e = tt
  all_in all above (t ∷ lower) at e = (
    any_place (length lower) t (SlotPairs m f) (pairs_are_slots m f (length lower) t (all, above, lower, at, e, refl)),
    all_in all (above ++ t ∷ []) lower at (e ∙ sym (append_assoc above (t ∷ []) lower)),
  )

  abbrev test : ℕ → ValType → Bool
  test d t = list_any (same_pair d t) (all_results m f)

  abbrev deep : ℕ
  deep = depth_of (pruned f.body)

  result_place : (h : ℕ) (t : ValType) → h < 1 + deep → test h t ≡ true → place h t (ResultPairs m f) < length (ResultPairs m f)
  result_place h t lt e = any_place h t (ResultPairs m f) (pass_pairs test 0 (suc deep) h t (omega arith) (omega arith) e)

  pub good_body : Types (around m f) ((around m f).result ∷ []) f.body (listed (around m f).result) []
      → Good (names m f) (around m f) ((around m f).result ∷ []) f.body (listed (around m f).result) [] []
  good_body t =
      good_pruned (names m f) (around m f) ((around m f).result ∷ []) f.body (listed (around m f).result) [] []
      (good_code (names m f) (around m f) ((around m f).result ∷ []) (pruned f.body) (listed (around m f).result) [] [] (1 + deep)
      (pruned_types (around m f) ((around m f).result ∷ []) f.body (listed (around m f).result) [] t)
      (λ all at. all_in all [] all at refl) (omega arith) (λ h u e lt. result_place h u lt (in_back_of h u (pair_of 0 (around m f).result) (results_in 1 (pruned f.body)) e)))

  pub own_result : HasResult (names m f) 0 (around m f).result
  own_result = by (around m f).result refl
    where
      by : (r : Option ValType) → (around m f).result ≡ r → HasResult (names m f) 0 r
      by None e = tt
      by (Some t) e = result_place 0 t (omega arith) (in_front_of 0 t (pair_of 0 (around m f).result) (results_in 1 (pruned f.body)) (ap (λ q. list_any (same_pair 0 t) (pair_of 0 q)) e ∙ itself 0 t))

  -- the body of a function that is defined
  pub good_func : Valid m → (x : ℕ) → defined_at m x ≡ Some f → Good (names m f) (around m f) ((around m f).result ∷ []) f.body (listed (around m f).result) [] []
  good_func v x e = good_body (body_typed m v x f e)

-- what validity gives of functions and their types
pub record Facts (m : Module) : Type 0 where
  pub good : (x : ℕ) (f : Func) → defined_at m x ≡ Some f → Good (names m f) (around m f) ((around m f).result ∷ []) f.body (listed (around m f).result) [] []
      × HasResult (names m f) 0 (around m f).result
  pub small : (x : ℕ) → length (func_type_at m x).results ≤ 1
  pub small_sort : (t : ℕ) → length (type_at m t).results ≤ 1
  pub own_type : (x : ℕ) (f : Func) → defined_at m x ≡ Some f → func_type_at m x ≡ type_at m f.sort

pub facts : (m : Module) → Valid m → Facts m
facts m v = record { good = λ x f e. (good_func m f v x e, own_result m f); small = func_type_small m v; small_sort = type_small m v; own_type = defined_type m }
