-- Slots and result locals are few: each is made by an instruction of its own, but for the function's result.
use Rattle.std.proofs.Common.{arith, ◌≡◌, ℕ, zero, suc, ◌+◌, ◌<◌, ◌≤◌, inl, inr, ◌++◌, ◌^◌, length, drop, List, [], ◌∷◌, Some, None, Option, Bool, true, false, refl, ap, sym, ◌∙◌, subst, append_assoc}
use Rattle.std.specs.Prelude.{slice_get, nat_le, replicate, if◌then◌else◌}
use Rattle.std.specs.Option.{option_map}
use Rattle.std.proofs.lemmas.Option.{slice_get-map}
use Rattle.std.specs.List.{list_any, list_all, sum_by}
use Rattle.std.proofs.lemmas.Bool.{leb-true, and_parts}
use Rattle.std.proofs.lemmas.List.{length-append, length-replicate}
use Rattle.std.proofs.lemmas.List.Sums.{sum_by-cons}
use Rattle.wa_types.specs.declared.values.ValType.{ValType}
use Rattle.wa_types.specs.declared.syntax.Run.{Run}
use Rattle.wa_types.specs.Syntax.{a_block, a_loop, Code, done, plain, nest, branch, FuncType, Func, Module}
use Rattle.wa_types.specs.Pruned.{is_last, pruned}
use Rattle.wa_types.specs.Counts.{count_of, depth_of}
use Rattle.wa_types.specs.Sizes.{label_count, code_items, code_params, params_of_type, FuncSizes}
use Rattle.wa_types.specs.Validity.{Valid}
use Rattle.wa_types.specs.Typing.{Around, listed, sig, label, Types}
use Rattle.wa_types.specs.Modules.{or_empty, func_sorts, type_at, func_types, declared_locals, locals_of, around}
use Rattle.wa_types.specs.Points.{after, unless_last, points, func_points}
use Rattle.wa_types.specs.Frames.{Pair, stands_at, same_pair, pair_of, results_in, all_results, greatest, SlotPairs, ResultPairs}
use Rattle.wa_types.proofs.TypingLemmas.{pruned_types}
use Rattle.wa_types.proofs.PointLemmas.{In, in_either, takes_after, passes}
use Rattle.wa_types.proofs.SlotLemmas.{stands_below, any_in, pairs_pass}
use Rattle.slot_laws.specs.SlotBounds.{SlotsAreFew, CountFits}
use Rattle.slot_laws.proofs.Results.{any_left, any_right, is_pair, slots_ascend, results_ascend}
use Rattle.slot_laws.proofs.Order.{all_there}
use Rattle.slot_laws.proofs.Distinct.{few_of}
use Rattle.slot_laws.proofs.Covers.{top_pair, top_length, Stands, stands_left, stands_right, stands_dropped, stands_top_or, stands_after, FewResults, puts_one, ends, pair_unless}
use Rattle.slot_laws.proofs.Covers.{unless_last_pairs, made, end_is_point}

module _ (c : Around) (few : FewResults c) (h : ℕ) (t : ValType) where
  -- the pairs of two stretches of code, one behind the other
  after_that : (ops next : List ValType) (ps qs : List Pair) → (stands_at h t next ≡ true → Stands h t ops ps) → Stands h t next qs → Stands h t ops (ps ++ qs)
  after_that ops next ps qs first (inl s) = stands_left h t ops ps qs (first s)
  after_that ops next ps qs first (inr e) = inr (any_right (same_pair h t) ps qs e)

  -- a result of a construct is made by the construct, or in its body, at the end of which it stands
  result_stands : (b : Bool) (r : Option ValType) (ops : List ValType) (ps : List Pair) → (b ≡ true → (u : ValType) → r ≡ Some u → stands_at h t (u ∷ ops) ≡ true → Stands h t ops ps)
      → stands_at h t (listed r ++ ops) ≡ true → Stands h t ops (pair_unless b (length ops) r ++ ps)
  result_stands b None ops ps ended s = inl s
  result_stands true (Some u) ops ps ended s = ended refl u refl s
  result_stands false (Some u) ops ps ended s = elim (stands_top_or h t u ops s) [
    | inl g ↦ inl g
    | inr (e, f) ↦ inr (any_left (same_pair h t) (pair_of (length ops) (Some u)) ps (is_pair (length ops) h t (Some u) e (ap Some f)))
  ]

  stands_made : (ls : List (Option ValType)) (k : Code) (outs under ops all : List ValType) → Types c ls k outs ops → In all (points c ls k under ops)
      → stands_at h t all ≡ true → Stands h t (ops ++ under) (made c ls k under ops)
  unfolding points Types made
  stands_made ls done outs under ops all ty (inl e) s = inl (ap (stands_at h t) (sym e) ∙ s)
  stands_made ls done outs under ops all ty (inr i) s = absurd i
  stands_made ls (plain p rest) outs under ops all ty (inl e) s = inl (ap (stands_at h t) (sym e) ∙ s)
  stands_made ls (plain p rest) outs under ops all ty (inr i) s =
      by_last (is_last p) refl i (λ mids more there. stands_made ls rest outs under mids all more there s)
    where
      next : List ValType
      next = after (sig c ls p) ops

      by_last : (b : Bool) → is_last p ≡ b → In all (unless_last b (points c ls rest under (after (sig c ls p) ops)))
          → ((mids : List ValType) → Types c ls rest outs mids → In all (points c ls rest under mids) → Stands h t (mids ++ under) (made c ls rest under mids))
          → Stands h t (ops ++ under) (unless_last_pairs b (top_pair (after (sig c ls p) ops) under ++ made c ls rest under (after (sig c ls p) ops)))
      by_last true f j go = absurd j
      by_last false f j go =
          let e : ty.0 ≡ after (sig c ls p) ops = takes_after (sig c ls p) ops ty.0 (passes c ls p f) ty.1 in
          let later = go (after (sig c ls p) ops) (subst (Types c ls rest outs) e ty.2) j in
          after_that (ops ++ under) (after (sig c ls p) ops ++ under) (top_pair (after (sig c ls p) ops) under) (made c ls rest under (after (sig c ls p) ops))
          (λ g. stands_after h t (sig c ls p) ops under (puts_one c few ls p) g) later
  stands_made ls (nest s r body rest) outs under ops all ty (inl e) w = inl (ap (stands_at h t) (sym e) ∙ w)
  stands_made ls (nest s r body rest) outs under ops all ty (inr i) w =
      let inside : List ValType = ops ++ under in
      let first : List Pair = made c (label s r ∷ ls) body inside [] in
      let second : List Pair = made c ls rest under (listed r ++ ops) in
      let lone : List Pair = pair_unless (ends body) (length inside) r in
      elim (in_either all (points c (label s r ∷ ls) body inside []) (points c ls rest under (listed r ++ ops)) i) [
        | inl j ↦ stands_right h t inside lone (first ++ second) (stands_left h t inside first second (stands_made (label s r ∷ ls) body (listed r) inside [] all ty.0 j w))
        | inr j ↦ (
            let ended = λ (b : ends body ≡ true) (u : ValType) (e : r ≡ Some u) (g : stands_at h t (u ∷ inside) ≡ true).
            stands_made (label s r ∷ ls) body (listed r) inside [] (listed r ++ inside) ty.0 (end_is_point c (label s r ∷ ls) body (listed r) inside [] ty.0 b)
            (ap (λ o. stands_at h t (listed o ++ inside)) e ∙ g) in
            let later = stands_made ls rest outs under (listed r ++ ops) all ty.1 j w in
            subst (Stands h t inside) (append_assoc lone first second)
            (after_that inside ((listed r ++ ops) ++ under) (lone ++ first) second
            (λ g. result_stands (ends body) r inside first ended (subst (λ xs. stands_at h t xs ≡ true) (append_assoc (listed r) ops under) g)) later))
      ]
  stands_made ls (branch r a b rest) outs under ops all ty (inl e) w = inl (ap (stands_at h t) (sym e) ∙ w)
  stands_made ls (branch r a b rest) outs under ops all ty (inr i) w =
      let e : ty.0 ≡ drop 1 ops = sym (ap (drop 1) ty.1) in
      let behind_is = subst (λ xs. Types c ls rest outs (listed r ++ xs)) e ty.4 in
      let inside : List ValType = drop 1 ops ++ under in
      let first : List Pair = made c (r ∷ ls) a inside [] in
      let second : List Pair = made c (r ∷ ls) b inside [] in
      let third : List Pair = made c ls rest under (listed r ++ drop 1 ops) in
      let lone : List Pair = pair_unless (ends a) (length inside) r in
      lower ops under (lone ++ (first ++ (second ++ third)))
      (elim (in_either all (points c (r ∷ ls) a inside []) (points c (r ∷ ls) b inside [] ++ points c ls rest under (listed r ++ drop 1 ops)) i) [
        | inl j ↦ stands_right h t inside lone (first ++ (second ++ third)) (stands_left h t inside first (second ++ third) (stands_made (r ∷ ls) a (listed r) inside [] all ty.2 j w))
        | inr v ↦ elim (in_either all (points c (r ∷ ls) b inside []) (points c ls rest under (listed r ++ drop 1 ops)) v) [
          | inl j ↦ stands_right h t inside lone (first ++ (second ++ third))
              (stands_right h t inside first (second ++ third) (stands_left h t inside second third (stands_made (r ∷ ls) b (listed r) inside [] all ty.3 j w)))
          | inr j ↦ (
              let ended = λ (y : ends a ≡ true) (u : ValType) (x : r ≡ Some u) (g : stands_at h t (u ∷ inside) ≡ true).
              stands_made (r ∷ ls) a (listed r) inside [] (listed r ++ inside) ty.2 (end_is_point c (r ∷ ls) a (listed r) inside [] ty.2 y) (ap (λ o. stands_at h t (listed o ++ inside)) x ∙ g) in
              let later = stands_made ls rest outs under (listed r ++ drop 1 ops) all behind_is j w in
              let own =
              λ (g : stands_at h t ((listed r ++ drop 1 ops) ++ under) ≡ true).
              result_stands (ends a) r inside first ended (subst (λ xs. stands_at h t xs ≡ true) (append_assoc (listed r) (drop 1 ops) under) g) in
              let joined = after_that inside ((listed r ++ drop 1 ops) ++ under) (lone ++ first) (second ++ third) own (stands_right h t ((listed r ++ drop 1 ops) ++ under) second third later) in
              subst (Stands h t inside) (append_assoc lone first (second ++ third)) joined)
        ]
      ])
    where
      lower : (ops under : List ValType) (ps : List Pair) → Stands h t (drop 1 ops ++ under) ps → Stands h t (ops ++ under) ps
      lower ops under ps (inl s) = inl (stands_dropped h t 1 ops under s)
      lower ops under ps (inr e) = inr e

-- ---- sizes

abbrev missed : Bool → ℕ
missed true = 0
missed false = 1

pair_length : (n : ℕ) (r : Option ValType) → length (pair_of n r) ≤ 1
pair_length n None = omega arith
pair_length n (Some t) = omega arith

lone_length : (b : Bool) (n : ℕ) (r : Option ValType) → length (pair_unless b n r) ≤ missed b
lone_length true n r = omega arith
lone_length false n r = pair_length n r

results_few : (d : ℕ) (k : Code) → length (results_in d k) ≤ count_of k
unfolding results_in count_of
results_few d done = omega arith
results_few d (plain p rest) = let a = results_few d rest in omega (arith, a)
results_few d (nest a_block r body rest) =
    let a = results_few (suc d) body in
    let b = results_few d rest in
    let p = pair_length d r in
    omega (arith, a, b, p, length-append (pair_of d r ++ results_in (suc d) body) (results_in d rest), length-append (pair_of d r) (results_in (suc d) body))
results_few d (nest a_loop r body rest) =
    let a = results_few (suc d) body in
    let b = results_few d rest in
    omega (arith, a, b, length-append (results_in (suc d) body) (results_in d rest))
results_few d (branch r a b rest) =
    let x = results_few (suc d) a in
    let y = results_few (suc d) b in
    let z = results_few d rest in
    let p = pair_length d r in
    omega (
      arith,
      x,
      y,
      z,
      p,
      length-append (pair_of d r ++ results_in (suc d) a ++ results_in (suc d) b) (results_in d rest),
      length-append (pair_of d r ++ results_in (suc d) a) (results_in (suc d) b),
      length-append (pair_of d r) (results_in (suc d) a),
    )

module _ (c : Around) where
  -- what code makes, its results, and one more where its end isn't reached, are no more than its instructions
  made_few : (d : ℕ) (ls : List (Option ValType)) (k : Code) (under ops : List ValType) → length (made c ls k under ops) + length (results_in d k) + missed (ends k) ≤ count_of k
  unfolding made results_in count_of
  made_few d ls done under ops = omega arith
  made_few d ls (plain p rest) under ops = by_last (is_last p) (made_few d ls rest under (after (sig c ls p) ops))
    where
      by_last : (b : Bool) → length (made c ls rest under (after (sig c ls p) ops)) + length (results_in d rest) + missed (ends rest) ≤ count_of rest
          → length (unless_last_pairs b (top_pair (after (sig c ls p) ops) under ++ made c ls rest under (after (sig c ls p) ops))) + length (results_in d rest) + missed
          (if b then false else ends rest) ≤ 1 + count_of rest
      by_last true h = let a = results_few d rest in omega (arith, a)
      by_last false h =
          let a = top_length (after (sig c ls p) ops) under in
          omega (arith, h, a, length-append (top_pair (after (sig c ls p) ops) under) (made c ls rest under (after (sig c ls p) ops)))
  made_few d ls (nest a_block r body rest) under ops =
      let x = made_few (suc d) (r ∷ ls) body (ops ++ under) [] in
      let y = made_few d ls rest under (listed r ++ ops) in
      let l = lone_length (ends body) (length (ops ++ under)) r in
      let p = pair_length d r in
      let first : List Pair = made c (r ∷ ls) body (ops ++ under) [] in
      let second : List Pair = made c ls rest under (listed r ++ ops) in
      let lone : List Pair = pair_unless (ends body) (length (ops ++ under)) r in
      omega (
        arith,
        x,
        y,
        l,
        p,
        length-append lone (first ++ second),
        length-append first second,
        length-append (pair_of d r ++ results_in (suc d) body) (results_in d rest),
        length-append (pair_of d r) (results_in (suc d) body),
      )
  made_few d ls (nest a_loop r body rest) under ops =
      let x = made_few (suc d) (None ∷ ls) body (ops ++ under) [] in
      let y = made_few d ls rest under (listed r ++ ops) in
      let l = lone_length (ends body) (length (ops ++ under)) r in
      let first : List Pair = made c (None ∷ ls) body (ops ++ under) [] in
      let second : List Pair = made c ls rest under (listed r ++ ops) in
      let lone : List Pair = pair_unless (ends body) (length (ops ++ under)) r in
      omega (arith, x, y, l, length-append lone (first ++ second), length-append first second, length-append (results_in (suc d) body) (results_in d rest))
  made_few d ls (branch r a b rest) under ops =
      let inside : List ValType = drop 1 ops ++ under in
      let x = made_few (suc d) (r ∷ ls) a inside [] in
      let y = made_few (suc d) (r ∷ ls) b inside [] in
      let z = made_few d ls rest under (listed r ++ drop 1 ops) in
      let l = lone_length (ends a) (length inside) r in
      let p = pair_length d r in
      let first : List Pair = made c (r ∷ ls) a inside [] in
      let second : List Pair = made c (r ∷ ls) b inside [] in
      let third : List Pair = made c ls rest under (listed r ++ drop 1 ops) in
      let lone : List Pair = pair_unless (ends a) (length inside) r in
      omega (
        arith,
        x,
        y,
        z,
        l,
        p,
        length-append lone (first ++ (second ++ third)),
        length-append first (second ++ third),
        length-append second third,
        length-append (pair_of d r ++ results_in (suc d) a ++ results_in (suc d) b) (results_in d rest),
        length-append (pair_of d r ++ results_in (suc d) a) (results_in (suc d) b),
        length-append (pair_of d r) (results_in (suc d) a),
      )

-- ---- functions of a valid module

all_test : {X : Type 0} (test : X → Bool) (xs : List X) (i : ℕ) (x : X) → list_all test xs ≡ true → slice_get xs i ≡ Some x → test x ≡ true
all_test test [] i x h e = cc
all_test test (y ∷ xs) zero x h e = let f : y ≡ x = cc in ap test (sym f) ∙ (and_parts (test y) (list_all test xs) h).0
all_test test (y ∷ xs) (suc i) x h e = all_test test xs i x (and_parts (test y) (list_all test xs) h).1 e

none_stand : (h : ℕ) (t : ValType) → stands_at h t [] ≡ true → ⊥
none_stand h t e = let lt = stands_below h t [] e in omega (arith, lt)

module _ (m : Module) (i : ℕ) (f : Func) (v : Valid m) (is : slice_get m.funcs i ≡ Some f) where
  abbrev c : Around
  c = around m f

  abbrev body : Code
  body = pruned f.body

  types_few : (x : ℕ) (t : FuncType) → slice_get m.types x ≡ Some t → length t.results ≤ 1
  types_few x t e = leb-true (length t.results) 1 (all_test (λ (u : FuncType). nat_le (length u.results) 1) m.types x t v.types e)

  funcs_few : (x : ℕ) (t : FuncType) → slice_get (func_types m) x ≡ Some t → length t.results ≤ 1
  funcs_few x t e = by_sort (slice_get (func_sorts m) x) (sym (slice_get-map (type_at m) (func_sorts m) x) ∙ e)
    where
      by_type : (o : Option FuncType) (sort : ℕ) → slice_get m.types sort ≡ o → length (or_empty o).results ≤ 1
      by_type None sort g = omega arith
      by_type (Some u) sort g = types_few sort u g

      by_sort : (o : Option ℕ) → option_map (type_at m) o ≡ Some t → length t.results ≤ 1
      by_sort None g = cc
      by_sort (Some sort) g = let z : type_at m sort ≡ t = cc in subst (λ (u : FuncType). length u.results ≤ 1) z (by_type (slice_get m.types sort) sort refl)

  few_results : FewResults c
  few_results = record { funcs = λ x t e. funcs_few x t e; types = λ x t e. types_few x t e }

  typed : Types c (c.result ∷ []) body (listed c.result) []
  typed = pruned_types c (c.result ∷ []) f.body (listed c.result) [] (v.bodies i f is)

  slot_made : (h : ℕ) (t : ValType) → list_any (same_pair h t) (SlotPairs m f) ≡ true → list_any (same_pair h t) (made c (c.result ∷ []) body [] []) ≡ true
  slot_made h t e =
      let passed = pairs_pass (λ k u. list_any (stands_at k u) (func_points m f)) 0 (greatest (func_points m f)) h t e in
      let w = any_in (stands_at h t) (func_points m f) passed in
      elim (stands_made c few_results h t (c.result ∷ []) body (listed c.result) [] [] w.0 typed w.1 w.2) [
        | inl s ↦ absurd (none_stand h t s)
        | inr g ↦ g
      ]

  slots_few : length (SlotPairs m f) ≤ length (made c (c.result ∷ []) body [] [])
  slots_few = few_of (SlotPairs m f) (made c (c.result ∷ []) body [] []) (slots_ascend m f) slot_made

  results_few_of : length (ResultPairs m f) ≤ length (all_results m f)
  results_few_of = few_of (ResultPairs m f) (all_results m f) (results_ascend m f) (λ d t e. pairs_pass (λ n u. list_any (same_pair n u) (all_results m f)) 0 (suc (depth_of body)) d t e)

  pub together : length (SlotPairs m f) + length (ResultPairs m f) ≤ count_of body + 1
  together =
      let a = slots_few in
      let b = results_few_of in
      let x = made_few c 1 (c.result ∷ []) body [] [] in
      let p = pair_length 0 c.result in
      omega (arith, a, b, x, p, length-append (pair_of 0 c.result) (results_in 1 body))

pub slots_are_few : SlotsAreFew
slots_are_few m i f v is = together m i f v is

-- ---- the count fits

count_pruned : (k : Code) → count_of (pruned k) ≤ code_items k
unfolding count_of pruned code_items
count_pruned done = omega arith
count_pruned (plain p rest) = by_last (is_last p) (count_pruned rest)
  where
    by_last : (b : Bool) → count_of (pruned rest) ≤ code_items rest → 1 + count_of (if b then done else pruned rest) ≤ 1 + label_count p + code_items rest
    by_last true h = omega arith
    by_last false h = omega (arith, h)
count_pruned (nest s r body rest) = let a = count_pruned body in let b = count_pruned rest in omega (arith, a, b)
count_pruned (branch r a b rest) = let x = count_pruned a in let y = count_pruned b in let z = count_pruned rest in omega (arith, x, y, z)

params_are : (ts : List FuncType) (sort : ℕ) → length (or_empty (slice_get ts sort)).params ≡ params_of_type ts sort
params_are [] sort = refl
params_are (t ∷ ts) zero = refl
params_are (t ∷ ts) (suc sort) = params_are ts sort

declared_are : (runs : List Run) → length (declared_locals runs) ≡ sum_by (λ (r : Run). r.count) runs
declared_are [] = refl
declared_are (r ∷ runs) =
    let a = length-append (replicate r.count r.ty) (declared_locals runs) in
    let b = declared_are runs in
    let l = length-replicate r.count r.ty in
    let s = sum_by-cons (λ (q : Run). q.count) r runs in
    omega (arith, a, b, l, s)

pub count_fits : CountFits
count_fits m i f v sizes is =
    let few = together m i f v is in
    let own : FuncSizes (2 ^ 31) (2 ^ 31) m f = all_there (FuncSizes (2 ^ 31) (2 ^ 31) m) m.funcs i f sizes.each_func is in
    let total = own.total in
    let items = count_pruned f.body in
    let params = params_are m.types f.sort in
    let declared = declared_are f.locals in
    let locals = length-append (type_at m f.sort).params (declared_locals f.locals) in
    bound (length (SlotPairs m f)) (length (ResultPairs m f)) (count_of (pruned f.body)) (code_items f.body) (code_params m f.body) (params_of_type m.types f.sort)
    (sum_by (λ (r : Run). r.count) f.locals) (length (locals_of m f)) few items total (locals ∙ sums params declared)
  where
    sums : {a b c d : ℕ} → a ≡ b → c ≡ d → a + c ≡ b + d
    sums e g = cc

    bound : (slots results count items calls params runs locals : ℕ) → slots + results ≤ count + 1 → count ≤ items
        → items + 1 + calls + params + runs < 2 ^ 31 → locals ≡ params + runs → locals + slots + results + 3 < 2 ^ 32
    bound slots results count items calls params runs locals a b c d = omega (arith, a, b, c, d)
