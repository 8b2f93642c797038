-- How much flat code weighs, and the stacks of its calls.
use Rattle.std.proofs.Common.{◌≡◌, ◌∙◌, ℕ, suc, ◌+◌, ◌-◌, ◌*◌, ◌≤◌, List, [], ◌∷◌, ◌++◌, length, map, take, drop, reverse, Option, Some, None, false, refl, sym, ap, subst, arith, length-drop}
use Rattle.std.specs.Prelude.{slice_get}
use Rattle.std.proofs.lemmas.List.{length-map, length-reverse, map-append, append_assoc}
use Rattle.wa_types.specs.declared.values.ValType.{ValType}
use Rattle.wa_types.specs.Syntax.{Plain, basic, local_get, local_set, local_tee, br, br_if, br_table, return, unreachable, call, call_indirect, Code, done, plain, nest, branch, Func, Module}
use Rattle.wa_types.specs.Pruned.{is_last, pruned}
use Rattle.wa_types.specs.Typing.{Around, listed, sig, label, Types, Typed}
use Rattle.wa_types.specs.Points.{after, call_points, unless_last, if_call, func_call_points}
use Rattle.wa_types.specs.Pausing.{callee}
use Rattle.wa_types.specs.Bounds.{plain_weight, code_weight}
use Rattle.wa_types.specs.Modules.{func_type_at, type_at, around}
use Rattle.wa_types.proofs.TypingLemmas.{pruned_types}
use Rattle.wa_model.specs.declared.flat.Operand.{Operand}
use Rattle.wa_model.specs.declared.flat.Operand.TheVariants.{Local, Const}
use Rattle.wa_model.specs.Store.{takes, gives}
use Rattle.run_theory.specs.Flat.{Stmts, no_more, computes, copies, calls, leaps, leaps_if, leaps_by, decides, followed_by, got, all_got, set_to, slots_got, last_of, code_of, result_got, body_of}
use Rattle.flat_laws.specs.Flatten.{Names, names, slot, slots, result_local, top, top_of, carry_to, carry, carry_all, arrive, flat, flat_plain, result_of, flattened}
use Rattle.flat_laws.specs.FlatModule.{stacks_in}
use Rattle.wa_types.proofs.PointLemmas.{takes_after, passes}
use Rattle.flat_laws.proofs.OperandTypes.{takes_few, after_all, take_few}
use Rattle.flat_laws.proofs.ValidModules.{flat_pruned}

module _ (m : Module) where
  abbrev wt : Code → ℕ
  wt = code_weight m

  weight_got : (a : Operand) (code : Code) → wt (got a code) ≡ 1 + wt code
  unfolding code_weight
  weight_got (Local x) code = refl
  weight_got (Const v) code = refl

  weight_all : (as1 : List Operand) (code : Code) → wt (all_got as1 code) ≡ length as1 + wt code
  weight_all [] code = let z : 0 + wt code ≡ wt code = omega arith in sym z
  weight_all (a ∷ as1) code = let ih = weight_all as1 code in let g = weight_got a (all_got as1 code) in omega arith

  weight_slots : (xs : List ℕ) (code : Code) → wt (slots_got xs code) ≡ length xs + wt code
  unfolding code_weight
  weight_slots [] code = let z : 0 + wt code ≡ wt code = omega arith in sym z
  weight_slots (x ∷ xs) code = let ih = weight_slots xs code in omega arith

  weight_set : (to : Option ℕ) (code : Code) → wt (set_to to code) ≤ 1 + wt code
  unfolding code_weight
  weight_set None code = omega arith
  weight_set (Some x) code = omega arith

  weight_result : (to : Option ℕ) → wt (result_got to) ≤ 1
  unfolding code_weight
  weight_result None = omega arith
  weight_result (Some x) = omega arith

  few_last : (k : ℕ) (xs : List ℕ) → length (last_of k xs) ≤ k
  few_last k xs = let e = length-drop (length xs - k) xs in omega arith

  weight_copy : (to : ℕ) (from : Operand) (rest : Stmts) → wt (code_of (copies to from rest)) ≡ 2 + wt (code_of rest)
  unfolding code_of code_weight
  weight_copy to (Local x) rest = omega arith
  weight_copy to (Const v) rest = omega arith

  weight_carry_to : (n : Names) (d : ℕ) (o : Option (Option ValType)) (ops : List ValType) (rest : Stmts) → wt (code_of (carry_to n d o ops rest)) ≤ 2 + wt (code_of rest)
  weight_carry_to n d None ops rest = omega arith
  weight_carry_to n d (Some None) ops rest = omega arith
  weight_carry_to n d (Some (Some t)) ops rest = let e = weight_copy (result_local n d t) (Local (top n ops)) rest in omega arith

  weight_carry : (n : Names) (ls : List (Option ValType)) (ops : List ValType) (j : ℕ) (rest : Stmts) → wt (code_of (carry n ls ops j rest)) ≤ 2 + wt (code_of rest)
  weight_carry n ls ops j rest = weight_carry_to n (length ls - suc j) (slice_get ls j) ops rest

  weight_carries : (n : Names) (ls : List (Option ValType)) (ops : List ValType) (js : List ℕ) (rest : Stmts) → wt (code_of (carry_all n ls ops js rest)) ≤ 2 * length js + wt (code_of rest)
  weight_carries n ls ops [] rest = omega arith
  weight_carries n ls ops (j ∷ js) rest = let a = weight_carry n ls ops j (carry_all n ls ops js rest) in let b = weight_carries n ls ops js rest in omega arith

  weight_arrive : (n : Names) (d : ℕ) (r : Option ValType) (ops : List ValType) (rest : Stmts) → wt (code_of (arrive n d r ops rest)) ≤ 2 + wt (code_of rest)
  weight_arrive n d None ops rest = omega arith
  weight_arrive n d (Some t) ops rest = let e = weight_copy (slot n (length ops) t) (Local (result_local n d t)) rest in omega arith

  module _ (n : Names) (f : Func) where
    abbrev c : Around
    c = around m f

    weight_computes : (b : _) (args : List Operand) (to : Option ℕ) (rest : Stmts) → wt (code_of (computes (plain (basic b) done) args to rest)) ≤ length args + 2 + wt (code_of rest)
    unfolding code_of followed_by code_weight
    weight_computes b args to rest = let a = weight_all args (plain (basic b) (set_to to (code_of rest))) in let s = weight_set to (code_of rest) in omega arith

    weight_calls : (i : Plain) (xs : List ℕ) (k : ℕ) (to : Option ℕ) (rest : Stmts) → wt (code_of (calls (plain i done) xs k to rest)) ≤ k + 1 + plain_weight m i + wt (code_of rest)
    unfolding code_of followed_by code_weight
    weight_calls i xs k to rest = let a = weight_slots (last_of k xs) (plain i (set_to to (code_of rest))) in let s = weight_set to (code_of rest) in let l = few_last k xs in omega arith

    weight_plain : (ls : List (Option ValType)) (ops behind : List ValType) (i : Plain) (rest : Stmts) (w : ℕ) → wt (code_of rest) ≤ 8 * w + 2
        → wt (code_of (flat_plain n c ls ops behind i rest)) ≤ 8 * (plain_weight m i + w) + 2
    unfolding code_of code_weight
    weight_plain ls ops behind (basic b) rest w le =
        let args : List Operand = map Local (reverse (take (takes b) (slots n ops))) in
        let a = weight_computes b args (top_of n (gives b) behind) rest in
        let l : length args ≡ length (take (takes b) (slots n ops)) = length-map (reverse (take (takes b) (slots n ops))) Local ∙ length-reverse (take (takes b) (slots n ops)) in
        let k = take_few (takes b) (slots n ops) in let t = takes_few b in omega arith
    weight_plain ls ops behind (local_get x) rest w le = omega arith
    weight_plain ls ops behind (local_set x) rest w le = omega arith
    weight_plain ls ops behind (local_tee x) rest w le = omega arith
    weight_plain ls ops behind (br l) rest w le = let a = weight_carry n ls ops l (leaps l no_more) in omega arith
    weight_plain ls ops behind (br_if l) rest w le = let a = weight_carry n ls (drop 1 ops) l (leaps_if (Local (top n ops)) l rest) in omega arith
    weight_plain ls ops behind (br_table ts l) rest w le =
        let a = weight_carries n ls (drop 1 ops) ts (carry n ls (drop 1 ops) l (leaps_by (Local (top n ops)) ts l no_more)) in let b =
        weight_carry n ls (drop 1 ops) l (leaps_by (Local (top n ops)) ts l no_more) in omega arith
    weight_plain ls ops behind return rest w le = let a = weight_carry n ls ops (length ls - 1) (leaps (length ls - 1) no_more) in omega arith
    weight_plain ls ops behind unreachable rest w le = omega arith
    weight_plain ls ops behind (call x) rest w le = let a = weight_calls (call x) (reverse (slots n ops)) (length (func_type_at m x).params)
        (top_of n (length (func_type_at m x).results) behind) rest in omega arith
    weight_plain ls ops behind (call_indirect t) rest w le = let a = weight_calls (call_indirect t) (reverse (slots n ops)) (suc (length (type_at m t).params))
        (top_of n (length (type_at m t).results) behind) rest in omega arith

    pub weight_flat : (ls : List (Option ValType)) (code : Code) (ops : List ValType) → wt (code_of (flat n c ls code ops)) ≤ 8 * wt code + 2
    unfolding flat code_of code_weight
    weight_flat ls done ops = weight_carry n ls ops 0 no_more
    weight_flat ls (plain i rest) ops = weight_plain ls ops (after (sig c ls i) ops) i (flat n c ls rest (after (sig c ls i) ops)) (wt rest) (weight_flat ls rest (after (sig c ls i) ops))
    weight_flat ls (nest s r body rest) ops =
        let a = weight_flat (label s r ∷ ls) body ops in let b = weight_flat ls rest (listed r ++ ops) in let d =
        weight_arrive n (length ls) (label s r) ops (flat n c ls rest (listed r ++ ops)) in omega arith
    weight_flat ls (branch r a b rest) ops =
        let wa = weight_flat (r ∷ ls) a (drop 1 ops) in let wb = weight_flat (r ∷ ls) b (drop 1 ops) in let wr = weight_flat ls rest (listed r ++ drop 1 ops) in
        let d = weight_arrive n (length ls) r (drop 1 ops) (flat n c ls rest (listed r ++ drop 1 ops)) in omega arith

pub flat_is_small : (m : Module) (x : ℕ) (f : Func) → code_weight m (body_of (flattened m x f)) ≤ 8 * code_weight m (pruned f.body) + 4
unfolding code_weight
flat_is_small m x f =
    let c : Around = around m f in
    let a = weight_flat m (names m f) f (c.result ∷ []) (pruned f.body) [] in
    let e = ap (λ k. code_weight m (code_of k)) (flat_pruned (names m f) c (c.result ∷ []) f.body []) in
    let r = weight_result m (result_of (names m f) c.result) in omega arith

-- ---- the stacks of calls

stacks_carry : (n : Names) (d : ℕ) (o : Option (Option ValType)) (ops : List ValType) (rest : Stmts) → stacks_in (carry_to n d o ops rest) ≡ stacks_in rest
unfolding stacks_in
stacks_carry n d None ops rest = refl
stacks_carry n d (Some None) ops rest = refl
stacks_carry n d (Some (Some t)) ops rest = refl

stacks_carries : (n : Names) (ls : List (Option ValType)) (ops : List ValType) (js : List ℕ) (rest : Stmts) → stacks_in (carry_all n ls ops js rest) ≡ stacks_in rest
stacks_carries n ls ops [] rest = refl
stacks_carries n ls ops (j ∷ js) rest = stacks_carry n (length ls - suc j) (slice_get ls j) ops (carry_all n ls ops js rest) ∙ stacks_carries n ls ops js rest

stacks_arrive : (n : Names) (d : ℕ) (r : Option ValType) (ops : List ValType) (rest : Stmts) → stacks_in (arrive n d r ops rest) ≡ stacks_in rest
unfolding stacks_in
stacks_arrive n d None ops rest = refl
stacks_arrive n d (Some t) ops rest = refl

module _ (n : Names) (c : Around) where
  abbrev rows : List (List ValType) → List (List ℕ)
  rows = map (λ (ops : List ValType). reverse (slots n ops))

  stacks_plain : (ls : List (Option ValType)) (all behind : List ValType) (i : Plain) (rest : Stmts) (more : List (List ValType)) → (is_last i ≡ false → stacks_in rest ≡ rows more)
      → stacks_in (flat_plain n c ls all behind i rest) ≡ rows (if_call (callee i) all ++ unless_last (is_last i) more)
  unfolding stacks_in
  stacks_plain ls all behind (basic b) rest more ih = ih refl
  stacks_plain ls all behind (local_get x) rest more ih = ih refl
  stacks_plain ls all behind (local_set x) rest more ih = ih refl
  stacks_plain ls all behind (local_tee x) rest more ih = ih refl
  stacks_plain ls all behind (br l) rest more ih = stacks_carry n (length ls - suc l) (slice_get ls l) all (leaps l no_more)
  stacks_plain ls all behind (br_if l) rest more ih = stacks_carry n (length ls - suc l) (slice_get ls l) (drop 1 all) (leaps_if (Local (top n all)) l rest) ∙ ih refl
  stacks_plain ls all behind (br_table ts l) rest more ih =
      stacks_carries n ls (drop 1 all) ts (carry n ls (drop 1 all) l (leaps_by (Local (top n all)) ts l no_more))
      ∙ stacks_carry n (length ls - suc l) (slice_get ls l) (drop 1 all) (leaps_by (Local (top n all)) ts l no_more)
  stacks_plain ls all behind return rest more ih = stacks_carry n (length ls - suc (length ls - 1)) (slice_get ls (length ls - 1)) all (leaps (length ls - 1) no_more)
  stacks_plain ls all behind unreachable rest more ih = refl
  stacks_plain ls all behind (call x) rest more ih = ap (λ z. reverse (slots n all) ∷ z) (ih refl)
  stacks_plain ls all behind (call_indirect t) rest more ih = ap (λ z. reverse (slots n all) ∷ z) (ih refl)

  pub stacks_flat : (ls : List (Option ValType)) (code : Code) (outs own low : List ValType) → Types c ls code outs own
      → stacks_in (flat n c ls code (own ++ low)) ≡ rows (call_points c ls code low own)
  unfolding flat stacks_in Types call_points
  stacks_flat ls done outs own low t = stacks_carry n (length ls - 1) (slice_get ls 0) (own ++ low) no_more
  stacks_flat ls (plain i rest) outs own low t =
      stacks_plain ls (own ++ low) (after (sig c ls i) (own ++ low)) i (flat n c ls rest (after (sig c ls i) (own ++ low))) (call_points c ls rest low (after (sig c ls i) own))
      (λ e. ap (λ ts. stacks_in (flat n c ls rest ts)) (after_all c ls i own t.0 low (own ++ low) e t.1 refl) ∙ stacks_flat ls rest outs t.0 low t.2
      ∙ ap (λ ts. rows (call_points c ls rest low ts)) (takes_after (sig c ls i) own t.0 (passes c ls i e) t.1))
  stacks_flat ls (nest s r body rest) outs own low t =
      ap (λ z. z ++ stacks_in (arrive n (length ls) (label s r) (own ++ low) (flat n c ls rest (listed r ++ (own ++ low))))) (stacks_flat (label s r ∷ ls) body (listed r) [] (own ++ low) t.0)
      ∙ ap (λ z. rows (call_points c (label s r ∷ ls) body (own ++ low) []) ++ z) (stacks_arrive n (length ls) (label s r) (own ++ low) (flat n c ls rest (listed r ++ (own ++ low)))
      ∙ ap (λ ts. stacks_in (flat n c ls rest ts)) (sym (append_assoc (listed r) own low)) ∙ stacks_flat ls rest outs (listed r ++ own) low t.1)
      ∙ sym (map-append (λ (ops : List ValType). reverse (slots n ops)) (call_points c (label s r ∷ ls) body (own ++ low) []) (call_points c ls rest low (listed r ++ own)))
  stacks_flat ls (branch r a b rest) outs own low t =
      let d1 : drop 1 own ≡ t.0 = ap (drop 1) t.1 in
      let d2 : drop 1 (own ++ low) ≡ t.0 ++ low = ap (λ z. drop 1 (z ++ low)) t.1 in
      let pa : List (List ValType) = call_points c (r ∷ ls) a (t.0 ++ low) [] in
      let pb : List (List ValType) = call_points c (r ∷ ls) b (t.0 ++ low) [] in
      let pr : List (List ValType) = call_points c ls rest low (listed r ++ t.0) in
      let ea = stacks_flat (r ∷ ls) a (listed r) [] (t.0 ++ low) t.2 in
      let eb = stacks_flat (r ∷ ls) b (listed r) [] (t.0 ++ low) t.3 in
      let er = stacks_arrive n (length ls) r (t.0 ++ low) (flat n c ls rest (listed r ++ (t.0 ++ low))) ∙ ap (λ ts. stacks_in (flat n c ls rest ts)) (sym (append_assoc (listed r) t.0 low))
      ∙ stacks_flat ls rest outs (listed r ++ t.0) low t.4 in
      let both : rows (pa ++ (pb ++ pr)) ≡ rows pa ++ (rows pb ++ rows pr) = map-append (λ (ops : List ValType). reverse (slots n ops)) pa (pb ++ pr)
      ∙ ap (λ z. rows pa ++ z) (map-append (λ (ops : List ValType). reverse (slots n ops)) pb pr) in
      subst (λ ds. stacks_in (decides (Local (top n (own ++ low))) (flat n c (r ∷ ls) a ds) (flat n c (r ∷ ls) b ds) (arrive n (length ls) r ds (flat n c ls rest (listed r ++ ds))))
      ≡ rows (call_points c (r ∷ ls) a (drop 1 own ++ low) [] ++ (call_points c (r ∷ ls) b (drop 1 own ++ low) [] ++ call_points c ls rest low (listed r ++ drop 1 own)))) (sym d2)
      (subst (λ ds. stacks_in (flat n c (r ∷ ls) a (t.0 ++ low)) ++ (stacks_in (flat n c (r ∷ ls) b (t.0 ++ low))
      ++ stacks_in (arrive n (length ls) r (t.0 ++ low) (flat n c ls rest (listed r ++ (t.0 ++ low)))))
      ≡ rows (call_points c (r ∷ ls) a (ds ++ low) [] ++ (call_points c (r ∷ ls) b (ds ++ low) [] ++ call_points c ls rest low (listed r ++ ds)))) (sym d1)
      (ap (λ z. z ++ (stacks_in (flat n c (r ∷ ls) b (t.0 ++ low)) ++ stacks_in (arrive n (length ls) r (t.0 ++ low) (flat n c ls rest (listed r ++ (t.0 ++ low)))))) ea
      ∙ ap (λ z. rows pa ++ (z ++ stacks_in (arrive n (length ls) r (t.0 ++ low) (flat n c ls rest (listed r ++ (t.0 ++ low)))))) eb
      ∙ ap (λ z. rows pa ++ (rows pb ++ z)) er ∙ sym both))

pub stacks_are_slots : (m : Module) (x : ℕ) (f : Func) → Typed (around m f) f.body → stacks_in (flattened m x f).body
    ≡ map (λ (ops : List ValType). reverse (slots (names m f) ops)) (func_call_points m f)
stacks_are_slots m x f t =
    let c : Around = around m f in
    ap stacks_in (sym (flat_pruned (names m f) c (c.result ∷ []) f.body []))
    ∙ stacks_flat (names m f) c (c.result ∷ []) (pruned f.body) (listed c.result) [] [] (pruned_types c (c.result ∷ []) f.body (listed c.result) [] t)
