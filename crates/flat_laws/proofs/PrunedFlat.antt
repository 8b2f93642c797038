-- Flat code has nothing that is cut.
use Rattle.std.proofs.Common.{◌≡◌, ◌∙◌, ℕ, suc, ◌-◌, List, [], ◌∷◌, ◌++◌, length, map, take, drop, reverse, Option, Some, None, refl, ap}
use Rattle.std.specs.Prelude.{slice_get}
use Rattle.wa_types.specs.declared.values.ValType.{ValType}
use Rattle.wa_types.specs.Syntax.{Plain, const, basic, local_get, local_set, local_tee, br, br_if, br_table, return, unreachable, call, call_indirect, Code, done, plain, nest, branch, FuncType}
use Rattle.wa_types.specs.Pruned.{pruned}
use Rattle.wa_types.specs.Typing.{Around, listed, sig, label}
use Rattle.wa_types.specs.Points.{after}
use Rattle.wa_types.specs.Modules.{or_empty}
use Rattle.wa_model.specs.declared.flat.Operand.{Operand}
use Rattle.wa_model.specs.declared.flat.Operand.TheVariants.{Local, Const}
use Rattle.wa_model.specs.Store.{takes, gives}
use Rattle.run_theory.specs.Flat.{Stmts, no_more, computes, leaps, leaps_if, leaps_by, followed_by, all_got, set_to, slots_got, last_of, code_of, result_got}
use Rattle.flat_laws.specs.Flatten.{Names, slot, slots, result_local, top, top_of, carry_to, carry, carry_all, arrive, flat, flat_plain}

-- all of the code can be reached
abbrev Whole : Code → Type 0
Whole k = pruned k ≡ k

whole_all : (xs : List Operand) (k : Code) → Whole k → Whole (all_got xs k)
unfolding pruned
whole_all [] k h = h
whole_all (Local x ∷ xs) k h = ap (plain (local_get x)) (whole_all xs k h)
whole_all (Const v ∷ xs) k h = ap (plain (basic (const v))) (whole_all xs k h)

whole_slots : (xs : List ℕ) (k : Code) → Whole k → Whole (slots_got xs k)
unfolding pruned
whole_slots [] k h = h
whole_slots (x ∷ xs) k h = ap (plain (local_get x)) (whole_slots xs k h)

whole_set : (to : Option ℕ) (k : Code) → Whole k → Whole (set_to to k)
unfolding pruned
whole_set None k h = h
whole_set (Some x) k h = ap (plain (local_set x)) h

whole_carry : (n : Names) (d : ℕ) (o : Option (Option ValType)) (ops : List ValType) (rest : Stmts) → Whole (code_of rest) → Whole (code_of (carry_to n d o ops rest))
unfolding pruned code_of
whole_carry n d None ops rest h = h
whole_carry n d (Some None) ops rest h = h
whole_carry n d (Some (Some t)) ops rest h = ap (λ k. plain (local_get (top n ops)) (plain (local_set (result_local n d t)) k)) h

whole_carries : (n : Names) (ls : List (Option ValType)) (ops : List ValType) (js : List ℕ) (rest : Stmts) → Whole (code_of rest) → Whole (code_of (carry_all n ls ops js rest))
whole_carries n ls ops [] rest h = h
whole_carries n ls ops (j ∷ js) rest h = whole_carry n (length ls - suc j) (slice_get ls j) ops (carry_all n ls ops js rest) (whole_carries n ls ops js rest h)

whole_arrive : (n : Names) (d : ℕ) (r : Option ValType) (ops : List ValType) (rest : Stmts) → Whole (code_of rest) → Whole (code_of (arrive n d r ops rest))
unfolding pruned code_of
whole_arrive n d None ops rest h = h
whole_arrive n d (Some t) ops rest h = ap (λ k. plain (local_get (result_local n d t)) (plain (local_set (slot n (length ops) t)) k)) h

whole_computes : (b : _) (xs : List Operand) (to : Option ℕ) (rest : Stmts) → Whole (code_of rest) → Whole (code_of (computes (plain (basic b) done) xs to rest))
unfolding pruned code_of followed_by
whole_computes b xs to rest h = whole_all xs (plain (basic b) (set_to to (code_of rest))) (ap (plain (basic b)) (whole_set to (code_of rest) h))

module _ (n : Names) (c : Around) where
  whole_plain : (ls : List (Option ValType)) (ops behind : List ValType) (i : Plain) (rest : Stmts) → Whole (code_of rest) → Whole (code_of (flat_plain n c ls ops behind i rest))
  unfolding pruned code_of followed_by
  whole_plain ls ops behind (basic b) rest h = whole_computes b (map Local (reverse (take (takes b) (slots n ops)))) (top_of n (gives b) behind) rest h
  whole_plain ls ops behind (local_get x) rest h = ap (λ k. plain (local_get x) (plain (local_set (top n behind)) k)) h
  whole_plain ls ops behind (local_set x) rest h = ap (λ k. plain (local_get (top n ops)) (plain (local_set x) k)) h
  whole_plain ls ops behind (local_tee x) rest h = ap (λ k. plain (local_get (top n ops)) (plain (local_set x) k)) h
  whole_plain ls ops behind (br l) rest h = whole_carry n (length ls - suc l) (slice_get ls l) ops (leaps l no_more) refl
  whole_plain ls ops behind (br_if l) rest h = whole_carry n (length ls - suc l) (slice_get ls l) (drop 1 ops) (leaps_if (Local (top n ops)) l rest)
      (ap (λ k. plain (local_get (top n ops)) (plain (br_if l) k)) h)
  whole_plain ls ops behind (br_table ts l) rest h =
      whole_carries n ls (drop 1 ops) ts (carry n ls (drop 1 ops) l (leaps_by (Local (top n ops)) ts l no_more))
      (whole_carry n (length ls - suc l) (slice_get ls l) (drop 1 ops) (leaps_by (Local (top n ops)) ts l no_more) refl)
  whole_plain ls ops behind return rest h = whole_carry n (length ls - suc (length ls - 1)) (slice_get ls (length ls - 1)) ops (leaps (length ls - 1) no_more) refl
  whole_plain ls ops behind unreachable rest h = refl
  whole_plain ls ops behind (call x) rest h =
      let t : FuncType = or_empty (slice_get c.funcs x) in
      whole_slots (last_of (length t.params) (reverse (slots n ops))) (plain (call x) (set_to (top_of n (length t.results) behind) (code_of rest)))
      (ap (plain (call x)) (whole_set (top_of n (length t.results) behind) (code_of rest) h))
  whole_plain ls ops behind (call_indirect s) rest h =
      let t : FuncType = or_empty (slice_get c.types s) in
      whole_slots (last_of (suc (length t.params)) (reverse (slots n ops))) (plain (call_indirect s) (set_to (top_of n (length t.results) behind) (code_of rest)))
      (ap (plain (call_indirect s)) (whole_set (top_of n (length t.results) behind) (code_of rest) h))

  pub whole_flat : (ls : List (Option ValType)) (code : Code) (ops : List ValType) → Whole (code_of (flat n c ls code ops))
  unfolding flat code_of pruned
  whole_flat ls done ops = whole_carry n (length ls - 1) (slice_get ls 0) ops no_more refl
  whole_flat ls (plain i rest) ops = whole_plain ls ops (after (sig c ls i) ops) i (flat n c ls rest (after (sig c ls i) ops)) (whole_flat ls rest (after (sig c ls i) ops))
  whole_flat ls (nest s r body rest) ops =
      let a = whole_flat (label s r ∷ ls) body ops in
      let b = whole_arrive n (length ls) (label s r) ops (flat n c ls rest (listed r ++ ops)) (whole_flat ls rest (listed r ++ ops)) in
      ap (λ k. nest s None k (pruned (code_of (arrive n (length ls) (label s r) ops (flat n c ls rest (listed r ++ ops)))))) a ∙ ap (nest s None (code_of (flat n c (label s r ∷ ls) body ops))) b
  whole_flat ls (branch r x y rest) ops =
      let fx : Code = code_of (flat n c (r ∷ ls) x (drop 1 ops)) in
      let fy : Code = code_of (flat n c (r ∷ ls) y (drop 1 ops)) in
      let fr : Code = code_of (arrive n (length ls) r (drop 1 ops) (flat n c ls rest (listed r ++ drop 1 ops))) in
      let a : pruned fx ≡ fx = whole_flat (r ∷ ls) x (drop 1 ops) in
      let b : pruned fy ≡ fy = whole_flat (r ∷ ls) y (drop 1 ops) in
      let d : pruned fr ≡ fr = whole_arrive n (length ls) r (drop 1 ops) (flat n c ls rest (listed r ++ drop 1 ops)) (whole_flat ls rest (listed r ++ drop 1 ops)) in
      ap (plain (local_get (top n ops))) (ap (λ k. branch None k (pruned fy) (pruned fr)) a ∙ ap (λ k. branch None fx k (pruned fr)) b ∙ ap (branch None fx fy) d)

pub whole_result : (to : Option ℕ) → pruned (result_got to) ≡ result_got to
unfolding pruned
whole_result None = refl
whole_result (Some x) = refl
