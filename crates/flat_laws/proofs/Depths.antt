-- Flat code nests no deeper than its original.
use Rattle.std.proofs.Common.{◌≡◌, ◌∙◌, ℕ, suc, ◌-◌, ◌≤◌, List, [], ◌∷◌, ◌++◌, length, map, take, drop, reverse, Option, Some, None, refl, ap, arith}
use Rattle.std.specs.Prelude.{slice_get}
use Rattle.wa_types.specs.declared.values.ValType.{ValType}
use Rattle.wa_types.specs.Syntax.{Plain, basic, local_get, local_set, local_tee, br, br_if, br_table, return, unreachable, call, call_indirect, Code, done, plain, nest, branch, FuncType, Func, Module}
use Rattle.wa_types.specs.Pruned.{pruned}
use Rattle.wa_types.specs.Typing.{Around, listed, sig, label}
use Rattle.wa_types.specs.Points.{after}
use Rattle.wa_types.specs.Counts.{depth_of}
use Rattle.wa_types.specs.Modules.{or_empty, around}
use Rattle.wa_model.specs.declared.flat.Operand.{Operand}
use Rattle.wa_model.specs.declared.flat.Operand.TheVariants.{Local, Const}
use Rattle.wa_model.specs.Store.{takes, gives}
use Rattle.run_theory.specs.Flat.{Stmts, no_more, computes, calls, leaps, leaps_if, leaps_by, followed_by, all_got, set_to, slots_got, last_of, code_of}
use Rattle.flat_laws.specs.Flatten.{Names, names, slots, top, top_of, carry_to, carry, carry_all, arrive, flat, flat_plain, flattened}
use Rattle.flat_laws.proofs.ValidModules.{flat_pruned}

deep_all : (xs : List Operand) (code : Code) → depth_of (all_got xs code) ≡ depth_of code
unfolding depth_of
deep_all [] code = refl
deep_all (Local x ∷ xs) code = deep_all xs code
deep_all (Const v ∷ xs) code = deep_all xs code

deep_slots : (xs : List ℕ) (code : Code) → depth_of (slots_got xs code) ≡ depth_of code
unfolding depth_of
deep_slots [] code = refl
deep_slots (x ∷ xs) code = deep_slots xs code

deep_set : (to : Option ℕ) (code : Code) → depth_of (set_to to code) ≡ depth_of code
unfolding depth_of
deep_set None code = refl
deep_set (Some x) code = refl

deep_carry : (n : Names) (d : ℕ) (o : Option (Option ValType)) (ops : List ValType) (rest : Stmts) → depth_of (code_of (carry_to n d o ops rest)) ≡ depth_of (code_of rest)
unfolding depth_of code_of
deep_carry n d None ops rest = refl
deep_carry n d (Some None) ops rest = refl
deep_carry n d (Some (Some t)) ops rest = refl

deep_carries : (n : Names) (ls : List (Option ValType)) (ops : List ValType) (js : List ℕ) (rest : Stmts) → depth_of (code_of (carry_all n ls ops js rest)) ≡ depth_of (code_of rest)
deep_carries n ls ops [] rest = refl
deep_carries n ls ops (j ∷ js) rest = deep_carry n (length ls - suc j) (slice_get ls j) ops (carry_all n ls ops js rest) ∙ deep_carries n ls ops js rest

deep_arrive : (n : Names) (d : ℕ) (r : Option ValType) (ops : List ValType) (rest : Stmts) → depth_of (code_of (arrive n d r ops rest)) ≡ depth_of (code_of rest)
unfolding depth_of code_of
deep_arrive n d None ops rest = refl
deep_arrive n d (Some t) ops rest = refl

deep_calls : (i : Plain) (xs : List ℕ) (k : ℕ) (to : Option ℕ) (rest : Stmts) → depth_of (code_of (calls (plain i done) xs k to rest)) ≡ depth_of (code_of rest)
unfolding depth_of code_of followed_by
deep_calls i xs k to rest = deep_slots (last_of k xs) (plain i (set_to to (code_of rest))) ∙ deep_set to (code_of rest)

deep_computes : (i : Plain) (xs : List Operand) (to : Option ℕ) (rest : Stmts) → depth_of (code_of (computes (plain i done) xs to rest)) ≡ depth_of (code_of rest)
unfolding depth_of code_of followed_by
deep_computes i xs to rest = deep_all xs (plain i (set_to to (code_of rest))) ∙ deep_set to (code_of rest)

module _ (n : Names) (c : Around) where
  deep_plain : (ls : List (Option ValType)) (ops behind : List ValType) (i : Plain) (rest : Stmts) → depth_of (code_of (flat_plain n c ls ops behind i rest)) ≤ depth_of (code_of rest)
  unfolding depth_of code_of
  deep_plain ls ops behind (basic b) rest = let e = deep_computes (basic b) (map Local (reverse (take (takes b) (slots n ops)))) (top_of n (gives b) behind) rest in omega arith
  deep_plain ls ops behind (local_get x) rest = omega arith
  deep_plain ls ops behind (local_set x) rest = omega arith
  deep_plain ls ops behind (local_tee x) rest = omega arith
  deep_plain ls ops behind (br l) rest = let e = deep_carry n (length ls - suc l) (slice_get ls l) ops (leaps l no_more) in omega arith
  deep_plain ls ops behind (br_if l) rest = let e = deep_carry n (length ls - suc l) (slice_get ls l) (drop 1 ops) (leaps_if (Local (top n ops)) l rest) in omega arith
  deep_plain ls ops behind (br_table ts l) rest =
      let e = deep_carries n ls (drop 1 ops) ts (carry n ls (drop 1 ops) l (leaps_by (Local (top n ops)) ts l no_more)) in let e2 =
      deep_carry n (length ls - suc l) (slice_get ls l) (drop 1 ops) (leaps_by (Local (top n ops)) ts l no_more) in omega arith
  deep_plain ls ops behind return rest = let e = deep_carry n (length ls - suc (length ls - 1)) (slice_get ls (length ls - 1)) ops (leaps (length ls - 1) no_more) in omega arith
  deep_plain ls ops behind unreachable rest = omega arith
  deep_plain ls ops behind (call x) rest = let t : FuncType = or_empty (slice_get c.funcs x) in let e =
      deep_calls (call x) (reverse (slots n ops)) (length t.params) (top_of n (length t.results) behind) rest in omega arith
  deep_plain ls ops behind (call_indirect t) rest = let u : FuncType = or_empty (slice_get c.types t) in let e =
      deep_calls (call_indirect t) (reverse (slots n ops)) (suc (length u.params)) (top_of n (length u.results) behind) rest in omega arith

  pub deep_flat : (ls : List (Option ValType)) (code : Code) (ops : List ValType) → depth_of (code_of (flat n c ls code ops)) ≤ depth_of code
  unfolding flat code_of depth_of
  deep_flat ls done ops = let e = deep_carry n (length ls - 1) (slice_get ls 0) ops no_more in omega arith
  deep_flat ls (plain i rest) ops = let a = deep_plain ls ops (after (sig c ls i) ops) i (flat n c ls rest (after (sig c ls i) ops)) in let b = deep_flat ls rest (after (sig c ls i) ops)
      in omega arith
  deep_flat ls (nest s r body rest) ops =
      let a = deep_flat (label s r ∷ ls) body ops in let b = deep_flat ls rest (listed r ++ ops) in let d = deep_arrive n (length ls) (label s r) ops (flat n c ls rest (listed r ++ ops))
      in omega arith
  deep_flat ls (branch r a b rest) ops =
      let da = deep_flat (r ∷ ls) a (drop 1 ops) in let db = deep_flat (r ∷ ls) b (drop 1 ops) in let dr = deep_flat ls rest (listed r ++ drop 1 ops) in
      let d = deep_arrive n (length ls) r (drop 1 ops) (flat n c ls rest (listed r ++ drop 1 ops)) in omega arith

pub flat_is_flat : (m : Module) (x : ℕ) (f : Func) → depth_of (code_of (flattened m x f).body) ≤ depth_of (pruned f.body)
flat_is_flat m x f =
    let c : Around = around m f in
    let a = deep_flat (names m f) c (c.result ∷ []) (pruned f.body) [] in
    let e = ap (λ k. depth_of (code_of k)) (flat_pruned (names m f) c (c.result ∷ []) f.body []) in omega arith
