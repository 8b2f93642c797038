-- The calls of flat code.
use Rattle.std.proofs.Common.{◌≡◌, ◌∙◌, ℕ, suc, ◌-◌, List, [], ◌∷◌, ◌++◌, length, map, take, drop, reverse, Option, Some, None, refl, ap}
use Rattle.std.specs.Prelude.{slice_get, if◌then◌else◌}
use Rattle.wa_types.specs.declared.values.ValType.{ValType}
use Rattle.wa_types.specs.Syntax.{Plain, basic, local_get, local_set, local_tee, br, br_if, br_table, return, unreachable, call, call_indirect, Code, done, plain, nest, branch, FuncType, Func, Module}
use Rattle.wa_types.specs.Pruned.{is_last, pruned}
use Rattle.wa_types.specs.Typing.{Around, listed, sig, label}
use Rattle.wa_types.specs.Points.{after}
use Rattle.wa_types.specs.Pausing.{Callee, callee, callee_onto, calls_of, calls_in}
use Rattle.wa_types.specs.Modules.{or_empty, around}
use Rattle.wa_model.specs.declared.flat.Operand.{Operand}
use Rattle.wa_model.specs.declared.flat.Operand.TheVariants.{Local, Const}
use Rattle.wa_model.specs.Store.{takes, gives}
use Rattle.run_theory.specs.Flat.{Stmts, no_more, computes, calls, leaps, leaps_if, leaps_by, followed_by, all_got, set_to, slots_got, last_of, code_of}
use Rattle.flat_laws.specs.Flatten.{Names, names, slots, top, top_of, carry_to, carry, carry_all, arrive, flat, flat_plain, flattened}

pub calls_all : (xs : List Operand) (code : Code) → calls_of (all_got xs code) ≡ calls_of code
unfolding calls_of
calls_all [] code = refl
calls_all (Local x ∷ xs) code = calls_all xs code
calls_all (Const v ∷ xs) code = calls_all xs code

pub calls_slots : (xs : List ℕ) (code : Code) → calls_of (slots_got xs code) ≡ calls_of code
unfolding calls_of
calls_slots [] code = refl
calls_slots (x ∷ xs) code = calls_slots xs code

pub calls_set : (to : Option ℕ) (code : Code) → calls_of (set_to to code) ≡ calls_of code
unfolding calls_of
calls_set None code = refl
calls_set (Some x) code = refl

calls_carry : (n : Names) (d : ℕ) (o : Option (Option ValType)) (ops : List ValType) (rest : Stmts) → calls_of (code_of (carry_to n d o ops rest)) ≡ calls_of (code_of rest)
unfolding calls_of code_of
calls_carry n d None ops rest = refl
calls_carry n d (Some None) ops rest = refl
calls_carry n d (Some (Some t)) ops rest = refl

calls_carries : (n : Names) (ls : List (Option ValType)) (ops : List ValType) (js : List ℕ) (rest : Stmts) → calls_of (code_of (carry_all n ls ops js rest)) ≡ calls_of (code_of rest)
calls_carries n ls ops [] rest = refl
calls_carries n ls ops (j ∷ js) rest = calls_carry n (length ls - suc j) (slice_get ls j) ops (carry_all n ls ops js rest) ∙ calls_carries n ls ops js rest

pub calls_arrive : (n : Names) (d : ℕ) (r : Option ValType) (ops : List ValType) (rest : Stmts) → calls_of (code_of (arrive n d r ops rest)) ≡ calls_of (code_of rest)
unfolding calls_of code_of
calls_arrive n d None ops rest = refl
calls_arrive n d (Some t) ops rest = refl

pub calls_computes : (i : Plain) (xs : List Operand) (to : Option ℕ) (rest : Stmts) → calls_of (code_of (computes (plain i done) xs to rest)) ≡ callee_onto (callee i) (calls_of (code_of rest))
unfolding calls_of code_of followed_by
calls_computes i xs to rest = calls_all xs (plain i (set_to to (code_of rest))) ∙ ap (callee_onto (callee i)) (calls_set to (code_of rest))

pub calls_calls : (i : Plain) (xs : List ℕ) (k : ℕ) (to : Option ℕ) (rest : Stmts) → calls_of (code_of (calls (plain i done) xs k to rest)) ≡ callee_onto (callee i) (calls_of (code_of rest))
unfolding calls_of code_of followed_by
calls_calls i xs k to rest = calls_slots (last_of k xs) (plain i (set_to to (code_of rest))) ∙ ap (callee_onto (callee i)) (calls_set to (code_of rest))

module _ (n : Names) (c : Around) where
  -- of an instruction, before code that is pruned behind it
  calls_plain : (ls : List (Option ValType)) (ops behind : List ValType) (i : Plain) (rest : Stmts) (more : Code) → calls_of (code_of rest) ≡ calls_of (pruned more)
      → calls_of (code_of (flat_plain n c ls ops behind i rest)) ≡ callee_onto (callee i) (calls_of (if is_last i then done else pruned more))
  unfolding calls_of code_of
  calls_plain ls ops behind (basic b) rest more e = calls_computes (basic b) (map Local (reverse (take (takes b) (slots n ops)))) (top_of n (gives b) behind) rest ∙ e
  calls_plain ls ops behind (local_get x) rest more e = e
  calls_plain ls ops behind (local_set x) rest more e = e
  calls_plain ls ops behind (local_tee x) rest more e = e
  calls_plain ls ops behind (br l) rest more e = calls_carry n (length ls - suc l) (slice_get ls l) ops (leaps l no_more)
  calls_plain ls ops behind (br_if l) rest more e = calls_carry n (length ls - suc l) (slice_get ls l) (drop 1 ops) (leaps_if (Local (top n ops)) l rest) ∙ e
  calls_plain ls ops behind (br_table ts l) rest more e =
      calls_carries n ls (drop 1 ops) ts (carry n ls (drop 1 ops) l (leaps_by (Local (top n ops)) ts l no_more))
      ∙ calls_carry n (length ls - suc l) (slice_get ls l) (drop 1 ops) (leaps_by (Local (top n ops)) ts l no_more)
  calls_plain ls ops behind return rest more e = calls_carry n (length ls - suc (length ls - 1)) (slice_get ls (length ls - 1)) ops (leaps (length ls - 1) no_more)
  calls_plain ls ops behind unreachable rest more e = refl
  calls_plain ls ops behind (call x) rest more e =
      let t : FuncType = or_empty (slice_get c.funcs x) in calls_calls (call x) (reverse (slots n ops)) (length t.params) (top_of n (length t.results) behind) rest
      ∙ ap (callee_onto (callee (call x))) e
  calls_plain ls ops behind (call_indirect t) rest more e =
      let u : FuncType = or_empty (slice_get c.types t) in calls_calls (call_indirect t) (reverse (slots n ops)) (suc (length u.params)) (top_of n (length u.results) behind) rest
      ∙ ap (callee_onto (callee (call_indirect t))) e

  pub calls_flat : (ls : List (Option ValType)) (code : Code) (ops : List ValType) → calls_of (code_of (flat n c ls code ops)) ≡ calls_of (pruned code)
  unfolding flat code_of calls_of pruned
  calls_flat ls done ops = calls_carry n (length ls - 1) (slice_get ls 0) ops no_more
  calls_flat ls (plain i rest) ops = calls_plain ls ops (after (sig c ls i) ops) i (flat n c ls rest (after (sig c ls i) ops)) rest (calls_flat ls rest (after (sig c ls i) ops))
  calls_flat ls (nest s r body rest) ops =
      ap (λ cs. cs ++ calls_of (code_of (arrive n (length ls) (label s r) ops (flat n c ls rest (listed r ++ ops))))) (calls_flat (label s r ∷ ls) body ops)
      ∙ ap (λ cs. calls_of (pruned body) ++ cs) (calls_arrive n (length ls) (label s r) ops (flat n c ls rest (listed r ++ ops)) ∙ calls_flat ls rest (listed r ++ ops))
  calls_flat ls (branch r a b rest) ops =
      let fa = calls_flat (r ∷ ls) a (drop 1 ops) in
      let fb = calls_flat (r ∷ ls) b (drop 1 ops) in
      let fr = calls_arrive n (length ls) r (drop 1 ops) (flat n c ls rest (listed r ++ drop 1 ops)) ∙ calls_flat ls rest (listed r ++ drop 1 ops) in
      let ca : List Callee = calls_of (code_of (flat n c (r ∷ ls) a (drop 1 ops))) in
      let cb : List Callee = calls_of (code_of (flat n c (r ∷ ls) b (drop 1 ops))) in
      let cr : List Callee = calls_of (code_of (arrive n (length ls) r (drop 1 ops) (flat n c ls rest (listed r ++ drop 1 ops)))) in
      ap (λ cs. cs ++ cb ++ cr) fa ∙ ap (λ cs. calls_of (pruned a) ++ cs ++ cr) fb ∙ ap (λ cs. calls_of (pruned a) ++ calls_of (pruned b) ++ cs) fr

pub calls_stay : (m : Module) (x : ℕ) (f : Func) → calls_of (code_of (flattened m x f).body) ≡ calls_in f
calls_stay m x f = calls_flat (names m f) (around m f) ((around m f).result ∷ []) f.body []
