-- Sizes of flat code: its items, its depth, its lists of labels and its calls.
use Rattle.std.proofs.Common.{ℕ, suc, ◌+◌, ◌-◌, ◌*◌, ◌≤◌, List, [], ◌∷◌, ◌++◌, length, map, take, drop, reverse, Option, Some, None, Bool, true, false, arith, length-append}
use Rattle.std.specs.Prelude.{slice_get, if◌then◌else◌}
use Rattle.wa_types.specs.declared.values.ValType.{ValType}
use Rattle.wa_types.specs.Syntax.{Plain, basic, local_get, local_set, local_tee, br, br_if, br_table, return, unreachable, call, call_indirect, Code, done, plain, nest, branch, FuncType, Func, Module}
use Rattle.wa_types.specs.Pruned.{is_last, pruned}
use Rattle.wa_types.specs.Typing.{Around, listed, sig, label}
use Rattle.wa_types.specs.Points.{after}
use Rattle.wa_types.specs.Pausing.{callee, callee_onto, calls_of}
use Rattle.wa_types.specs.Counts.{depth_of}
use Rattle.wa_types.specs.Bounds.{plain_weight, code_weight}
use Rattle.wa_types.specs.Sizes.{label_count, else_count, code_items, plain_lists, code_lists}
use Rattle.wa_types.specs.Modules.{or_empty, around}
use Rattle.wa_model.specs.declared.flat.Operand.{Operand}
use Rattle.wa_model.specs.declared.flat.Operand.TheVariants.{Local, Const}
use Rattle.wa_model.specs.Store.{takes, gives}
use Rattle.run_theory.specs.Flat.{Stmts, no_more, computes, calls, leaps, leaps_if, leaps_by, followed_by, all_got, set_to, slots_got, last_of, code_of, result_got, body_of}
use Rattle.flat_laws.specs.Flatten.{Names, names, slots, top, top_of, carry_to, carry, carry_all, arrive, flat, flat_plain, result_of, flattened}

-- ---- items, depth and calls of code

few_elses : (code : Code) → else_count code ≤ 1
few_elses done = omega arith
few_elses (plain p rest) = omega arith
few_elses (nest s r body rest) = omega arith
few_elses (branch r a b rest) = omega arith

plain_items : (m : Module) (p : Plain) → 1 + label_count p ≤ plain_weight m p
plain_items m (basic b) = omega arith
plain_items m (local_get x) = omega arith
plain_items m (local_set x) = omega arith
plain_items m (local_tee x) = omega arith
plain_items m (br l) = omega arith
plain_items m (br_if l) = omega arith
plain_items m (br_table labels l) = omega arith
plain_items m return = omega arith
plain_items m unreachable = omega arith
plain_items m (call x) = omega arith
plain_items m (call_indirect t) = omega arith

pub items_weigh : (m : Module) (code : Code) → code_items code ≤ 3 * code_weight m code
unfolding code_items code_weight
items_weigh m done = omega arith
items_weigh m (plain p rest) = let a = plain_items m p in let b = items_weigh m rest in omega arith
items_weigh m (nest s r body rest) = let a = items_weigh m body in let b = items_weigh m rest in omega arith
items_weigh m (branch r x y rest) = let a = items_weigh m x in let b = items_weigh m y in let d = items_weigh m rest in let e = few_elses y in omega arith

cut_depth : (b : Bool) (code : Code) → depth_of (if b then done else code) ≤ depth_of code
unfolding depth_of
cut_depth true code = omega arith
cut_depth false code = omega arith

pub depth_few : (code : Code) → 2 * depth_of (pruned code) ≤ code_items code
unfolding depth_of pruned code_items
depth_few done = omega arith
depth_few (plain p rest) = let a = depth_few rest in let b = cut_depth (is_last p) (pruned rest) in omega arith
depth_few (nest s r body rest) = let a = depth_few body in let b = depth_few rest in omega arith
depth_few (branch r x y rest) = let a = depth_few x in let b = depth_few y in let d = depth_few rest in omega arith

pub calls_few : (m : Module) (code : Code) → length (calls_of code) ≤ code_weight m code
unfolding calls_of code_weight
calls_few m done = omega arith
calls_few m (plain p rest) = by p (calls_few m rest)
  where
    by : (p : Plain) → length (calls_of rest) ≤ code_weight m rest → length (callee_onto (callee p) (calls_of rest)) ≤ plain_weight m p + code_weight m rest
    by (basic b) ih = omega arith
    by (local_get x) ih = omega arith
    by (local_set x) ih = omega arith
    by (local_tee x) ih = omega arith
    by (br l) ih = omega arith
    by (br_if l) ih = omega arith
    by (br_table labels l) ih = omega arith
    by return ih = omega arith
    by unreachable ih = omega arith
    by (call x) ih = omega arith
    by (call_indirect t) ih = omega arith
calls_few m (nest s r body rest) = let a = calls_few m body in let b = calls_few m rest in let l = length-append (calls_of body) (calls_of rest) in omega arith
calls_few m (branch r x y rest) =
    let a = calls_few m x in let b = calls_few m y in let d = calls_few m rest in
    let l = length-append (calls_of x ++ calls_of y) (calls_of rest) in let k = length-append (calls_of x) (calls_of y) in omega arith

-- ---- lists of labels

module _ (most : ℕ) where
  abbrev L : Code → Type 0
  L = code_lists most

  lists_all : (xs : List Operand) (code : Code) → L code → L (all_got xs code)
  lists_all [] code h = h
  lists_all (Local x ∷ xs) code h = (tt, lists_all xs code h)
  lists_all (Const v ∷ xs) code h = (tt, lists_all xs code h)

  lists_slots : (xs : List ℕ) (code : Code) → L code → L (slots_got xs code)
  lists_slots [] code h = h
  lists_slots (x ∷ xs) code h = (tt, lists_slots xs code h)

  lists_set : (to : Option ℕ) (code : Code) → L code → L (set_to to code)
  lists_set None code h = h
  lists_set (Some x) code h = (tt, h)

  lists_carry : (n : Names) (d : ℕ) (o : Option (Option ValType)) (ops : List ValType) (rest : Stmts) → L (code_of rest) → L (code_of (carry_to n d o ops rest))
  unfolding code_of
  lists_carry n d None ops rest h = h
  lists_carry n d (Some None) ops rest h = h
  lists_carry n d (Some (Some t)) ops rest h = (tt, (tt, h))

  lists_carries : (n : Names) (ls : List (Option ValType)) (ops : List ValType) (js : List ℕ) (rest : Stmts) → L (code_of rest) → L (code_of (carry_all n ls ops js rest))
  lists_carries n ls ops [] rest h = h
  lists_carries n ls ops (j ∷ js) rest h = lists_carry n (length ls - suc j) (slice_get ls j) ops (carry_all n ls ops js rest) (lists_carries n ls ops js rest h)

  lists_arrive : (n : Names) (d : ℕ) (r : Option ValType) (ops : List ValType) (rest : Stmts) → L (code_of rest) → L (code_of (arrive n d r ops rest))
  unfolding code_of
  lists_arrive n d None ops rest h = h
  lists_arrive n d (Some t) ops rest h = (tt, (tt, h))

  lists_calls : (i : Plain) (xs : List ℕ) (k : ℕ) (to : Option ℕ) (rest : Stmts) → plain_lists most i → L (code_of rest) → L (code_of (calls (plain i done) xs k to rest))
  unfolding code_of followed_by
  lists_calls i xs k to rest p h = lists_slots (last_of k xs) (plain i (set_to to (code_of rest))) (p, lists_set to (code_of rest) h)

  lists_computes : (i : Plain) (xs : List Operand) (to : Option ℕ) (rest : Stmts) → plain_lists most i → L (code_of rest) → L (code_of (computes (plain i done) xs to rest))
  unfolding code_of followed_by
  lists_computes i xs to rest p h = lists_all xs (plain i (set_to to (code_of rest))) (p, lists_set to (code_of rest) h)

  lists_plain : (n : Names) (c : Around) (ls : List (Option ValType)) (ops behind : List ValType) (i : Plain) (rest : Stmts) → plain_lists most i → L (code_of rest)
      → L (code_of (flat_plain n c ls ops behind i rest))
  unfolding code_of
  lists_plain n c ls ops behind (basic b) rest p h = lists_computes (basic b) (map Local (reverse (take (takes b) (slots n ops)))) (top_of n (gives b) behind) rest tt h
  lists_plain n c ls ops behind (local_get x) rest p h = (tt, (tt, h))
  lists_plain n c ls ops behind (local_set x) rest p h = (tt, (tt, h))
  lists_plain n c ls ops behind (local_tee x) rest p h = (tt, (tt, h))
  lists_plain n c ls ops behind (br l) rest p h = lists_carry n (length ls - suc l) (slice_get ls l) ops (leaps l no_more) (tt, tt)
  lists_plain n c ls ops behind (br_if l) rest p h = lists_carry n (length ls - suc l) (slice_get ls l) (drop 1 ops) (leaps_if (Local (top n ops)) l rest) (tt, (tt, h))
  lists_plain n c ls ops behind (br_table ts l) rest p h =
      lists_carries n ls (drop 1 ops) ts (carry n ls (drop 1 ops) l (leaps_by (Local (top n ops)) ts l no_more))
      (lists_carry n (length ls - suc l) (slice_get ls l) (drop 1 ops) (leaps_by (Local (top n ops)) ts l no_more) (tt, (p, tt)))
  lists_plain n c ls ops behind return rest p h = lists_carry n (length ls - suc (length ls - 1)) (slice_get ls (length ls - 1)) ops (leaps (length ls - 1) no_more) (tt, tt)
  lists_plain n c ls ops behind unreachable rest p h = (tt, tt)
  lists_plain n c ls ops behind (call x) rest p h = let t : FuncType = or_empty (slice_get c.funcs x)
      in lists_calls (call x) (reverse (slots n ops)) (length t.params) (top_of n (length t.results) behind) rest tt h
  lists_plain n c ls ops behind (call_indirect t) rest p h = let u : FuncType = or_empty (slice_get c.types t)
      in lists_calls (call_indirect t) (reverse (slots n ops)) (suc (length u.params)) (top_of n (length u.results) behind) rest tt h

  pub lists_flat : (n : Names) (c : Around) (ls : List (Option ValType)) (code : Code) (ops : List ValType) → L code → L (code_of (flat n c ls code ops))
  unfolding flat code_of
  lists_flat n c ls done ops h = lists_carry n (length ls - 1) (slice_get ls 0) ops no_more tt
  lists_flat n c ls (plain i rest) ops h = lists_plain n c ls ops (after (sig c ls i) ops) i (flat n c ls rest (after (sig c ls i) ops)) h.0 (lists_flat n c ls rest (after (sig c ls i) ops) h.1)
  lists_flat n c ls (nest s r body rest) ops h =
      (lists_flat n c (label s r ∷ ls) body ops h.0, lists_arrive n (length ls) (label s r) ops (flat n c ls rest (listed r ++ ops)) (lists_flat n c ls rest (listed r ++ ops) h.1))
  lists_flat n c ls (branch r a b rest) ops h = (
    tt,
    (
      lists_flat n c (r ∷ ls) a (drop 1 ops) h.0,
      lists_flat n c (r ∷ ls) b (drop 1 ops) h.1,
      lists_arrive n (length ls) r (drop 1 ops) (flat n c ls rest (listed r ++ drop 1 ops)) (lists_flat n c ls rest (listed r ++ drop 1 ops) h.2),
    ),
  )

  result_lists : (to : Option ℕ) → L (result_got to)
  result_lists None = tt
  result_lists (Some x) = (tt, tt)

  pub body_lists : (m : Module) (x : ℕ) (f : Func) → L f.body → L (body_of (flattened m x f))
  body_lists m x f h = (lists_flat (names m f) (around m f) ((around m f).result ∷ []) f.body [] h, result_lists (result_of (names m f) (around m f).result))

-- lists of fewer items are of fewer than more
pub lists_wider : (a b : ℕ) (code : Code) → a ≤ b → code_lists a code → code_lists b code
lists_wider a b done le h = tt
lists_wider a b (plain i rest) le h = (by i h.0, lists_wider a b rest le h.1)
  where
    by : (i : Plain) → plain_lists a i → plain_lists b i
    by (br_table ts l) p = omega arith
    by (basic z) p = tt
    by (local_get x) p = tt
    by (local_set x) p = tt
    by (local_tee x) p = tt
    by (br l) p = tt
    by (br_if l) p = tt
    by return p = tt
    by unreachable p = tt
    by (call x) p = tt
    by (call_indirect t) p = tt
lists_wider a b (nest s r body rest) le h = (lists_wider a b body le h.0, lists_wider a b rest le h.1)
lists_wider a b (branch r x y rest) le h = (lists_wider a b x le h.0, lists_wider a b y le h.1, lists_wider a b rest le h.2)
