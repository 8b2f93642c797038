-- The arguments of a call of an import, by what it took of the stack.
use Rattle.std.proofs.Common.{◌≡◌, ℕ, zero, suc, List, [], ◌∷◌, ◌++◌, Option, Some, None, Bool, true, false, refl, sym, ap, ◌∙◌, subst, length, take, drop, reverse, ◌+◌, arith, ◌⊎◌, inl, inr}
use Rattle.std.specs.Prelude.{nat_lt, if◌then◌else◌, slice_get, unwrap_or}
use Rattle.std.proofs.lemmas.List.{length-reverse, reverse-reverse}
use Rattle.wa_types.specs.declared.values.Value.{Value}
use Rattle.wa_types.specs.declared.values.Value.TheVariants as V
use Rattle.wa_types.specs.declared.values.Trap.{Trap}
use Rattle.wa_types.specs.declared.values.Trap.TheVariants.{StackExhausted, TypeMismatch}
use Rattle.wa_types.specs.Syntax.{basic, local_get, local_set, local_tee, br, br_if, br_table, return, unreachable, call, call_indirect, a_block, a_loop, Code, done, plain, nest, branch, Func, Module}
use Rattle.wa_types.specs.Modules.{func_imports, func_type_at, type_at, defined_at}
use Rattle.wa_model.specs.Store.{choose, Store, Did, works, fails, lacks, takes, extra_cost, act}
use Rattle.wa_model.specs.Configuration.{Label, block_label, loop_label, Activation, Configuration, waiting}
use Rattle.wa_model.specs.Step.{Next, steps, asks, returns, traps, stuck, result_count, leave, jump, finish, did, with_top, with_number, entered, invoke, param_count, same_func_type, through, memory_max, step_at, step}
use Rattle.run_theory.proofs.FittingNames.{func_types_true}

-- Of what a call took so many are its arguments, the topmost being the last; a place in the table may stand above them.
pub record Took (n : ℕ) (args taken : List Value) : Type 0 where
  pub count : length args ≡ n
  pub are : (taken ≡ reverse args) ⊎ ((v : Value) × (taken ≡ v ∷ reverse args))

flipped : (xs ys : List Value) → reverse xs ≡ reverse ys → xs ≡ ys
flipped xs ys e = sym (reverse-reverse xs) ∙ ap reverse e ∙ reverse-reverse ys

rest_of : (u v : Value) (xs ys : List Value) → u ∷ xs ≡ v ∷ ys → xs ≡ ys
rest_of u v xs ys e = cc

-- so what it took determines them
pub one_args : (n : ℕ) (args args2 taken : List Value) → Took n args taken → Took n args2 taken → args ≡ args2
one_args n args args2 taken a b = by a.are b.are
  where
    by : (taken ≡ reverse args) ⊎ ((v : Value) × (taken ≡ v ∷ reverse args)) → (taken ≡ reverse args2) ⊎ ((v : Value) × (taken ≡ v ∷ reverse args2)) → args ≡ args2
    by (inl e) (inl f) = flipped args args2 (sym e ∙ f)
    by (inl e) (inr f) =
        let k1 = ap length e ∙ length-reverse args ∙ a.count in
        let k2 = ap length f.1 in let k3 = length-reverse args2 in let k4 = b.count in
        absurd (omega arith)
    by (inr e) (inl f) =
        let k1 = ap length f ∙ length-reverse args2 ∙ b.count in
        let k2 = ap length e.1 in let k3 = length-reverse args in let k4 = a.count in
        absurd (omega arith)
    by (inr e) (inr f) = flipped args args2 (rest_of e.0 f.0 (reverse args) (reverse args2) (sym e.1 ∙ f.1))

-- What comes next where no import is called: a predicate of it that holds anyway, and at calls.
module _ (p : Module) (P : Next → Type 0) (stepped : (k : ℕ) (d : Configuration) → P (steps k d)) (returned : (k : ℕ) (vs : List Value) (s : Store) → P (returns k vs s))
    (trapped : (k : ℕ) (t : Trap) (s : Store) → P (traps k t s)) (at_stuck : P stuck) where
  leave_so : (k : ℕ) (s : Store) (ops : List Value) (n : ℕ) (under : List Activation) → P (leave k s ops n under)
  leave_so k s ops n [] = returned _ _ _
  leave_so k s ops n (a ∷ under) = stepped _ _

  jump_so : (k : ℕ) (s : Store) (fn : ℕ) (under : List Activation) (ls ops : List Value) (labels : List Label) (l : ℕ) → P (jump k p s fn under ls ops labels l)
  jump_so k s fn under ls ops [] l = leave_so k s ops (result_count p fn) under
  jump_so k s fn under ls ops (block_label h arity rest skipped ∷ labels) zero = stepped _ _
  jump_so k s fn under ls ops (loop_label h body rest ∷ labels) zero = stepped _ _
  jump_so k s fn under ls ops (block_label h arity rest skipped ∷ labels) (suc l) = jump_so k s fn under ls ops labels l
  jump_so k s fn under ls ops (loop_label h body rest ∷ labels) (suc l) = jump_so k s fn under ls ops labels l

  finish_so : (s : Store) (fn : ℕ) (under : List Activation) (ls ops : List Value) (labels : List Label) → P (finish p s fn under ls ops labels)
  finish_so s fn under ls ops [] = leave_so 0 s ops (result_count p fn) under
  finish_so s fn under ls ops (block_label h arity rest skipped ∷ labels) = stepped _ _
  finish_so s fn under ls ops (loop_label h body rest ∷ labels) = stepped _ _

  did_so : (k fn : ℕ) (under : List Activation) (ls : List Value) (labels : List Label) (rest : Code) (s : Store) (ops : List Value) (d : Did) → P (did k fn under ls labels rest s ops d)
  did_so k fn under ls labels rest s ops (works s' vs) = stepped _ _
  did_so k fn under ls labels rest s ops (fails t) = trapped _ _ _
  did_so k fn under ls labels rest s ops lacks = at_stuck

  chosen_so : (n : ℕ) (a b : Next) → P a → P b → P (choose n a b)
  chosen_so zero a b ha hb = hb
  chosen_so (suc n) a b ha hb = ha

  number_so : (ops : List Value) (on : ℕ → List Value → Next) → ((n : ℕ) (below : List Value) → ops ≡ V.I32 n ∷ below → P (on n below)) → P (with_number ops on)
  number_so [] on h = at_stuck
  number_so (V.I32 n ∷ ops) on h = h n ops refl
  number_so (V.I64 n ∷ ops) on h = at_stuck

  top_so : (ops : List Value) (on : Value → List Value → Next) → ((v : Value) (below : List Value) → P (on v below)) → P (with_top ops on)
  top_so [] on h = at_stuck
  top_so (v ∷ ops) on h = h v ops

  invoke_so : (s : Store) (fn : ℕ) (under : List Activation) (ls own ops : List Value) (rest : Code) (labels : List Label) (params x : ℕ) (o : Option Func)
      → P (asks params x (reverse (take params ops)) (record { store = s; here = waiting fn ls (drop params ops) (own ++ take params ops) rest labels; under = under }))
      → P (invoke p s fn under ls own ops rest labels params x o)
  invoke_so s fn under ls own ops rest labels params x (Some f) h = by_room (nat_lt (length under + 1) 4096)
    where
      by_room : (b : Bool) → P (if b then steps params (entered s (waiting fn ls (drop params ops) (own ++ take params ops) rest labels ∷ under) (reverse (take params ops)) x f)
          else traps params StackExhausted s)
      by_room true = stepped _ _
      by_room false = trapped _ _ _
  invoke_so s fn under ls own ops rest labels params x None h = by_import (nat_lt x (func_imports p))
    where
      by_import : (b : Bool) → P (if b then asks params x (reverse (take params ops))
          (record { store = s; here = waiting fn ls (drop params ops) (own ++ take params ops) rest labels; under = under }) else stuck)
      by_import true = h
      by_import false = at_stuck

  -- a call goes to the function itself, or to one of the table, of the same type
  abbrev pub AtCall : (s : Store) (fn : ℕ) (under : List Activation) (ls ops : List Value) (labels : List Label) → Code → Type 0
  AtCall s fn under ls ops labels (plain (call x) rest) =
      P (asks (param_count (func_type_at p x)) x (reverse (take (param_count (func_type_at p x)) ops))
      (record { store = s; here = waiting fn ls (drop (param_count (func_type_at p x)) ops) ([] ++ take (param_count (func_type_at p x)) ops) rest labels; under = under }))
  AtCall s fn under ls ops labels (plain (call_indirect sort) rest) =
      (x n : ℕ) (below : List Value) → ops ≡ V.I32 n ∷ below → param_count (type_at p sort) ≡ param_count (func_type_at p x)
      → P (asks (param_count (type_at p sort)) x (reverse (take (param_count (type_at p sort)) below))
      (record { store = s; here = waiting fn ls (drop (param_count (type_at p sort)) below) ((V.I32 n ∷ []) ++ take (param_count (type_at p sort)) below) rest labels; under = under }))
  AtCall s fn under ls ops labels _ = Unit {0}

  through_so : (s : Store) (fn : ℕ) (under : List Activation) (ls ops : List Value) (rest : Code) (labels : List Label) (sort n : ℕ) (below : List Value) → ops ≡ V.I32 n ∷ below
      → AtCall s fn under ls ops labels (plain (call_indirect sort) rest) → (o : Option (Option ℕ)) → P (through p s fn under ls (V.I32 n ∷ []) below rest labels sort o)
  through_so s fn under ls ops rest labels sort n below is h None = trapped _ _ _
  through_so s fn under ls ops rest labels sort n below is h (Some None) = trapped _ _ _
  through_so s fn under ls ops rest labels sort n below is h (Some (Some x)) = by_type (same_func_type (func_type_at p x) (type_at p sort)) refl
    where
      by_type : (b : Bool) → same_func_type (func_type_at p x) (type_at p sort) ≡ b
          → P (if b then invoke p s fn under ls (V.I32 n ∷ []) below rest labels (param_count (type_at p sort)) x (defined_at p x) else traps (param_count (type_at p sort)) TypeMismatch s)
      by_type true e = invoke_so s fn under ls (V.I32 n ∷ []) below rest labels (param_count (type_at p sort)) x (defined_at p x)
          (h x n below is (ap param_count (sym (func_types_true (func_type_at p x) (type_at p sort) e))))
      by_type false e = trapped _ _ _

  code_so : (s : Store) (fn : ℕ) (under : List Activation) (ls ops : List Value) (labels : List Label) (c : Code) → AtCall s fn under ls ops labels c → P (step_at p s fn under ls ops labels c)
  code_so s fn under ls ops labels done h = finish_so s fn under ls ops labels
  code_so s fn under ls ops labels (plain (basic b) rest) h =
      did_so (extra_cost b (take (takes b) ops)) fn under ls labels rest s (drop (takes b) ops) (act (memory_max p) b s (take (takes b) ops))
  code_so s fn under ls ops labels (plain (local_get x) rest) h = stepped _ _
  code_so s fn under ls ops labels (plain (local_set x) rest) h = top_so ops _ (λ v below. stepped _ _)
  code_so s fn under ls ops labels (plain (local_tee x) rest) h = top_so ops _ (λ v below. stepped _ _)
  code_so s fn under ls ops labels (plain (br l) rest) h = jump_so 0 s fn under ls ops labels l
  code_so s fn under ls ops labels (plain (br_if l) rest) h = number_so ops _ (λ n below e. chosen_so n _ _ (jump_so 0 s fn under ls below labels l) (stepped _ _))
  code_so s fn under ls ops labels (plain (br_table targets last) rest) h =
      number_so ops _ (λ n below e. jump_so (length targets + 1) s fn under ls below labels (unwrap_or (slice_get targets n) last))
  code_so s fn under ls ops labels (plain return rest) h = leave_so 0 s ops (result_count p fn) under
  code_so s fn under ls ops labels (plain unreachable rest) h = trapped _ _ _
  code_so s fn under ls ops labels (plain (call x) rest) h = invoke_so s fn under ls [] ops rest labels (param_count (func_type_at p x)) x (defined_at p x) h
  code_so s fn under ls ops labels (plain (call_indirect sort) rest) h =
      number_so ops _ (λ n below e. through_so s fn under ls ops rest labels sort n below e h (slice_get s.table n))
  code_so s fn under ls ops labels (nest a_block r body rest) h = stepped _ _
  code_so s fn under ls ops labels (nest a_loop r body rest) h = stepped _ _
  code_so s fn under ls ops labels (branch r a b rest) h = number_so ops _ (λ n below e. stepped _ _)

  -- WHAT COMES NEXT meets it, where calls do
  pub next_so : (c : Configuration) → AtCall c.store c.here.func c.under c.here.locals c.here.operands c.here.labels c.here.code → P (step p c)
  next_so c h = code_so c.store c.here.func c.under c.here.locals c.here.operands c.here.labels c.here.code h

module _ (p : Module) where
  -- a call of an import that has all its arguments
  abbrev TookNext : Next → Type 0
  TookNext (asks k i args d) = length args ≡ k → Took (param_count (func_type_at p i)) args d.here.taken
  TookNext _ = Unit {0}

  -- it took them, and perhaps a place in the table
  took_own : (own xs : List Value) (n k : ℕ) → (own ≡ []) ⊎ ((v : Value) × (own ≡ v ∷ [])) → k ≡ n → length (reverse xs) ≡ k → Took n (reverse xs) (own ++ xs)
  took_own own xs n k (inl e) count full = record { count = full ∙ count; are = inl (ap (λ ys. ys ++ xs) e ∙ sym (reverse-reverse xs)) }
  took_own own xs n k (inr h) count full =
      record { count = full ∙ count; are = inr (h.0, ap (λ ys. ys ++ xs) h.1 ∙ ap (λ ys. h.0 ∷ ys) (sym (reverse-reverse xs))) }

  calls_took : (s : Store) (fn : ℕ) (under : List Activation) (ls ops : List Value) (labels : List Label) (c : Code)
      → AtCall p TookNext (λ k d. tt) (λ k vs s. tt) (λ k t s. tt) tt s fn under ls ops labels c
  calls_took s fn under ls ops labels (plain (call x) rest) =
      λ full. took_own [] (take (param_count (func_type_at p x)) ops) (param_count (func_type_at p x)) (param_count (func_type_at p x)) (inl refl) refl full
  calls_took s fn under ls ops labels (plain (call_indirect sort) rest) =
      λ x n below is count full. took_own (V.I32 n ∷ []) (take (param_count (type_at p sort)) below) (param_count (func_type_at p x)) (param_count (type_at p sort)) (inr (V.I32 n, refl)) count full
  calls_took s fn under ls ops labels _ = tt

  -- WHAT A CALL of an import took, where it has all its arguments
  pub took : (c d : Configuration) (k i : ℕ) (args : List Value) → step p c ≡ asks k i args d → length args ≡ k → Took (param_count (func_type_at p i)) args d.here.taken
  took c d k i args e full =
      subst TookNext e (next_so p TookNext (λ k d. tt) (λ k vs s. tt) (λ k t s. tt) tt c
      (calls_took c.store c.here.func c.under c.here.locals c.here.operands c.here.labels c.here.code)) full
