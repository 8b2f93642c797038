-- A module and what runs see of it make the same reductions.
use Rattle.std.proofs.Common.{◌≡◌, ℕ, zero, suc, ◌+◌, ◌-◌, List, [], ◌∷◌, ◌++◌, map, Option, Some, None, Bool, true, false, refl, ap, ◌∙◌, length, take, drop, reverse}
use Rattle.std.specs.Prelude.{nat_lt, if◌then◌else◌, slice_get, unwrap_or}
use Rattle.std.specs.Option.{option_map}
use Rattle.wa_types.specs.declared.values.ValType.{ValType}
use Rattle.wa_types.specs.declared.values.Value.{Value}
use Rattle.wa_types.specs.declared.values.Value.TheVariants as V
use Rattle.wa_types.specs.declared.values.Trap.TheVariants.{StackExhausted, TypeMismatch}
use Rattle.wa_types.specs.Syntax.{Plain, basic, local_get, local_set, local_tee, br, br_if, br_table, return, unreachable, call, call_indirect, a_block, a_loop, Code, done, plain, nest}
use Rattle.wa_types.specs.Syntax.{branch, FuncType, Func, Module}
use Rattle.wa_types.specs.Modules.{imported, imported_func, func_imports, func_type_at, type_at, or_empty, defined_at}
use Rattle.wa_model.specs.Store.{choose, Store}
use Rattle.wa_model.specs.Configuration.{Label, block_label, loop_label, Activation, Configuration, running, waiting, place_of, suspended, stack_of}
use Rattle.wa_model.specs.Step.{Next, steps, traps, result_count, leave, jump, finish, with_number, zero_of, entered, invoke, param_count, same_func_type, through, step_plain, step_at, step}
use Rattle.norm_laws.specs.Bare.{one_by_one, bare}
use Rattle.norm_laws.proofs.Locals.{one_by_one_keeps}

sorts_same : (fs : List Func) → map (λ (f : Func). f.sort) (map one_by_one fs) ≡ map (λ (f : Func). f.sort) fs
sorts_same [] = refl
sorts_same (f ∷ fs) = ap (λ xs. f.sort ∷ xs) (sorts_same fs)

got_mapped : (fs : List Func) (i : ℕ) → slice_get (map one_by_one fs) i ≡ option_map one_by_one (slice_get fs i)
got_mapped [] i = refl
got_mapped (f ∷ fs) zero = refl
got_mapped (f ∷ fs) (suc i) = got_mapped fs i

-- a call begins with the same locals
pub entered_same : (s : Store) (under : List Activation) (args : List Value) (x : ℕ) (f : Func) → entered s under args x (one_by_one f) ≡ entered s under args x f
entered_same s under args x f = ap (λ (ts : List ValType). running s x under (args ++ map zero_of ts) [] f.body []) (one_by_one_keeps _)

module _ (m : Module) where
  pub types_same : (x : ℕ) → func_type_at (bare m) x ≡ func_type_at m x
  types_same x = ap (λ sorts. or_empty (slice_get (map (type_at m) (imported imported_func m ++ sorts)) x)) (sorts_same m.funcs)

  pub defined_same : (x : ℕ) → defined_at (bare m) x ≡ option_map one_by_one (defined_at m x)
  defined_same x = by_import (nat_lt x (func_imports m))
    where
      by_import : (b : Bool) → (if b then None else slice_get (map one_by_one m.funcs) (x - func_imports m)) ≡ option_map one_by_one (if b then None else slice_get m.funcs (x - func_imports m))
      by_import true = refl
      by_import false = got_mapped m.funcs (x - func_imports m)

  -- ---- stacks

  suspended_same : (a : Activation) → suspended (bare m) a ≡ suspended m a
  suspended_same a =
      ap (λ n. record { func = a.func; place = n; locals = a.locals; operands = a.taken ++ a.operands })
      (ap (λ o. place_of o a.code a.labels) (defined_same a.func) ∙ by_func (defined_at m a.func))
    where
      by_func : (o : Option Func) → place_of (option_map one_by_one o) a.code a.labels ≡ place_of o a.code a.labels
      by_func None = refl
      by_func (Some f) = refl

  all_suspended : (acts : List Activation) → map (suspended (bare m)) acts ≡ map (suspended m) acts
  all_suspended [] = refl
  all_suspended (a ∷ acts) = ap (λ x. x ∷ map (suspended (bare m)) acts) (suspended_same a) ∙ ap (λ xs. suspended m a ∷ xs) (all_suspended acts)

  pub stack_same : (c : Configuration) → stack_of (bare m) c ≡ stack_of m c
  stack_same c = all_suspended (c.here ∷ c.under)

  -- ---- reductions

  leaves : (k : ℕ) (s : Store) (fn : ℕ) (ops : List Value) (under : List Activation) → leave k s ops (result_count (bare m) fn) under ≡ leave k s ops (result_count m fn) under
  leaves k s fn ops under = ap (λ (t : FuncType). leave k s ops (length t.results) under) (types_same fn)

  jumps : (k : ℕ) (s : Store) (fn : ℕ) (under : List Activation) (ls ops : List Value) (labels : List Label) (l : ℕ) → jump k (bare m) s fn under ls ops labels l ≡ jump k m s fn under ls ops labels l
  jumps k s fn under ls ops [] l = leaves k s fn ops under
  jumps k s fn under ls ops (block_label h arity rest skipped ∷ labels) zero = refl
  jumps k s fn under ls ops (loop_label h body rest ∷ labels) zero = refl
  jumps k s fn under ls ops (block_label h arity rest skipped ∷ labels) (suc l) = jumps k s fn under ls ops labels l
  jumps k s fn under ls ops (loop_label h body rest ∷ labels) (suc l) = jumps k s fn under ls ops labels l

  finishes : (s : Store) (fn : ℕ) (under : List Activation) (ls ops : List Value) (labels : List Label) → finish (bare m) s fn under ls ops labels ≡ finish m s fn under ls ops labels
  finishes s fn under ls ops [] = leaves 0 s fn ops under
  finishes s fn under ls ops (block_label h arity rest skipped ∷ labels) = refl
  finishes s fn under ls ops (loop_label h body rest ∷ labels) = refl

  numbers : (ops : List Value) (on on' : ℕ → List Value → Next) → ((n : ℕ) (below : List Value) → on' n below ≡ on n below) → with_number ops on' ≡ with_number ops on
  numbers [] on on' h = refl
  numbers (V.I32 n ∷ ops) on on' h = h n ops
  numbers (V.I64 n ∷ ops) on on' h = refl

  invokes : (s : Store) (fn : ℕ) (under : List Activation) (ls own ops : List Value) (rest : Code) (labels : List Label) (params x : ℕ) (o : Option Func)
      → invoke (bare m) s fn under ls own ops rest labels params x (option_map one_by_one o) ≡ invoke m s fn under ls own ops rest labels params x o
  invokes s fn under ls own ops rest labels params x (Some f) =
      ap (λ (c : Configuration). if nat_lt (length under + 1) 4096 then steps params c else traps params StackExhausted s)
      (entered_same s (waiting fn ls (drop params ops) (own ++ take params ops) rest labels ∷ under) (reverse (take params ops)) x f)
  invokes s fn under ls own ops rest labels params x None = refl

  invokes_at : (s : Store) (fn : ℕ) (under : List Activation) (ls own ops : List Value) (rest : Code) (labels : List Label) (params x : ℕ)
      → invoke (bare m) s fn under ls own ops rest labels params x (defined_at (bare m) x) ≡ invoke m s fn under ls own ops rest labels params x (defined_at m x)
  invokes_at s fn under ls own ops rest labels params x =
      ap (invoke (bare m) s fn under ls own ops rest labels params x) (defined_same x) ∙ invokes s fn under ls own ops rest labels params x (defined_at m x)

  throughs : (s : Store) (fn : ℕ) (under : List Activation) (ls own ops : List Value) (rest : Code) (labels : List Label) (sort : ℕ) (o : Option (Option ℕ))
      → through (bare m) s fn under ls own ops rest labels sort o ≡ through m s fn under ls own ops rest labels sort o
  throughs s fn under ls own ops rest labels sort None = refl
  throughs s fn under ls own ops rest labels sort (Some None) = refl
  throughs s fn under ls own ops rest labels sort (Some (Some x)) =
      ap (λ t. if same_func_type t (type_at m sort) then invoke (bare m) s fn under ls own ops rest labels n x (defined_at (bare m) x) else traps n TypeMismatch s) (types_same x)
      ∙ ap (λ next. if same_func_type (func_type_at m x) (type_at m sort) then next else traps n TypeMismatch s) (invokes_at s fn under ls own ops rest labels n x)
    where
      n : ℕ
      n = param_count (type_at m sort)

  plains : (s : Store) (fn : ℕ) (under : List Activation) (ls ops : List Value) (labels : List Label) (rest : Code) (p : Plain)
      → step_plain (bare m) s fn under ls ops labels rest p ≡ step_plain m s fn under ls ops labels rest p
  plains s fn under ls ops labels rest (basic b) = refl
  plains s fn under ls ops labels rest (local_get x) = refl
  plains s fn under ls ops labels rest (local_set x) = refl
  plains s fn under ls ops labels rest (local_tee x) = refl
  plains s fn under ls ops labels rest (br l) = jumps 0 s fn under ls ops labels l
  plains s fn under ls ops labels rest (br_if l) =
      numbers ops _ _ (λ n below. ap (λ next. choose n next (steps 0 (running s fn under ls below rest labels))) (jumps 0 s fn under ls below labels l))
  plains s fn under ls ops labels rest (br_table targets last) = numbers ops _ _ (λ n below. jumps (length targets + 1) s fn under ls below labels (unwrap_or (slice_get targets n) last))
  plains s fn under ls ops labels rest return = leaves 0 s fn ops under
  plains s fn under ls ops labels rest unreachable = refl
  plains s fn under ls ops labels rest (call x) =
      ap (λ t. invoke (bare m) s fn under ls [] ops rest labels (param_count t) x (defined_at (bare m) x)) (types_same x)
      ∙ invokes_at s fn under ls [] ops rest labels (param_count (func_type_at m x)) x
  plains s fn under ls ops labels rest (call_indirect sort) = numbers ops _ _ (λ n below. throughs s fn under ls (V.I32 n ∷ []) below rest labels sort (slice_get s.table n))

  codes_same : (s : Store) (fn : ℕ) (under : List Activation) (ls ops : List Value) (labels : List Label) (c : Code)
      → step_at (bare m) s fn under ls ops labels c ≡ step_at m s fn under ls ops labels c
  codes_same s fn under ls ops labels done = finishes s fn under ls ops labels
  codes_same s fn under ls ops labels (plain p rest) = plains s fn under ls ops labels rest p
  codes_same s fn under ls ops labels (nest a_block r body rest) = refl
  codes_same s fn under ls ops labels (nest a_loop r body rest) = refl
  codes_same s fn under ls ops labels (branch r a b rest) = refl

  pub step_same : (c : Configuration) → step (bare m) c ≡ step m c
  step_same c = codes_same c.store c.here.func c.under c.here.locals c.here.operands c.here.labels c.here.code
