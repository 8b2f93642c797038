-- Imports are asked at calls alone, and leave the store as it is.
use Rattle.std.proofs.Common.{arith, ◌≡◌, ℕ, zero, suc, ◌+◌, List, [], ◌∷◌, length, Option, Some, None, Bool, true, false, refl, ap, sym, ◌∙◌, subst}
use Rattle.std.specs.Prelude.{nat_lt, if◌then◌else◌, slice_get, slice_set, unwrap_or, take, drop, reverse, ◌++◌}
use Rattle.wa_types.specs.declared.values.Value.{Value}
use Rattle.wa_types.specs.declared.values.Value.TheVariants as V
use Rattle.wa_types.specs.declared.values.Trap.TheVariants.{StackExhausted, TypeMismatch}
use Rattle.wa_types.specs.Syntax.{basic, local_get, local_set, local_tee, br, br_if, br_table, return, unreachable, call, call_indirect, a_block, a_loop, Plain, Code, done, plain, nest, branch, Func, Module}
use Rattle.wa_types.specs.Modules.{func_imports, func_type_at, type_at, defined_at}
use Rattle.wa_model.specs.Store.{choose, Store, Did, works, fails, lacks, takes, extra_cost, act}
use Rattle.wa_model.specs.Configuration.{Label, block_label, loop_label, Activation, Configuration, running, waiting}
use Rattle.wa_model.specs.Step.{Next, steps, asks, returns, traps, stuck, result_count, leave, jump, finish, did, with_top, with_number, entered, invoke, param_count, same_func_type, through, memory_max, step_plain, step_at, step}
use Rattle.run_theory.specs.Alone.{Finish, it_asks, FinishesAt, EndsAs, by_finish, by_steps}
use Rattle.interp.specs.StackRooms.{TakesMemory, paid_for}
use Rattle.interp.specs.Runs.{LacksAt}

-- where an import is asked, a call stands, and the store is as it was
abbrev pub AsksFrom : Store → Code → Next → Type 0
AsksFrom s c (asks k import args w) = TakesMemory c × (w.store ≡ s)
AsksFrom s c _ = Unit {0}

module _ (m : Module) (s : Store) (fn : ℕ) (under : List Activation) (ls : List Value) (c : Code) where
  leave_asks : (more : ℕ) (ops : List Value) (arity : ℕ) (us : List Activation) → AsksFrom s c (leave more s ops arity us)
  leave_asks more ops arity [] = tt
  leave_asks more ops arity (a ∷ us) = tt

  jump_asks : (more : ℕ) (ops : List Value) (labels : List Label) (l : ℕ) → AsksFrom s c (jump more m s fn under ls ops labels l)
  jump_asks more ops [] l = leave_asks more ops (result_count m fn) under
  jump_asks more ops (block_label h arity rest skipped ∷ labels) zero = tt
  jump_asks more ops (loop_label h body rest ∷ labels) zero = tt
  jump_asks more ops (block_label h arity rest skipped ∷ labels) (suc l) = jump_asks more ops labels l
  jump_asks more ops (loop_label h body rest ∷ labels) (suc l) = jump_asks more ops labels l

  finish_asks : (ops : List Value) (labels : List Label) → AsksFrom s c (finish m s fn under ls ops labels)
  finish_asks ops [] = leave_asks 0 ops (result_count m fn) under
  finish_asks ops (block_label h arity rest skipped ∷ labels) = tt
  finish_asks ops (loop_label h body rest ∷ labels) = tt

  did_asks : (k : ℕ) (labels : List Label) (rest : Code) (below : List Value) (d : Did) → AsksFrom s c (did k fn under ls labels rest s below d)
  did_asks k labels rest below (works s' results) = tt
  did_asks k labels rest below (fails trap) = tt
  did_asks k labels rest below lacks = tt

  top_asks : (ops : List Value) (on : Value → List Value → Next) → ((v : Value) (below : List Value) → AsksFrom s c (on v below)) → AsksFrom s c (with_top ops on)
  top_asks [] on f = tt
  top_asks (v ∷ ops) on f = f v ops

  number_asks : (ops : List Value) (on : ℕ → List Value → Next) → ((n : ℕ) (below : List Value) → AsksFrom s c (on n below)) → AsksFrom s c (with_number ops on)
  number_asks [] on f = tt
  number_asks (V.I32 n ∷ ops) on f = f n ops
  number_asks (V.I64 n ∷ ops) on f = tt

  choose_asks : (n : ℕ) (a b : Next) → AsksFrom s c a → AsksFrom s c b → AsksFrom s c (choose n a b)
  choose_asks zero a b fa fb = fb
  choose_asks (suc n) a b fa fb = fa

  if_asks : (t : Bool) (a b : Next) → AsksFrom s c a → AsksFrom s c b → AsksFrom s c (if t then a else b)
  if_asks true a b fa fb = fa
  if_asks false a b fa fb = fb

  invoke_asks : TakesMemory c → (own ops : List Value) (rest : Code) (labels : List Label) (params x : ℕ) (o : Option Func) → AsksFrom s c (invoke m s fn under ls own ops rest labels params x o)
  invoke_asks h own ops rest labels params x (Some f) =
      if_asks (nat_lt (length under + 1) 4096) (steps params (entered s (waiting fn ls (drop params ops) (own ++ take params ops) rest labels ∷ under) (reverse (take params ops)) x f))
      (traps params StackExhausted s) tt tt
  invoke_asks h own ops rest labels params x None =
      if_asks (nat_lt x (func_imports m))
      (asks params x (reverse (take params ops)) (record { store = s; here = waiting fn ls (drop params ops) (own ++ take params ops) rest labels; under = under })) stuck (h, refl) tt

  through_asks : TakesMemory c → (own ops : List Value) (rest : Code) (labels : List Label) (sort : ℕ) (o : Option (Option ℕ)) → AsksFrom s c (through m s fn under ls own ops rest labels sort o)
  through_asks h own ops rest labels sort None = tt
  through_asks h own ops rest labels sort (Some None) = tt
  through_asks h own ops rest labels sort (Some (Some x)) =
      if_asks (same_func_type (func_type_at m x) (type_at m sort)) (invoke m s fn under ls own ops rest labels (param_count (type_at m sort)) x (defined_at m x))
      (traps (param_count (type_at m sort)) TypeMismatch s)
      (invoke_asks h own ops rest labels (param_count (type_at m sort)) x (defined_at m x)) tt

module _ (m : Module) (s : Store) (fn : ℕ) (under : List Activation) (ls ops : List Value) (labels : List Label) where
  plain_asks : (p : Plain) (rest : Code) → AsksFrom s (plain p rest) (step_plain m s fn under ls ops labels rest p)
  plain_asks (basic b) rest = did_asks m s fn under ls (plain (basic b) rest) (extra_cost b (take (takes b) ops)) labels rest (drop (takes b) ops) (act (memory_max m) b s (take (takes b) ops))
  plain_asks (local_get x) rest = tt
  plain_asks (local_set x) rest = top_asks m s fn under ls (plain (local_set x) rest) ops (λ v below. steps 0 (running s fn under (slice_set ls x v) below rest labels)) (λ v below. tt)
  plain_asks (local_tee x) rest = top_asks m s fn under ls (plain (local_tee x) rest) ops (λ v below. steps 0 (running s fn under (slice_set ls x v) (v ∷ below) rest labels)) (λ v below. tt)
  plain_asks (br l) rest = jump_asks m s fn under ls (plain (br l) rest) 0 ops labels l
  plain_asks (br_if l) rest =
      number_asks m s fn under ls (plain (br_if l) rest) ops (λ n below. choose n (jump 0 m s fn under ls below labels l) (steps 0 (running s fn under ls below rest labels)))
      (λ n below. choose_asks m s fn under ls (plain (br_if l) rest) n (jump 0 m s fn under ls below labels l) (steps 0 (running s fn under ls below rest labels))
      (jump_asks m s fn under ls (plain (br_if l) rest) 0 below labels l) tt)
  plain_asks (br_table targets last) rest =
      number_asks m s fn under ls (plain (br_table targets last) rest) ops (λ n below. jump (length targets + 1) m s fn under ls below labels (unwrap_or (slice_get targets n) last))
      (λ n below. jump_asks m s fn under ls (plain (br_table targets last) rest) (length targets + 1) below labels (unwrap_or (slice_get targets n) last))
  plain_asks return rest = leave_asks m s fn under ls (plain return rest) 0 ops (result_count m fn) under
  plain_asks unreachable rest = tt
  plain_asks (call x) rest = invoke_asks m s fn under ls (plain (call x) rest) tt [] ops rest labels (param_count (func_type_at m x)) x (defined_at m x)
  plain_asks (call_indirect sort) rest =
      number_asks m s fn under ls (plain (call_indirect sort) rest) ops (λ n below. through m s fn under ls (V.I32 n ∷ []) below rest labels sort (slice_get s.table n))
      (λ n below. through_asks m s fn under ls (plain (call_indirect sort) rest) tt (V.I32 n ∷ []) below rest labels sort (slice_get s.table n))

  code_asks : (c : Code) → AsksFrom s c (step_at m s fn under ls ops labels c)
  code_asks done = finish_asks m s fn under ls done ops labels
  code_asks (plain p rest) = plain_asks p rest
  code_asks (nest a_block r body rest) = tt
  code_asks (nest a_loop r body rest) = tt
  code_asks (branch r a b rest) = number_asks m s fn under ls (branch r a b rest) ops _ (λ n below. tt)

pub asks_from : (m : Module) (c : Configuration) → AsksFrom c.store c.here.code (step m c)
asks_from m c = code_asks m c.store c.here.func c.under c.here.locals c.here.operands c.here.labels c.here.code

abbrev IsAsked : Finish → Type 0
IsAsked (it_asks import args w) = Unit {0}
IsAsked _ = ⊥

abbrev asked_store : Store → Finish → Store
asked_store s (it_asks import args w) = w.store
asked_store s _ = s

-- a run that ends at the call of an import came to a call
pub asks_lacking : (m : Module) (c : Configuration) (left used import : ℕ) (args : List Value) (w : Configuration) → EndsAs m c left used (it_asks import args w) → LacksAt m c used w.store
asks_lacking m c left used import args w (by_steps more d g e el h) = absurd (subst IsAsked e tt)
asks_lacking m c left used import args w (by_finish j k d g fin e le) = by_next (step m d) refl (asks_from m d) fin
  where
    by_next : (next : Next) → step m d ≡ next → AsksFrom d.store d.here.code next → FinishesAt next k (it_asks import args w) → LacksAt m c used w.store
    by_next (steps k' d') z t f = absurd f
    by_next stuck z t f = absurd f
    by_next (returns k' values s) z t f = absurd (subst IsAsked f.1 tt)
    by_next (traps k' trap s) z t f = absurd (subst IsAsked f.1 tt)
    by_next (asks k' i a w') z t f =
        record { at = d; cost = j; paid = e ∙ ap (λ n. j + n) (f.0 ∙ ap paid_for (sym z)); goes = g; store_is = sym (ap (asked_store w.store) f.1 ∙ t.1); takes = t.0 }
