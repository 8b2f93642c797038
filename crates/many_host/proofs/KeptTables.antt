-- No reduction changes the table, and no move of the protocol's machine.
use Rattle.std.proofs.Common.{◌≡◌, ℕ, zero, suc, ◌+◌, Bool, true, false, cond, List, [], ◌∷◌, ◌++◌, length, take, drop, reverse, Option, Some, None, Result, Ok, Err}
use Rattle.std.specs.Prelude.{◌%◌, nat_lt, unwrap_or, slice_get}
use Rattle.wa_types.specs.declared.values.Value.{Value}
use Rattle.wa_types.specs.declared.values.Value.TheVariants as V
use Rattle.wa_types.specs.declared.values.Trap.{Trap}
use Rattle.wa_types.specs.declared.values.Trap.TheVariants.{StackExhausted, TypeMismatch}
use Rattle.wa_types.specs.Accesses.{AccessRow, load_row, store_row}
use Rattle.wa_types.specs.Encoding.{same_type}
use Rattle.wa_types.specs.Memory.{Memory, with_number as number_put, number_at, copied, filled_with, grown}
use Rattle.wa_types.specs.Syntax.{Basic, nop, select, const, num, global_get, global_set, load, store, memory_size, memory_grow, memory_copy, memory_fill, Plain, basic, local_get, local_set, local_tee, br, br_if, br_table, return, unreachable, call, call_indirect}
use Rattle.wa_types.specs.Syntax as Syn
use Rattle.wa_types.specs.Syntax.{a_block, a_loop, Code, done, plain, nest, branch, Func, Module}
use Rattle.wa_types.specs.Modules.{func_imports, type_at, func_type_at, defined_at}
use Rattle.wa_types.specs.Typing.{type_of}
use Rattle.wa_ops.specs.Operate.{operate, number_of}
use Rattle.wa_model.specs.Store.{choose, Store, Did, works, fails, lacks, takes, extra_cost, act, computed, width_of, loaded, load_at, stored, store_at, grew}
use Rattle.wa_model.specs.Configuration.{Label, block_label, loop_label, Activation, Configuration, running, waiting}
use Rattle.wa_model.specs.Step.{Next, steps, asks, returns, traps, stuck, result_count, leave, jump, finish, did, entered, invoke, param_count, same_func_type, through, memory_max, step_plain, step_at, step, arity_of}

module _ (table : List (Option ℕ)) where
  -- ---- instructions

  abbrev DidKept : Did → Type 0
  DidKept (works s results) = s.table ≡ table
  DidKept (fails trap) = Unit {0}
  DidKept lacks = Unit {0}

  loaded_kept : (s : Store) (row : AccessRow) (o : Option ℕ) → s.table ≡ table → DidKept (loaded s row o)
  loaded_kept s row None h = tt
  loaded_kept s row (Some n) h = h

  load_kept : (s : Store) (place : ℕ) (o : Option AccessRow) → s.table ≡ table → DidKept (load_at s place o)
  load_kept s place None h = tt
  load_kept s place (Some row) h = loaded_kept s row (number_at s.memory place (width_of row)) h

  stored_kept : (s : Store) (o : Option (List ℕ)) → s.table ≡ table → DidKept (stored s o)
  stored_kept s None h = tt
  stored_kept s (Some memory) h = h

  store_kept : (s : Store) (place : ℕ) (v : Value) (o : Option AccessRow) → s.table ≡ table → DidKept (store_at s place v o)
  store_kept s place v None h = tt
  store_kept s place v (Some row) h = by_type (same_type row.ty (type_of v))
    where
      by_type : (b : Bool) → DidKept (cond b (stored s (number_put s.memory place (width_of row) (number_of v))) lacks)
      by_type true = stored_kept s (number_put s.memory place (width_of row) (number_of v)) h
      by_type false = tt

  computed_kept : (s : Store) (o : Option (Result Value Trap)) → s.table ≡ table → DidKept (computed s o)
  computed_kept s None h = tt
  computed_kept s (Some (Ok v)) h = h
  computed_kept s (Some (Err trap)) h = tt

  grew_kept : (s : Store) (o : Option Memory) → s.table ≡ table → DidKept (grew s o)
  grew_kept s None h = h
  grew_kept s (Some m) h = h

  act_kept : (most : Option ℕ) (b : Basic) (s : Store) (ops : List Value) → s.table ≡ table → DidKept (act most b s ops)
  act_kept most nop s [] h = h
  act_kept most Syn.drop s (v ∷ []) h = h
  act_kept most select s (V.I32 n ∷ upper ∷ lower ∷ []) h = h
  act_kept most (const v) s [] h = h
  act_kept most (num op) s ops h = computed_kept s (operate op ops) h
  act_kept most (global_get x) s [] h = h
  act_kept most (global_set x) s (v ∷ []) h = h
  act_kept most (load op align offset) s (V.I32 a ∷ []) h = load_kept s (a + offset) (load_row op) h
  act_kept most (store op align offset) s (v ∷ V.I32 a ∷ []) h = store_kept s (a + offset) v (store_row op) h
  act_kept most memory_size s [] h = h
  act_kept most memory_grow s (V.I32 n ∷ []) h = grew_kept s (grown (record { bytes = s.memory; max = most }) n) h
  act_kept most memory_copy s (V.I32 n ∷ V.I32 from ∷ V.I32 to ∷ []) h = stored_kept s (copied s.memory to from n) h
  act_kept most memory_fill s (V.I32 n ∷ V.I32 x ∷ V.I32 at ∷ []) h = stored_kept s (filled_with s.memory at (x % 256) n) h
  act_kept most _ s _ h = tt

  -- ---- reductions

  abbrev pub NextKept : Next → Type 0
  NextKept (steps k d) = d.store.table ≡ table
  NextKept (asks k import args d) = d.store.table ≡ table
  NextKept (returns k values s) = s.table ≡ table
  NextKept (traps k trap s) = s.table ≡ table
  NextKept stuck = Unit {0}

  leave_kept : (k : ℕ) (s : Store) (ops : List Value) (arity : ℕ) (under : List Activation) → s.table ≡ table → NextKept (leave k s ops arity under)
  leave_kept k s ops arity [] h = h
  leave_kept k s ops arity (a ∷ under) h = h

  did_kept : (k fn : ℕ) (under : List Activation) (ls : List Value) (labels : List Label) (rest : Code) (s : Store) (ops : List Value) (d : Did) → s.table ≡ table → DidKept d
      → NextKept (did k fn under ls labels rest s ops d)
  did_kept k fn under ls labels rest s ops (works s' results) h g = g
  did_kept k fn under ls labels rest s ops (fails trap) h g = h
  did_kept k fn under ls labels rest s ops lacks h g = tt

  chosen_kept : (n : ℕ) (first second : Next) → NextKept first → NextKept second → NextKept (choose n first second)
  chosen_kept zero first second h k = k
  chosen_kept (suc n) first second h k = h

  module _ (m : Module) where
    jump_kept : (k : ℕ) (s : Store) (fn : ℕ) (under : List Activation) (ls ops : List Value) (labels : List Label) (l : ℕ) → s.table ≡ table
        → NextKept (jump k m s fn under ls ops labels l)
    jump_kept k s fn under ls ops [] l h = leave_kept k s ops (result_count m fn) under h
    jump_kept k s fn under ls ops (block_label height arity rest skipped ∷ labels) zero h = h
    jump_kept k s fn under ls ops (loop_label height body rest ∷ labels) zero h = h
    jump_kept k s fn under ls ops (block_label height arity rest skipped ∷ labels) (suc l) h = jump_kept k s fn under ls ops labels l h
    jump_kept k s fn under ls ops (loop_label height body rest ∷ labels) (suc l) h = jump_kept k s fn under ls ops labels l h

    finish_kept : (s : Store) (fn : ℕ) (under : List Activation) (ls ops : List Value) (labels : List Label) → s.table ≡ table → NextKept (finish m s fn under ls ops labels)
    finish_kept s fn under ls ops [] h = leave_kept 0 s ops (result_count m fn) under h
    finish_kept s fn under ls ops (block_label height arity rest skipped ∷ labels) h = h
    finish_kept s fn under ls ops (loop_label height body rest ∷ labels) h = h

    invoke_kept : (s : Store) (fn : ℕ) (under : List Activation) (ls own ops : List Value) (rest : Code) (labels : List Label) (params x : ℕ) (o : Option Func) → s.table ≡ table
        → NextKept (invoke m s fn under ls own ops rest labels params x o)
    invoke_kept s fn under ls own ops rest labels params x (Some f) h = by_depth (nat_lt (length under + 1) 4096)
      where
        by_depth : (b : Bool) → NextKept
            (cond b (steps params (entered s (waiting fn ls (drop params ops) (own ++ take params ops) rest labels ∷ under) (reverse (take params ops)) x f)) (traps params StackExhausted s))
        by_depth true = h
        by_depth false = h
    invoke_kept s fn under ls own ops rest labels params x None h = by_import (nat_lt x (func_imports m))
      where
        by_import : (b : Bool) → NextKept
            (cond b (asks params x (reverse (take params ops)) (record { store = s; here = waiting fn ls (drop params ops) (own ++ take params ops) rest labels; under = under })) stuck)
        by_import true = h
        by_import false = tt

    through_kept : (s : Store) (fn : ℕ) (under : List Activation) (ls own ops : List Value) (rest : Code) (labels : List Label) (sort : ℕ) (o : Option (Option ℕ)) → s.table ≡ table
        → NextKept (through m s fn under ls own ops rest labels sort o)
    through_kept s fn under ls own ops rest labels sort None h = h
    through_kept s fn under ls own ops rest labels sort (Some None) h = h
    through_kept s fn under ls own ops rest labels sort (Some (Some x)) h = by_type (same_func_type (func_type_at m x) (type_at m sort))
      where
        by_type : (b : Bool) → NextKept
            (cond b (invoke m s fn under ls own ops rest labels (param_count (type_at m sort)) x (defined_at m x)) (traps (param_count (type_at m sort)) TypeMismatch s))
        by_type true = invoke_kept s fn under ls own ops rest labels (param_count (type_at m sort)) x (defined_at m x) h
        by_type false = h

    plain_kept : (s : Store) (fn : ℕ) (under : List Activation) (ls ops : List Value) (labels : List Label) (rest : Code) (p : Plain) → s.table ≡ table
        → NextKept (step_plain m s fn under ls ops labels rest p)
    plain_kept s fn under ls ops labels rest (basic b) h =
        did_kept (extra_cost b (take (takes b) ops)) fn under ls labels rest s (drop (takes b) ops) (act (memory_max m) b s (take (takes b) ops)) h (act_kept (memory_max m) b s (take (takes b) ops) h)
    plain_kept s fn under ls ops labels rest (local_get x) h = h
    plain_kept s fn under ls [] labels rest (local_set x) h = tt
    plain_kept s fn under ls (v ∷ ops) labels rest (local_set x) h = h
    plain_kept s fn under ls [] labels rest (local_tee x) h = tt
    plain_kept s fn under ls (v ∷ ops) labels rest (local_tee x) h = h
    plain_kept s fn under ls ops labels rest (br l) h = jump_kept 0 s fn under ls ops labels l h
    plain_kept s fn under ls [] labels rest (br_if l) h = tt
    plain_kept s fn under ls (V.I64 n ∷ ops) labels rest (br_if l) h = tt
    plain_kept s fn under ls (V.I32 n ∷ ops) labels rest (br_if l) h =
        chosen_kept n (jump 0 m s fn under ls ops labels l) (steps 0 (running s fn under ls ops rest labels)) (jump_kept 0 s fn under ls ops labels l h) h
    plain_kept s fn under ls [] labels rest (br_table targets last) h = tt
    plain_kept s fn under ls (V.I64 n ∷ ops) labels rest (br_table targets last) h = tt
    plain_kept s fn under ls (V.I32 n ∷ ops) labels rest (br_table targets last) h =
        jump_kept (length targets + 1) s fn under ls ops labels (unwrap_or (slice_get targets n) last) h
    plain_kept s fn under ls ops labels rest return h = leave_kept 0 s ops (result_count m fn) under h
    plain_kept s fn under ls ops labels rest unreachable h = h
    plain_kept s fn under ls ops labels rest (call x) h = invoke_kept s fn under ls [] ops rest labels (param_count (func_type_at m x)) x (defined_at m x) h
    plain_kept s fn under ls [] labels rest (call_indirect sort) h = tt
    plain_kept s fn under ls (V.I64 n ∷ ops) labels rest (call_indirect sort) h = tt
    plain_kept s fn under ls (V.I32 n ∷ ops) labels rest (call_indirect sort) h = through_kept s fn under ls (V.I32 n ∷ []) ops rest labels sort (slice_get s.table n) h

    at_kept : (s : Store) (fn : ℕ) (under : List Activation) (ls ops : List Value) (labels : List Label) (code : Code) → s.table ≡ table
        → NextKept (step_at m s fn under ls ops labels code)
    at_kept s fn under ls ops labels done h = finish_kept s fn under ls ops labels h
    at_kept s fn under ls ops labels (plain p rest) h = plain_kept s fn under ls ops labels rest p h
    at_kept s fn under ls ops labels (nest a_block r body rest) h = h
    at_kept s fn under ls ops labels (nest a_loop r body rest) h = h
    at_kept s fn under ls [] labels (branch r a b rest) h = tt
    at_kept s fn under ls (V.I64 n ∷ ops) labels (branch r a b rest) h = tt
    at_kept s fn under ls (V.I32 n ∷ ops) labels (branch r a b rest) h = by_number n
      where
        by_number : (k : ℕ) → NextKept (steps 0
            (choose k (running s fn under ls ops a (block_label (length ops) (arity_of r) rest b ∷ labels)) (running s fn under ls ops b (block_label (length ops) (arity_of r) rest done ∷ labels))))
        by_number zero = h
        by_number (suc k) = h

    -- one reduction
    pub step_kept : (c : Configuration) → c.store.table ≡ table → NextKept (step m c)
    step_kept c h = at_kept c.store c.here.func c.under c.here.locals c.here.operands c.here.labels c.here.code h
