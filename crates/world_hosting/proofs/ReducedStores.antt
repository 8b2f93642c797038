-- What holds of a store behind a reduction: what each write, each growth and each set of a global keeps.
use Rattle.std.proofs.Common.{◌≡◌, ◌≤◌, ℕ, zero, suc, ◌+◌, ◌*◌, Bool, true, false, cond, leb, List, [], ◌∷◌, ◌++◌, length, take, drop, replicate, reverse, Option, Some, None, Result, Ok, Err, refl, sym, ap, ◌∙◌, subst}
use Rattle.std.specs.Prelude.{◌%◌, nat_lt, nat_le, unwrap_or, slice_get, slice_set}
use Rattle.std.proofs.lemmas.Bool.{leb-true}
use Rattle.wa_types.specs.declared.values.Value.{Value}
use Rattle.wa_types.specs.declared.values.Value.TheVariants as V
use Rattle.wa_types.specs.declared.values.Trap.{Trap}
use Rattle.wa_types.specs.declared.values.Trap.TheVariants.{StackExhausted, TypeMismatch}
use Rattle.wa_types.specs.Accesses.{AccessRow, load_row, store_row}
use Rattle.wa_types.specs.Encoding.{same_type}
use Rattle.wa_types.specs.Memory.{page_size, pages_of, page_bound, overwritten, bytes_of, bytes_at, with_piece, with_number as number_put, number_at, copied, filled_with, grown}
use Rattle.wa_types.proofs.MemoryLemmas.{length-overwritten}
use Rattle.wa_types.specs.Syntax.{Basic, nop, select, const, num, global_get, global_set, load, store, memory_size, memory_grow, memory_copy, memory_fill, Plain, basic, local_get, local_set, local_tee, br, br_if, br_table, return, unreachable, call, call_indirect}
use Rattle.wa_types.specs.Syntax as Syn
use Rattle.wa_types.specs.Syntax.{a_block, a_loop, Code, done, plain, nest, branch, Func, Module}
use Rattle.wa_types.specs.Modules.{func_imports, type_at, func_type_at, defined_at}
use Rattle.wa_types.specs.Typing.{type_of}
use Rattle.wa_ops.specs.Operate.{operate, number_of}
use Rattle.wa_model.specs.Store.{choose, Store, with_memory, Did, works, fails, lacks, takes, extra_cost, act, computed, width_of, loaded, load_at, stored, store_at, grew}
use Rattle.wa_model.specs.Configuration.{Label, block_label, loop_label, Activation, Configuration, running, waiting}
use Rattle.wa_model.specs.Step.{Next, steps, asks, returns, traps, stuck, result_count, leave, jump, finish, did, entered, invoke, param_count, same_func_type, through, memory_max, step_plain, step_at, step, arity_of}

module _ (most : Option ℕ) (Q : Store → Type 0) (wrote : (s : Store) (memory : List ℕ) → length memory ≡ length s.memory → Q s → Q (with_memory s memory))
    (grew_on : (s : Store) (n : ℕ) → pages_of s.memory + n ≤ page_bound most → Q s → Q (with_memory s (s.memory ++ replicate (n * page_size) 0))) where
  -- ---- instructions

  abbrev DidKept : Did → Type 0
  DidKept (works s results) = Q s
  DidKept (fails trap) = Unit {0}
  DidKept lacks = Unit {0}

  loaded_kept : (s : Store) (row : AccessRow) (o : Option ℕ) → Q s → DidKept (loaded s row o)
  loaded_kept s row None h = tt
  loaded_kept s row (Some n) h = h

  load_kept : (s : Store) (place : ℕ) (o : Option AccessRow) → Q s → DidKept (load_at s place o)
  load_kept s place None h = tt
  load_kept s place (Some row) h = loaded_kept s row (number_at s.memory place (width_of row)) h

  -- ---- memory

  -- what an access of memory gives
  abbrev GivesSame : ℕ → Option (List ℕ) → Type 0
  GivesSame size None = Unit {0}
  GivesSame size (Some bytes) = length bytes ≡ size

  piece_same : (bytes : List ℕ) (at : ℕ) (piece : List ℕ) → GivesSame (length bytes) (with_piece bytes at piece)
  piece_same bytes at piece = by_place (leb (at + length piece) (length bytes)) refl
    where
      by_place : (b : Bool) → leb (at + length piece) (length bytes) ≡ b → GivesSame (length bytes) (cond b (Some (overwritten bytes at piece)) None)
      by_place true e = length-overwritten bytes at piece (leb-true _ _ e)
      by_place false e = tt

  copied_same : (bytes : List ℕ) (to from n : ℕ) → GivesSame (length bytes) (copied bytes to from n)
  copied_same bytes to from n = by_source (nat_le (from + n) (length bytes))
    where
      by_source : (b : Bool) → GivesSame (length bytes) (cond b (with_piece bytes to (bytes_at bytes from n)) None)
      by_source true = piece_same bytes to (bytes_at bytes from n)
      by_source false = tt

  stored_kept : (s : Store) (o : Option (List ℕ)) → Q s → GivesSame (length s.memory) o → DidKept (stored s o)
  stored_kept s None h g = tt
  stored_kept s (Some memory) h g = wrote s memory g h

  store_kept : (s : Store) (place : ℕ) (v : Value) (o : Option AccessRow) → Q s → DidKept (store_at s place v o)
  store_kept s place v None h = tt
  store_kept s place v (Some row) h = by_type (same_type row.ty (type_of v))
    where
      by_type : (b : Bool) → DidKept (cond b (stored s (number_put s.memory place (width_of row) (number_of v))) lacks)
      by_type true = stored_kept s (number_put s.memory place (width_of row) (number_of v)) h (piece_same s.memory place (bytes_of (width_of row) (number_of v)))
      by_type false = tt

  computed_kept : (s : Store) (o : Option (Result Value Trap)) → Q s → DidKept (computed s o)
  computed_kept s None h = tt
  computed_kept s (Some (Ok v)) h = h
  computed_kept s (Some (Err trap)) h = tt

  grew_kept : (s : Store) (n : ℕ) → Q s → DidKept (grew s (grown (record { bytes = s.memory; max = most }) n))
  grew_kept s n h = by_bound (leb (pages_of s.memory + n) (page_bound most)) refl
    where
      by_bound : (b : Bool) → leb (pages_of s.memory + n) (page_bound most) ≡ b
          → DidKept (grew s (cond b (Some (record { bytes = s.memory ++ replicate (n * page_size) 0; max = most })) None))
      by_bound true e = grew_on s n (leb-true _ _ e) h
      by_bound false e = h

  -- what a set of a global keeps, where that is what the instruction is
  abbrev pub SetKeeps : Store → Basic → Type 0
  SetKeeps s b = (x : ℕ) (v : Value) → b ≡ global_set x → Q (record { globals = slice_set s.globals x v; memory = s.memory; table = s.table })

  act_kept : (b : Basic) (s : Store) (ops : List Value) → Q s → SetKeeps s b → DidKept (act most b s ops)
  act_kept nop s [] h k = h
  act_kept Syn.drop s (v ∷ []) h k = h
  act_kept select s (V.I32 n ∷ upper ∷ lower ∷ []) h k = h
  act_kept (const v) s [] h k = h
  act_kept (num op) s ops h k = computed_kept s (operate op ops) h
  act_kept (global_get x) s [] h k = h
  act_kept (global_set x) s (v ∷ []) h k = k x v refl
  act_kept (load op align offset) s (V.I32 a ∷ []) h k = load_kept s (a + offset) (load_row op) h
  act_kept (store op align offset) s (v ∷ V.I32 a ∷ []) h k = store_kept s (a + offset) v (store_row op) h
  act_kept memory_size s [] h k = h
  act_kept memory_grow s (V.I32 n ∷ []) h k = grew_kept s n h
  act_kept memory_copy s (V.I32 n ∷ V.I32 from ∷ V.I32 to ∷ []) h k = stored_kept s (copied s.memory to from n) h (copied_same s.memory to from n)
  act_kept memory_fill s (V.I32 n ∷ V.I32 x ∷ V.I32 at ∷ []) h k = stored_kept s (filled_with s.memory at (x % 256) n) h (piece_same s.memory at (replicate n (x % 256)))
  act_kept _ s _ h k = tt

  -- ---- reductions

  abbrev pub NextKept : Next → Type 0
  NextKept (steps k d) = Q d.store
  NextKept (asks k import args d) = Q d.store
  NextKept (returns k values s) = Q s
  NextKept (traps k trap s) = Q s
  NextKept stuck = Unit {0}

  leave_kept : (k : ℕ) (s : Store) (ops : List Value) (arity : ℕ) (under : List Activation) → Q s → NextKept (leave k s ops arity under)
  leave_kept k s ops arity [] h = h
  leave_kept k s ops arity (a ∷ under) h = h

  did_kept : (k fn : ℕ) (under : List Activation) (ls : List Value) (labels : List Label) (rest : Code) (s : Store) (ops : List Value) (d : Did) → Q s → DidKept d
      → NextKept (did k fn under ls labels rest s ops d)
  did_kept k fn under ls labels rest s ops (works s' results) h g = g
  did_kept k fn under ls labels rest s ops (fails trap) h g = h
  did_kept k fn under ls labels rest s ops lacks h g = tt

  chosen_kept : (n : ℕ) (first second : Next) → NextKept first → NextKept second → NextKept (choose n first second)
  chosen_kept zero first second h k = k
  chosen_kept (suc n) first second h k = h

  module _ (m : Module) (is_most : memory_max m ≡ most) where
    jump_kept : (k : ℕ) (s : Store) (fn : ℕ) (under : List Activation) (ls ops : List Value) (labels : List Label) (l : ℕ) → Q s
        → NextKept (jump k m s fn under ls ops labels l)
    jump_kept k s fn under ls ops [] l h = leave_kept k s ops (result_count m fn) under h
    jump_kept k s fn under ls ops (block_label height arity rest skipped ∷ labels) zero h = h
    jump_kept k s fn under ls ops (loop_label height body rest ∷ labels) zero h = h
    jump_kept k s fn under ls ops (block_label height arity rest skipped ∷ labels) (suc l) h = jump_kept k s fn under ls ops labels l h
    jump_kept k s fn under ls ops (loop_label height body rest ∷ labels) (suc l) h = jump_kept k s fn under ls ops labels l h

    finish_kept : (s : Store) (fn : ℕ) (under : List Activation) (ls ops : List Value) (labels : List Label) → Q s → NextKept (finish m s fn under ls ops labels)
    finish_kept s fn under ls ops [] h = leave_kept 0 s ops (result_count m fn) under h
    finish_kept s fn under ls ops (block_label height arity rest skipped ∷ labels) h = h
    finish_kept s fn under ls ops (loop_label height body rest ∷ labels) h = h

    invoke_kept : (s : Store) (fn : ℕ) (under : List Activation) (ls own ops : List Value) (rest : Code) (labels : List Label) (params x : ℕ) (o : Option Func) → Q s
        → NextKept (invoke m s fn under ls own ops rest labels params x o)
    invoke_kept s fn under ls own ops rest labels params x (Some f) h = by_depth (nat_lt (length under + 1) 4096)
      where
        by_depth : (b : Bool) → NextKept
            (cond b (steps params (entered s (waiting fn ls (drop params ops) (own ++ take params ops) rest labels ∷ under) (reverse (take params ops)) x f)) (traps params StackExhausted s))
        by_depth true = h
        by_depth false = h
    invoke_kept s fn under ls own ops rest labels params x None h = by_import (nat_lt x (func_imports m))
      where
        by_import : (b : Bool) → NextKept
            (cond b (asks params x (reverse (take params ops)) (record { store = s; here = waiting fn ls (drop params ops) (own ++ take params ops) rest labels; under = under })) stuck)
        by_import true = h
        by_import false = tt

    through_kept : (s : Store) (fn : ℕ) (under : List Activation) (ls own ops : List Value) (rest : Code) (labels : List Label) (sort : ℕ) (o : Option (Option ℕ)) → Q s
        → NextKept (through m s fn under ls own ops rest labels sort o)
    through_kept s fn under ls own ops rest labels sort None h = h
    through_kept s fn under ls own ops rest labels sort (Some None) h = h
    through_kept s fn under ls own ops rest labels sort (Some (Some x)) h = by_type (same_func_type (func_type_at m x) (type_at m sort))
      where
        by_type : (b : Bool) → NextKept
            (cond b (invoke m s fn under ls own ops rest labels (param_count (type_at m sort)) x (defined_at m x)) (traps (param_count (type_at m sort)) TypeMismatch s))
        by_type true = invoke_kept s fn under ls own ops rest labels (param_count (type_at m sort)) x (defined_at m x) h
        by_type false = h

    plain_kept : (s : Store) (fn : ℕ) (under : List Activation) (ls ops : List Value) (labels : List Label) (rest : Code) (p : Plain) → Q s
        → ((b : Basic) → p ≡ basic b → SetKeeps s b) → NextKept (step_plain m s fn under ls ops labels rest p)
    plain_kept s fn under ls ops labels rest (basic b) h k =
        subst (λ (n : Option ℕ). NextKept (did (extra_cost b (take (takes b) ops)) fn under ls labels rest s (drop (takes b) ops) (act n b s (take (takes b) ops)))) (sym is_most)
        (did_kept (extra_cost b (take (takes b) ops)) fn under ls labels rest s (drop (takes b) ops) (act most b s (take (takes b) ops)) h (act_kept b s (take (takes b) ops) h (k b refl)))
    plain_kept s fn under ls ops labels rest (local_get x) h k = h
    plain_kept s fn under ls [] labels rest (local_set x) h k = tt
    plain_kept s fn under ls (v ∷ ops) labels rest (local_set x) h k = h
    plain_kept s fn under ls [] labels rest (local_tee x) h k = tt
    plain_kept s fn under ls (v ∷ ops) labels rest (local_tee x) h k = h
    plain_kept s fn under ls ops labels rest (br l) h k = jump_kept 0 s fn under ls ops labels l h
    plain_kept s fn under ls [] labels rest (br_if l) h k = tt
    plain_kept s fn under ls (V.I64 n ∷ ops) labels rest (br_if l) h k = tt
    plain_kept s fn under ls (V.I32 n ∷ ops) labels rest (br_if l) h k =
        chosen_kept n (jump 0 m s fn under ls ops labels l) (steps 0 (running s fn under ls ops rest labels)) (jump_kept 0 s fn under ls ops labels l h) h
    plain_kept s fn under ls [] labels rest (br_table targets last) h k = tt
    plain_kept s fn under ls (V.I64 n ∷ ops) labels rest (br_table targets last) h k = tt
    plain_kept s fn under ls (V.I32 n ∷ ops) labels rest (br_table targets last) h k =
        jump_kept (length targets + 1) s fn under ls ops labels (unwrap_or (slice_get targets n) last) h
    plain_kept s fn under ls ops labels rest return h k = leave_kept 0 s ops (result_count m fn) under h
    plain_kept s fn under ls ops labels rest unreachable h k = h
    plain_kept s fn under ls ops labels rest (call x) h k = invoke_kept s fn under ls [] ops rest labels (param_count (func_type_at m x)) x (defined_at m x) h
    plain_kept s fn under ls [] labels rest (call_indirect sort) h k = tt
    plain_kept s fn under ls (V.I64 n ∷ ops) labels rest (call_indirect sort) h k = tt
    plain_kept s fn under ls (V.I32 n ∷ ops) labels rest (call_indirect sort) h k = through_kept s fn under ls (V.I32 n ∷ []) ops rest labels sort (slice_get s.table n) h

    -- .. at the front of code
    abbrev pub FrontKeeps : Store → Code → Type 0
    FrontKeeps s code = (x : ℕ) (v : Value) (rest : Code) → code ≡ plain (basic (global_set x)) rest
        → Q (record { globals = slice_set s.globals x v; memory = s.memory; table = s.table })

    at_kept : (s : Store) (fn : ℕ) (under : List Activation) (ls ops : List Value) (labels : List Label) (code : Code) → Q s → FrontKeeps s code
        → NextKept (step_at m s fn under ls ops labels code)
    at_kept s fn under ls ops labels done h k = finish_kept s fn under ls ops labels h
    at_kept s fn under ls ops labels (plain p rest) h k = plain_kept s fn under ls ops labels rest p h (λ b e x v f. k x v rest (λ i. plain ((e ∙ ap basic f) i) rest))
    at_kept s fn under ls ops labels (nest a_block r body rest) h k = h
    at_kept s fn under ls ops labels (nest a_loop r body rest) h k = h
    at_kept s fn under ls [] labels (branch r a b rest) h k = tt
    at_kept s fn under ls (V.I64 n ∷ ops) labels (branch r a b rest) h k = tt
    at_kept s fn under ls (V.I32 n ∷ ops) labels (branch r a b rest) h k = by_number n
      where
        by_number : (i : ℕ) → NextKept (steps 0
            (choose i (running s fn under ls ops a (block_label (length ops) (arity_of r) rest b ∷ labels)) (running s fn under ls ops b (block_label (length ops) (arity_of r) rest done ∷ labels))))
        by_number zero = h
        by_number (suc i) = h

    -- one reduction
    pub step_kept : (c : Configuration) → Q c.store → FrontKeeps c.store c.here.code → NextKept (step m c)
    step_kept c h k = at_kept c.store c.here.func c.under c.here.locals c.here.operands c.here.labels c.here.code h k
