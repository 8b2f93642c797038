-- No reduction makes the memory shorter, whatever the values.
use Rattle.std.proofs.Common.{◌≡◌, ℕ, zero, suc, ◌+◌, ◌-◌, ◌*◌, ◌≤◌, Bool, true, false, cond, List, [], ◌∷◌, ◌++◌, length, map, take, drop, replicate, reverse, Option, Some, None, Result, Ok, Err, sym, subst, arith, length-append, length-drop}
use Rattle.std.specs.Prelude.{◌%◌, nat_le, nat_lt, unwrap_or, slice_get}
use Rattle.std.specs.Option.{option_to_list}
use Rattle.std.proofs.lemmas.List.{length-take, length-replicate}
use Rattle.std.proofs.lemmas.List.Elements.{All-nil}
use Rattle.wa_types.specs.declared.values.Value.{Value}
use Rattle.wa_types.specs.declared.values.Value.TheVariants as V
use Rattle.wa_types.specs.declared.values.Trap.{Trap}
use Rattle.wa_types.specs.declared.values.Trap.TheVariants.{StackExhausted, TypeMismatch}
use Rattle.wa_types.specs.Accesses.{AccessRow, load_row, store_row}
use Rattle.wa_types.specs.Encoding.{same_type}
use Rattle.wa_types.specs.Memory.{Memory, page_size, pages_of, page_bound, overwritten, bytes_of, bytes_at, with_piece, with_number as number_put, number_at, copied, filled_with, grown}
use Rattle.wa_types.specs.Syntax.{Basic, nop, select, const, num, global_get, global_set, load, store, memory_size, memory_grow, memory_copy, memory_fill, Plain, basic, local_get, local_set, local_tee, br, br_if, br_table, return, unreachable, call, call_indirect}
use Rattle.wa_types.specs.Syntax as Syn
use Rattle.wa_types.specs.Syntax.{a_block, a_loop, Code, done, plain, nest, branch, Func, Module}
use Rattle.wa_types.specs.Modules.{all_memories, all_tables, func_imports, type_at, func_type_at, defined_at}
use Rattle.wa_types.specs.Typing.{type_of}
use Rattle.wa_model.specs.Machine.{Leads}
use Rattle.wa_ops.specs.Operate.{operate, number_of}
use Rattle.wa_model.specs.Store.{choose, Store, Did, works, fails, lacks, takes, extra_cost, act, computed, width_of, loaded, load_at, stored, store_at, grew}
use Rattle.wa_model.specs.Configuration.{Label, block_label, loop_label, Activation, Configuration, running, waiting}
use Rattle.wa_model.specs.Step.{Next, steps, asks, returns, traps, stuck, result_count, leave, jump, finish, did, entered, invoke, param_count, same_func_type, through, memory_max, step_plain, step_at, step, arity_of}
use Rattle.wa_model.specs.Instantiation.{Opening, fails_as, opens, opening, opened_by, all_values, least_of, Piece, elem_piece, byte_piece, put_piece, put_pieces, first_out, bytes_checked, elems_checked, filled}
use Rattle.wa_model.specs.Blocking.{Note}
use Rattle.run_theory.specs.Alone.{alone, alone_next, Goes, Finish, it_returned, it_trapped, it_asks, it_spent, FinishesAt, EndsAs, by_finish, by_steps}
use Rattle.run_theory.proofs.Invariants.{TurnKeeps, leads_keeps}
use Rattle.interp.specs.declared.turns.Turn.{Turn}
use Rattle.interp.specs.declared.turns.Turn.TheVariants.{Returned, Trapped, Waiting, StepsSpent}
use Rattle.interp.specs.Instance as I
use Rattle.interp.specs.Instance.{Waits, Turns, Calls, CallsAs, Resumes}

-- ---- bytes

pub overwritten_longer : (bytes : List ℕ) (at : ℕ) (piece : List ℕ) → length bytes ≤ length (overwritten bytes at piece)
overwritten_longer bytes at piece =
    omega (
      arith,
      length-append (take at bytes ++ piece) (drop (at + length piece) bytes),
      length-append (take at bytes) piece,
      length-take at bytes,
      length-drop (at + length piece) bytes,
    )

module _ (low : ℕ) where
  -- what an access of memory gives
  abbrev GivesLong : Option (List ℕ) → Type 0
  GivesLong None = Unit {0}
  GivesLong (Some bytes) = low ≤ length bytes

  piece_long : (bytes : List ℕ) (at : ℕ) (piece : List ℕ) → low ≤ length bytes → GivesLong (with_piece bytes at piece)
  piece_long bytes at piece h = by_place (nat_le (at + length piece) (length bytes))
    where
      by_place : (b : Bool) → GivesLong (cond b (Some (overwritten bytes at piece)) None)
      by_place true = let more = overwritten_longer bytes at piece in omega arith
      by_place false = tt

  number_long : (bytes : List ℕ) (at width n : ℕ) → low ≤ length bytes → GivesLong (number_put bytes at width n)
  number_long bytes at width n h = piece_long bytes at (bytes_of width n) h

  copied_long : (bytes : List ℕ) (to from n : ℕ) → low ≤ length bytes → GivesLong (copied bytes to from n)
  copied_long bytes to from n h = by_source (nat_le (from + n) (length bytes))
    where
      by_source : (b : Bool) → GivesLong (cond b (with_piece bytes to (bytes_at bytes from n)) None)
      by_source true = piece_long bytes to (bytes_at bytes from n) h
      by_source false = tt

  abbrev GrowsLong : Option Memory → Type 0
  GrowsLong None = Unit {0}
  GrowsLong (Some m) = low ≤ length m.bytes

  grown_long : (bytes : List ℕ) (most : Option ℕ) (n : ℕ) → low ≤ length bytes → GrowsLong (grown (record { bytes = bytes; max = most }) n)
  grown_long bytes most n h = by_bound (nat_le (pages_of bytes + n) (page_bound most))
    where
      by_bound : (b : Bool) → GrowsLong (cond b (Some (record { bytes = bytes ++ replicate (n * page_size) 0; max = most })) None)
      by_bound true = let more = length-append bytes (replicate (n * page_size) 0) in omega arith
      by_bound false = tt

  -- ---- instructions

  abbrev DidLong : Did → Type 0
  DidLong (works s results) = low ≤ length s.memory
  DidLong (fails trap) = Unit {0}
  DidLong lacks = Unit {0}

  loaded_long : (s : Store) (row : AccessRow) (o : Option ℕ) → low ≤ length s.memory → DidLong (loaded s row o)
  loaded_long s row None h = tt
  loaded_long s row (Some n) h = h

  load_long : (s : Store) (place : ℕ) (o : Option AccessRow) → low ≤ length s.memory → DidLong (load_at s place o)
  load_long s place None h = tt
  load_long s place (Some row) h = loaded_long s row (number_at s.memory place (width_of row)) h

  stored_long : (s : Store) (o : Option (List ℕ)) → GivesLong o → DidLong (stored s o)
  stored_long s None h = tt
  stored_long s (Some memory) h = h

  store_long : (s : Store) (place : ℕ) (v : Value) (o : Option AccessRow) → low ≤ length s.memory → DidLong (store_at s place v o)
  store_long s place v None h = tt
  store_long s place v (Some row) h = by_type (same_type row.ty (type_of v))
    where
      by_type : (b : Bool) → DidLong (cond b (stored s (number_put s.memory place (width_of row) (number_of v))) lacks)
      by_type true = stored_long s (number_put s.memory place (width_of row) (number_of v)) (number_long s.memory place (width_of row) (number_of v) h)
      by_type false = tt

  computed_long : (s : Store) (o : Option (Result Value Trap)) → low ≤ length s.memory → DidLong (computed s o)
  computed_long s None h = tt
  computed_long s (Some (Ok v)) h = h
  computed_long s (Some (Err trap)) h = tt

  grew_long : (s : Store) (o : Option Memory) → low ≤ length s.memory → GrowsLong o → DidLong (grew s o)
  grew_long s None h k = h
  grew_long s (Some m) h k = k

  act_long : (most : Option ℕ) (b : Basic) (s : Store) (ops : List Value) → low ≤ length s.memory → DidLong (act most b s ops)
  act_long most nop s [] h = h
  act_long most Syn.drop s (v ∷ []) h = h
  act_long most select s (V.I32 n ∷ upper ∷ lower ∷ []) h = h
  act_long most (const v) s [] h = h
  act_long most (num op) s ops h = computed_long s (operate op ops) h
  act_long most (global_get x) s [] h = h
  act_long most (global_set x) s (v ∷ []) h = h
  act_long most (load op align offset) s (V.I32 a ∷ []) h = load_long s (a + offset) (load_row op) h
  act_long most (store op align offset) s (v ∷ V.I32 a ∷ []) h = store_long s (a + offset) v (store_row op) h
  act_long most memory_size s [] h = h
  act_long most memory_grow s (V.I32 n ∷ []) h = grew_long s (grown (record { bytes = s.memory; max = most }) n) h (grown_long s.memory most n h)
  act_long most memory_copy s (V.I32 n ∷ V.I32 from ∷ V.I32 to ∷ []) h = stored_long s (copied s.memory to from n) (copied_long s.memory to from n h)
  act_long most memory_fill s (V.I32 n ∷ V.I32 x ∷ V.I32 at ∷ []) h = stored_long s (filled_with s.memory at (x % 256) n) (piece_long s.memory at (replicate n (x % 256)) h)
  act_long most _ s _ h = tt

  -- ---- reductions

  abbrev pub NextLong : Next → Type 0
  NextLong (steps k d) = low ≤ length d.store.memory
  NextLong (asks k import args d) = low ≤ length d.store.memory
  NextLong (returns k values s) = low ≤ length s.memory
  NextLong (traps k trap s) = low ≤ length s.memory
  NextLong stuck = Unit {0}

  leave_long : (k : ℕ) (s : Store) (ops : List Value) (arity : ℕ) (under : List Activation) → low ≤ length s.memory → NextLong (leave k s ops arity under)
  leave_long k s ops arity [] h = h
  leave_long k s ops arity (a ∷ under) h = h

  did_long : (k fn : ℕ) (under : List Activation) (ls : List Value) (labels : List Label) (rest : Code) (s : Store) (ops : List Value) (d : Did) → low ≤ length s.memory → DidLong d
      → NextLong (did k fn under ls labels rest s ops d)
  did_long k fn under ls labels rest s ops (works s' results) h g = g
  did_long k fn under ls labels rest s ops (fails trap) h g = h
  did_long k fn under ls labels rest s ops lacks h g = tt

  chosen_long : (n : ℕ) (first second : Next) → NextLong first → NextLong second → NextLong (choose n first second)
  chosen_long zero first second h k = k
  chosen_long (suc n) first second h k = h

  module _ (m : Module) where
    jump_long : (k : ℕ) (s : Store) (fn : ℕ) (under : List Activation) (ls ops : List Value) (labels : List Label) (l : ℕ) → low ≤ length s.memory
        → NextLong (jump k m s fn under ls ops labels l)
    jump_long k s fn under ls ops [] l h = leave_long k s ops (result_count m fn) under h
    jump_long k s fn under ls ops (block_label height arity rest skipped ∷ labels) zero h = h
    jump_long k s fn under ls ops (loop_label height body rest ∷ labels) zero h = h
    jump_long k s fn under ls ops (block_label height arity rest skipped ∷ labels) (suc l) h = jump_long k s fn under ls ops labels l h
    jump_long k s fn under ls ops (loop_label height body rest ∷ labels) (suc l) h = jump_long k s fn under ls ops labels l h

    finish_long : (s : Store) (fn : ℕ) (under : List Activation) (ls ops : List Value) (labels : List Label) → low ≤ length s.memory → NextLong (finish m s fn under ls ops labels)
    finish_long s fn under ls ops [] h = leave_long 0 s ops (result_count m fn) under h
    finish_long s fn under ls ops (block_label height arity rest skipped ∷ labels) h = h
    finish_long s fn under ls ops (loop_label height body rest ∷ labels) h = h

    invoke_long : (s : Store) (fn : ℕ) (under : List Activation) (ls own ops : List Value) (rest : Code) (labels : List Label) (params x : ℕ) (o : Option Func) → low ≤ length s.memory
        → NextLong (invoke m s fn under ls own ops rest labels params x o)
    invoke_long s fn under ls own ops rest labels params x (Some f) h = by_depth (nat_lt (length under + 1) 4096)
      where
        by_depth : (b : Bool) → NextLong
            (cond b (steps params (entered s (waiting fn ls (drop params ops) (own ++ take params ops) rest labels ∷ under) (reverse (take params ops)) x f)) (traps params StackExhausted s))
        by_depth true = h
        by_depth false = h
    invoke_long s fn under ls own ops rest labels params x None h = by_import (nat_lt x (func_imports m))
      where
        by_import : (b : Bool) → NextLong
            (cond b (asks params x (reverse (take params ops)) (record { store = s; here = waiting fn ls (drop params ops) (own ++ take params ops) rest labels; under = under })) stuck)
        by_import true = h
        by_import false = tt

    through_long : (s : Store) (fn : ℕ) (under : List Activation) (ls own ops : List Value) (rest : Code) (labels : List Label) (sort : ℕ) (o : Option (Option ℕ)) → low ≤ length s.memory
        → NextLong (through m s fn under ls own ops rest labels sort o)
    through_long s fn under ls own ops rest labels sort None h = h
    through_long s fn under ls own ops rest labels sort (Some None) h = h
    through_long s fn under ls own ops rest labels sort (Some (Some x)) h = by_type (same_func_type (func_type_at m x) (type_at m sort))
      where
        by_type : (b : Bool) → NextLong
            (cond b (invoke m s fn under ls own ops rest labels (param_count (type_at m sort)) x (defined_at m x)) (traps (param_count (type_at m sort)) TypeMismatch s))
        by_type true = invoke_long s fn under ls own ops rest labels (param_count (type_at m sort)) x (defined_at m x) h
        by_type false = h

    plain_long : (s : Store) (fn : ℕ) (under : List Activation) (ls ops : List Value) (labels : List Label) (rest : Code) (p : Plain) → low ≤ length s.memory
        → NextLong (step_plain m s fn under ls ops labels rest p)
    plain_long s fn under ls ops labels rest (basic b) h =
        did_long (extra_cost b (take (takes b) ops)) fn under ls labels rest s (drop (takes b) ops) (act (memory_max m) b s (take (takes b) ops)) h (act_long (memory_max m) b s (take (takes b) ops) h)
    plain_long s fn under ls ops labels rest (local_get x) h = h
    plain_long s fn under ls [] labels rest (local_set x) h = tt
    plain_long s fn under ls (v ∷ ops) labels rest (local_set x) h = h
    plain_long s fn under ls [] labels rest (local_tee x) h = tt
    plain_long s fn under ls (v ∷ ops) labels rest (local_tee x) h = h
    plain_long s fn under ls ops labels rest (br l) h = jump_long 0 s fn under ls ops labels l h
    plain_long s fn under ls [] labels rest (br_if l) h = tt
    plain_long s fn under ls (V.I64 n ∷ ops) labels rest (br_if l) h = tt
    plain_long s fn under ls (V.I32 n ∷ ops) labels rest (br_if l) h =
        chosen_long n (jump 0 m s fn under ls ops labels l) (steps 0 (running s fn under ls ops rest labels)) (jump_long 0 s fn under ls ops labels l h) h
    plain_long s fn under ls [] labels rest (br_table targets last) h = tt
    plain_long s fn under ls (V.I64 n ∷ ops) labels rest (br_table targets last) h = tt
    plain_long s fn under ls (V.I32 n ∷ ops) labels rest (br_table targets last) h =
        jump_long (length targets + 1) s fn under ls ops labels (unwrap_or (slice_get targets n) last) h
    plain_long s fn under ls ops labels rest return h = leave_long 0 s ops (result_count m fn) under h
    plain_long s fn under ls ops labels rest unreachable h = h
    plain_long s fn under ls ops labels rest (call x) h = invoke_long s fn under ls [] ops rest labels (param_count (func_type_at m x)) x (defined_at m x) h
    plain_long s fn under ls [] labels rest (call_indirect sort) h = tt
    plain_long s fn under ls (V.I64 n ∷ ops) labels rest (call_indirect sort) h = tt
    plain_long s fn under ls (V.I32 n ∷ ops) labels rest (call_indirect sort) h = through_long s fn under ls (V.I32 n ∷ []) ops rest labels sort (slice_get s.table n) h

    at_long : (s : Store) (fn : ℕ) (under : List Activation) (ls ops : List Value) (labels : List Label) (code : Code) → low ≤ length s.memory
        → NextLong (step_at m s fn under ls ops labels code)
    at_long s fn under ls ops labels done h = finish_long s fn under ls ops labels h
    at_long s fn under ls ops labels (plain p rest) h = plain_long s fn under ls ops labels rest p h
    at_long s fn under ls ops labels (nest a_block r body rest) h = h
    at_long s fn under ls ops labels (nest a_loop r body rest) h = h
    at_long s fn under ls [] labels (branch r a b rest) h = tt
    at_long s fn under ls (V.I64 n ∷ ops) labels (branch r a b rest) h = tt
    at_long s fn under ls (V.I32 n ∷ ops) labels (branch r a b rest) h = by_number n
      where
        by_number : (k : ℕ) → NextLong (steps 0
            (choose k (running s fn under ls ops a (block_label (length ops) (arity_of r) rest b ∷ labels)) (running s fn under ls ops b (block_label (length ops) (arity_of r) rest done ∷ labels))))
        by_number zero = h
        by_number (suc k) = h

    -- one reduction
    pub step_long : (c : Configuration) → low ≤ length c.store.memory → NextLong (step m c)
    step_long c h = at_long c.store c.here.func c.under c.here.locals c.here.operands c.here.labels c.here.code h

    -- ---- stretches and ends

    alone_long : (o : Next) → NextLong o → TurnKeeps (alone (λ c. true) m) (λ (c : Configuration). low ≤ length c.store.memory) (λ (x : Note). Unit {0}) (alone_next true o)
    alone_long (steps k d) h = (All-nil (λ (x : Note). Unit {0}), h)
    alone_long (asks k import args d) h = tt
    alone_long (returns k values s) h = tt
    alone_long (traps k trap s) h = tt
    alone_long stuck h = tt

    leads_long : (c d : Configuration) (cost : ℕ) (es : List Note) → low ≤ length c.store.memory → Leads (alone (λ c. true) m) c cost es d → low ≤ length d.store.memory
    leads_long c d cost es h l =
        (leads_keeps (alone (λ c. true) m) (λ (c : Configuration). low ≤ length c.store.memory) (λ (x : Note). Unit {0}) (λ c h. alone_long (step m c) (step_long c h)) c d cost es h l).1

    pub goes_long : (c d : Configuration) (cost : ℕ) → low ≤ length c.store.memory → Goes m c cost d → low ≤ length d.store.memory
    goes_long c d cost h g = leads_long c d cost [] h g

    abbrev FinishLong : Finish → Type 0
    FinishLong (it_returned values s) = low ≤ length s.memory
    FinishLong (it_trapped trap s) = low ≤ length s.memory
    FinishLong (it_asks import args d) = low ≤ length d.store.memory
    FinishLong (it_spent d) = low ≤ length d.store.memory

    finish_is : (o : Next) (cost : ℕ) (end : Finish) → NextLong o → FinishesAt o cost end → FinishLong end
    finish_is (steps k d) cost end h f = absurd f
    finish_is (asks k import args d) cost end h f = subst FinishLong (sym f.1) h
    finish_is (returns k values s) cost end h f = subst FinishLong (sym f.1) h
    finish_is (traps k trap s) cost end h f = subst FinishLong (sym f.1) h
    finish_is stuck cost end h f = absurd f

    ends_long : (c : Configuration) (left used : ℕ) (end : Finish) → low ≤ length c.store.memory → EndsAs m c left used end → FinishLong end
    ends_long c left used end h (by_finish j k d g f e le) = finish_is (step m d) k end (step_long d (goes_long c d j h g)) f
    ends_long c left used end h (by_steps more d g e el a) = subst FinishLong (sym e) (goes_long c d used h g)

    -- ---- turns of the interpreter

    turns_long : (c : Configuration) (left used : ℕ) (t : Turn) (s' : Store) (waits : Waits) → low ≤ length c.store.memory → Turns m c left used t s' waits → low ≤ length s'.memory
    turns_long c left used (Returned value) s' waits h k = ends_long c left used (it_returned (option_to_list value) s') h k.0
    turns_long c left used (Trapped trap) s' waits h k = ends_long c left used (it_trapped trap s') h k.0
    turns_long c left used (Waiting y) s' waits h k =
        subst (λ (z : Store). low ≤ length z.memory) k.store_is (ends_long c left used (it_asks y.import y.args.items k.at) h k.ends)
    turns_long c left used StepsSpent s' waits h k = subst (λ (z : Store). low ≤ length z.memory) k.0.store_is (ends_long c left used (it_spent k.0.at) h k.0.ends)

    called_long : (s : Store) (x : ℕ) (args : List Value) (dear : Bool) (o : Option Func) (left used : ℕ) (t : Turn) (s' : Store) (waits : Waits) → low ≤ length s.memory
        → CallsAs m s x args dear o left used t s' waits → low ≤ length s'.memory
    called_long s x args true o left used t s' waits h k = subst (λ (z : Store). low ≤ length z.memory) (sym k.store_is) h
    called_long s x args false (Some f) left used t s' waits h k = turns_long (entered s [] args x f) (left - suc (length args)) k.more t s' waits h k.turns
    called_long s x args false None left used t s' waits h k = subst (λ (z : Store). low ≤ length z.memory) (sym k.store_is) h

-- ---- behind a turn the memory is no shorter

-- of a call from outside
pub calls_longer : (m : Module) (s : Store) (x : ℕ) (args : List Value) (left used : ℕ) (t : Turn) (s' : Store) (waits : Waits) → Calls m s x args left used t s' waits
    → length s.memory ≤ length s'.memory
calls_longer m s x args left used t s' waits h =
    called_long (length s.memory) m s x args (nat_le left (length args)) (defined_at m x) left used t s' waits (omega arith) h

-- of what goes on with an answer
pub resumes_longer : (m : Module) (s : Store) (waits : Waits) (value : Option Value) (left used : ℕ) (t : Turn) (s' : Store) (w' : Waits) → Resumes m s waits value left used t s' w'
    → length s.memory ≤ length s'.memory
resumes_longer m s I.nothing value left used t s' w' h = absurd h
resumes_longer m s I.outermost value left used t s' w' h = subst (λ (z : Store). length s.memory ≤ length z.memory) (sym h.2) (omega arith)
resumes_longer m s (I.inside here under) value left used t s' w' h = turns_long (length s.memory) m _ left used t s' w' (omega arith) h

-- ---- instantiation

-- no piece that is put makes it shorter
pieces_longer : (bytes : List ℕ) (ps : List (Piece ℕ)) → length bytes ≤ length (put_pieces bytes ps)
pieces_longer bytes [] = omega arith
pieces_longer bytes (p ∷ ps) =
    let one : length bytes ≤ length (put_piece bytes p) = overwritten_longer bytes p.at p.items in
    let rest : length (put_piece bytes p) ≤ length (put_pieces (put_piece bytes p) ps) = pieces_longer (put_piece bytes p) ps in
    omega arith

abbrev OpensLong : ℕ → Opening → Type 0
OpensLong low (fails_as how) = Unit {0}
OpensLong low (opens s) = low ≤ length s.memory

filled_long : (globals : List Value) (memory : List ℕ) (table : List (Option ℕ)) (elems : List (Piece (Option ℕ))) (bytes : List (Piece ℕ))
    → OpensLong (length memory) (filled globals memory table elems bytes)
filled_long globals memory table elems bytes = by_elems (first_out (length table) 0 elems)
  where
    by_bytes : (o : Option ℕ) → OpensLong (length memory) (bytes_checked globals memory table elems bytes o)
    by_bytes (Some i) = tt
    by_bytes None = pieces_longer memory bytes

    by_elems : (o : Option ℕ) → OpensLong (length memory) (elems_checked globals memory table elems bytes o)
    by_elems (Some i) = tt
    by_elems None = by_bytes (first_out (length memory) 0 bytes)

opened_long : (m : Module) (globals : List Value) (pages entries : ℕ) (a b : Bool) → OpensLong (pages * page_size) (opened_by m globals pages entries a b)
opened_long m globals pages entries true b = tt
opened_long m globals pages entries false true = tt
opened_long m globals pages entries false false =
    let zero_byte : ℕ = 0 in
    subst (λ n. OpensLong n (opened_by m globals pages entries false false)) (length-replicate (pages * page_size) zero_byte)
    (filled_long globals (replicate (pages * page_size) 0) (replicate entries None) (map (elem_piece globals) m.elems) (map (byte_piece globals) m.segments))

-- An instance has the memory that is declared at least.
pub opens_long : (m : Module) (imports : List Value) (s : Store) → opening m imports ≡ opens s → least_of (all_memories m) * page_size ≤ length s.memory
opens_long m imports s e =
    subst (OpensLong (least_of (all_memories m) * page_size)) e
    (opened_long m (all_values imports m) (least_of (all_memories m)) (least_of (all_tables m)) (nat_lt 1024 (least_of (all_memories m))) (nat_lt 100000 (least_of (all_tables m))))
