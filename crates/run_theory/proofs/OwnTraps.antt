-- No reduction traps for an import.
use Rattle.std.proofs.Common.{Bool, List, None, Option, Some, [], drop, false, length, reverse, subst, suc, take, true, zero, ℕ, ◌++◌, ◌+◌, ◌-◌, ◌^◌, ◌∷◌, ◌≡◌, map}
use Rattle.std.specs.Prelude.{◌%◌, Result, Ok, Err, ◌==◌, if◌then◌else◌, nat_lt, slice_get, unwrap_or, pos, int_div}
use Rattle.std.specs.Ordering.{int_eq}
use Rattle.std.specs.Option.{option_map}
use Rattle.wa_model.specs.Configuration.{Activation, Configuration, Label, block_label, loop_label, running, waiting}
use Rattle.wa_model.specs.Step.{Next, asks, did, entered, finish, invoke, jump, leave, memory_max, param_count, result_count, same_func_type, step, step_at, steps, stuck, through}
use Rattle.wa_model.specs.Step.{traps, with_number, with_top}
use Rattle.wa_model.specs.Store.{choose, Did, Store, act, computed, extra_cost, fails, grew, lacks, load_at, loaded, store_at, stored, takes, width_of, works}
use Rattle.wa_ops.specs.Integers.{idiv_s, signed, unsigned}
use Rattle.wa_ops.specs.Operate.{Meaning, applied, are_of, binary, comparison, conversion, meaning_of, number_of, operate, unary, valued}
use Rattle.wa_types.specs.Accesses.{AccessRow, load_row, store_row}
use Rattle.wa_types.specs.Encoding.{same_type}
use Rattle.wa_types.specs.Memory.{Memory, copied, filled_with, grown, number_at, with_number as number_put}
use Rattle.wa_types.specs.Modules.{defined_at, func_imports, func_type_at, type_at}
use Rattle.wa_types.specs.Operators.{operand_types, result_type}
use Rattle.wa_types.specs.Syntax.{Basic, nop, drop as a_drop, select, const, num, global_get, global_set, load, store, memory_size, memory_grow, memory_copy, memory_fill}
use Rattle.wa_types.specs.Syntax.{Code, Func, Module, a_block, a_loop, basic, br, br_if, br_table, branch, call, call_indirect, done, local_get, local_set, local_tee, nest, plain, return, unreachable}
use Rattle.wa_types.specs.Typing.{type_of}
use Rattle.wa_types.specs.declared.operators.NumOp.{NumOp}
use Rattle.wa_types.specs.declared.operators.NumOp.TheVariants.{I32DivS, I32DivU, I32RemS, I32RemU, I64DivS, I64DivU, I64RemS, I64RemU}
use Rattle.wa_types.specs.declared.values.Trap.{Trap}
use Rattle.wa_types.specs.declared.values.Trap.TheVariants.{DivideByZero, Import, IntegerOverflow, StackExhausted, TypeMismatch}
use Rattle.wa_types.specs.declared.values.ValType.{ValType}
use Rattle.wa_types.specs.declared.values.Value.{Value}
use Rattle.wa_types.specs.declared.values.Value.TheVariants as V

abbrev NoImport : Trap → Type 0
NoImport Import = ⊥
NoImport _ = Unit {0}

-- ---- operators

abbrev OwnResult : {X : Type 0} → Result X Trap → Type 0
OwnResult (Ok x) = Unit {0}
OwnResult (Err t) = NoImport t

abbrev OwnAnswer : {X : Type 0} → Option (Result X Trap) → Type 0
OwnAnswer None = Unit {0}
OwnAnswer (Some r) = OwnResult r

unsigned_own : (j n : ℕ) → OwnResult (if j == 0 then Err DivideByZero else Ok n)
unsigned_own j n = by (j == 0)
  where
    by : (b : Bool) → OwnResult (if b then Err DivideByZero else Ok n)
    by true = tt
    by false = tt

quotient_own : (j n : ℕ) (over : Bool) → OwnResult (if j == 0 then Err DivideByZero else (if over then Err IntegerOverflow else Ok n))
quotient_own j n over = by (j == 0) over
  where
    by : (b c : Bool) → OwnResult (if b then Err DivideByZero else (if c then Err IntegerOverflow else Ok n))
    by true c = tt
    by false true = tt
    by false false = tt

signed_own : (width i j : ℕ) → OwnResult (idiv_s width i j)
signed_own width i j =
    quotient_own j (unsigned width (int_div (signed width i) (signed width j))) (int_eq (int_div (signed width i) (signed width j)) (pos (2 ^ (width - 1))))

-- with two operands
two_own : (op : NumOp) (j i : ℕ) → OwnAnswer (applied (meaning_of op) (j ∷ i ∷ []))
two_own I32DivS j i = signed_own 32 i j
two_own I32DivU j i = unsigned_own j _
two_own I32RemS j i = unsigned_own j _
two_own I32RemU j i = unsigned_own j _
two_own I64DivS j i = signed_own 64 i j
two_own I64DivU j i = unsigned_own j _
two_own I64RemS j i = unsigned_own j _
two_own I64RemU j i = unsigned_own j _
two_own _ j i = tt

-- with another number of operands
none_own : (f : Meaning) → OwnAnswer (applied f [])
none_own (unary f) = tt
none_own (conversion f) = tt
none_own (comparison f) = tt
none_own (binary f) = tt

one_own : (f : Meaning) (i : ℕ) → OwnAnswer (applied f (i ∷ []))
one_own (unary f) i = tt
one_own (conversion f) i = tt
one_own (comparison f) i = tt
one_own (binary f) i = tt

more_own : (f : Meaning) (i j k : ℕ) (ks : List ℕ) → OwnAnswer (applied f (i ∷ j ∷ k ∷ ks))
more_own (unary f) i j k ks = tt
more_own (conversion f) i j k ks = tt
more_own (comparison f) i j k ks = tt
more_own (binary f) i j k ks = tt

applied_own : (op : NumOp) (ns : List ℕ) → OwnAnswer (applied (meaning_of op) ns)
applied_own op [] = none_own (meaning_of op)
applied_own op (i ∷ []) = one_own (meaning_of op) i
applied_own op (i ∷ j ∷ []) = two_own op i j
applied_own op (i ∷ j ∷ k ∷ ks) = more_own (meaning_of op) i j k ks

valued_own : (t : ValType) (o : Option (Result ℕ Trap)) → OwnAnswer o → OwnAnswer (option_map (valued t) o)
valued_own t None h = tt
valued_own t (Some (Ok n)) h = tt
valued_own t (Some (Err trap)) h = h

operate_own : (op : NumOp) (ops : List Value) → OwnAnswer (operate op ops)
operate_own op ops = by (are_of (operand_types op) ops)
  where
    by : (b : Bool) → OwnAnswer (if b then option_map (valued (result_type op)) (applied (meaning_of op) (map number_of ops)) else None)
    by true = valued_own (result_type op) (applied (meaning_of op) (map number_of ops)) (applied_own op (map number_of ops))
    by false = tt

-- ---- instructions that touch only the store and their operands

abbrev OwnDid : Did → Type 0
OwnDid (works s results) = Unit {0}
OwnDid (fails trap) = NoImport trap
OwnDid lacks = Unit {0}

computed_own : (s : Store) (o : Option (Result Value Trap)) → OwnAnswer o → OwnDid (computed s o)
computed_own s None h = tt
computed_own s (Some (Ok v)) h = tt
computed_own s (Some (Err t)) h = h

load_own : (s : Store) (place : ℕ) (row : Option AccessRow) → OwnDid (load_at s place row)
load_own s place None = tt
load_own s place (Some row) = by (number_at s.memory place (width_of row))
  where
    by : (o : Option ℕ) → OwnDid (loaded s row o)
    by None = tt
    by (Some n) = tt

stored_own : (s : Store) (o : Option (List ℕ)) → OwnDid (stored s o)
stored_own s None = tt
stored_own s (Some memory) = tt

store_own : (s : Store) (place : ℕ) (v : Value) (row : Option AccessRow) → OwnDid (store_at s place v row)
store_own s place v None = tt
store_own s place v (Some row) = by (same_type row.ty (type_of v))
  where
    by : (b : Bool) → OwnDid (if b then stored s (number_put s.memory place (width_of row) (number_of v)) else lacks)
    by true = stored_own s (number_put s.memory place (width_of row) (number_of v))
    by false = tt

grew_own : (s : Store) (o : Option Memory) → OwnDid (grew s o)
grew_own s None = tt
grew_own s (Some m) = tt

act_own : (most : Option ℕ) (b : Basic) (s : Store) (ops : List Value) → OwnDid (act most b s ops)
act_own most nop s [] = tt
act_own most nop s (v ∷ vs) = tt
act_own most a_drop s [] = tt
act_own most a_drop s (v ∷ []) = tt
act_own most a_drop s (v ∷ w ∷ vs) = tt
act_own most select s [] = tt
act_own most select s (V.I64 n ∷ vs) = tt
act_own most select s (V.I32 n ∷ []) = tt
act_own most select s (V.I32 n ∷ v ∷ []) = tt
act_own most select s (V.I32 n ∷ v ∷ w ∷ []) = tt
act_own most select s (V.I32 n ∷ v ∷ w ∷ x ∷ vs) = tt
act_own most (const v) s [] = tt
act_own most (const v) s (w ∷ vs) = tt
act_own most (num op) s ops = computed_own s (operate op ops) (operate_own op ops)
act_own most (global_get x) s [] = tt
act_own most (global_get x) s (v ∷ vs) = tt
act_own most (global_set x) s [] = tt
act_own most (global_set x) s (v ∷ []) = tt
act_own most (global_set x) s (v ∷ w ∷ vs) = tt
act_own most (load op align offset) s [] = tt
act_own most (load op align offset) s (V.I64 n ∷ vs) = tt
act_own most (load op align offset) s (V.I32 a ∷ []) = load_own s (a + offset) (load_row op)
act_own most (load op align offset) s (V.I32 a ∷ v ∷ vs) = tt
act_own most (store op align offset) s [] = tt
act_own most (store op align offset) s (v ∷ []) = tt
act_own most (store op align offset) s (v ∷ V.I64 n ∷ vs) = tt
act_own most (store op align offset) s (v ∷ V.I32 a ∷ []) = store_own s (a + offset) v (store_row op)
act_own most (store op align offset) s (v ∷ V.I32 a ∷ w ∷ vs) = tt
act_own most memory_size s [] = tt
act_own most memory_size s (v ∷ vs) = tt
act_own most memory_grow s [] = tt
act_own most memory_grow s (V.I64 n ∷ vs) = tt
act_own most memory_grow s (V.I32 n ∷ []) = grew_own s (grown (record { bytes = s.memory; max = most }) n)
act_own most memory_grow s (V.I32 n ∷ v ∷ vs) = tt
act_own most memory_copy s (V.I32 n ∷ V.I32 from ∷ V.I32 to ∷ []) = stored_own s (copied s.memory to from n)
act_own most memory_copy s _ = tt
act_own most memory_fill s (V.I32 n ∷ V.I32 v ∷ V.I32 at ∷ []) = stored_own s (filled_with s.memory at (v % 256) n)
act_own most memory_fill s _ = tt

-- ---- what comes next

abbrev OwnNext : Next → Type 0
OwnNext (traps k trap s) = NoImport trap
OwnNext _ = Unit {0}

leave_own : (k : ℕ) (s : Store) (ops : List Value) (arity : ℕ) (under : List Activation) → OwnNext (leave k s ops arity under)
leave_own k s ops arity [] = tt
leave_own k s ops arity (a ∷ under) = tt

did_own : (k fn : ℕ) (under : List Activation) (ls : List Value) (labels : List Label) (rest : Code) (s : Store) (ops : List Value) (d : Did) → OwnDid d
    → OwnNext (did k fn under ls labels rest s ops d)
did_own k fn under ls labels rest s ops (works s' results) h = tt
did_own k fn under ls labels rest s ops (fails trap) h = h
did_own k fn under ls labels rest s ops lacks h = tt

top_own : (ops : List Value) (on : Value → List Value → Next) → ((v : Value) (below : List Value) → OwnNext (on v below)) → OwnNext (with_top ops on)
top_own [] on h = tt
top_own (v ∷ ops) on h = h v ops

number_own : (ops : List Value) (on : ℕ → List Value → Next) → ((n : ℕ) (below : List Value) → OwnNext (on n below)) → OwnNext (with_number ops on)
number_own [] on h = tt
number_own (V.I32 n ∷ ops) on h = h n ops
number_own (V.I64 n ∷ ops) on h = tt

choose_own : (n : ℕ) (x y : Next) → OwnNext x → OwnNext y → OwnNext (choose n x y)
choose_own zero x y a b = b
choose_own (suc n) x y a b = a

module _ (m : Module) (s : Store) (fn : ℕ) (under : List Activation) where
  jump_own : (k : ℕ) (ls ops : List Value) (labels : List Label) (l : ℕ) → OwnNext (jump k m s fn under ls ops labels l)
  jump_own k ls ops [] l = leave_own k s ops (result_count m fn) under
  jump_own k ls ops (block_label h arity rest skipped ∷ labels) zero = tt
  jump_own k ls ops (loop_label h body rest ∷ labels) zero = tt
  jump_own k ls ops (block_label h arity rest skipped ∷ labels) (suc l) = jump_own k ls ops labels l
  jump_own k ls ops (loop_label h body rest ∷ labels) (suc l) = jump_own k ls ops labels l

  finish_own : (ls ops : List Value) (labels : List Label) → OwnNext (finish m s fn under ls ops labels)
  finish_own ls ops [] = leave_own 0 s ops (result_count m fn) under
  finish_own ls ops (block_label h arity rest skipped ∷ labels) = tt
  finish_own ls ops (loop_label h body rest ∷ labels) = tt

  invoke_own : (ls own ops : List Value) (rest : Code) (labels : List Label) (params x : ℕ) (o : Option Func) → OwnNext (invoke m s fn under ls own ops rest labels params x o)
  invoke_own ls own ops rest labels params x (Some f) = by (nat_lt (length under + 1) 4096)
    where
      to : Configuration
      to = entered s (waiting fn ls (drop params ops) (own ++ take params ops) rest labels ∷ under) (reverse (take params ops)) x f

      by : (b : Bool) → OwnNext (if b then steps params to else traps params StackExhausted s)
      by true = tt
      by false = tt
  invoke_own ls own ops rest labels params x None = by (nat_lt x (func_imports m))
    where
      waits : Configuration
      waits = record { store = s; here = waiting fn ls (drop params ops) (own ++ take params ops) rest labels; under = under }

      by : (b : Bool) → OwnNext (if b then asks params x (reverse (take params ops)) waits else stuck)
      by true = tt
      by false = tt

  through_own : (ls own ops : List Value) (rest : Code) (labels : List Label) (sort : ℕ) (o : Option (Option ℕ)) → OwnNext (through m s fn under ls own ops rest labels sort o)
  through_own ls own ops rest labels sort None = tt
  through_own ls own ops rest labels sort (Some None) = tt
  through_own ls own ops rest labels sort (Some (Some x)) = by (same_func_type (func_type_at m x) (type_at m sort))
    where
      by : (b : Bool) → OwnNext (if b then invoke m s fn under ls own ops rest labels (param_count (type_at m sort)) x (defined_at m x)
          else traps (param_count (type_at m sort)) TypeMismatch s)
      by true = invoke_own ls own ops rest labels (param_count (type_at m sort)) x (defined_at m x)
      by false = tt

  step_own : (ls ops : List Value) (labels : List Label) (code : Code) → OwnNext (step_at m s fn under ls ops labels code)
  step_own ls ops labels done = finish_own ls ops labels
  step_own ls ops labels (plain (basic b) rest) =
      did_own (extra_cost b (take (takes b) ops)) fn under ls labels rest s (drop (takes b) ops) (act (memory_max m) b s (take (takes b) ops))
      (act_own (memory_max m) b s (take (takes b) ops))
  step_own ls ops labels (plain (local_get x) rest) = tt
  step_own ls ops labels (plain (local_set x) rest) = top_own ops _ (λ v below. tt)
  step_own ls ops labels (plain (local_tee x) rest) = top_own ops _ (λ v below. tt)
  step_own ls ops labels (plain (br l) rest) = jump_own 0 ls ops labels l
  step_own ls ops labels (plain (br_if l) rest) =
      number_own ops _ (λ n below. choose_own n (jump 0 m s fn under ls below labels l) (steps 0 (running s fn under ls below rest labels)) (jump_own 0 ls below labels l) tt)
  step_own ls ops labels (plain (br_table targets last) rest) = number_own ops _ (λ n below. jump_own (length targets + 1) ls below labels (unwrap_or (slice_get targets n) last))
  step_own ls ops labels (plain return rest) = leave_own 0 s ops (result_count m fn) under
  step_own ls ops labels (plain unreachable rest) = tt
  step_own ls ops labels (plain (call x) rest) = invoke_own ls [] ops rest labels (param_count (func_type_at m x)) x (defined_at m x)
  step_own ls ops labels (plain (call_indirect sort) rest) = number_own ops _ (λ n below. through_own ls (V.I32 n ∷ []) below rest labels sort (slice_get s.table n))
  step_own ls ops labels (nest a_block r body rest) = tt
  step_own ls ops labels (nest a_loop r body rest) = tt
  step_own ls ops labels (branch r a b rest) = number_own ops _ (λ n below. tt)

pub no_import_trap : (m : Module) (c : Configuration) (k : ℕ) (t : Trap) (s : Store) → step m c ≡ traps k t s → t ≡ Import → ⊥
no_import_trap m c k t s e i =
    let h : OwnNext (step m c) = step_own m c.store c.here.func c.under c.here.locals c.here.operands c.here.labels c.here.code in
    subst NoImport i (subst OwnNext e h)
