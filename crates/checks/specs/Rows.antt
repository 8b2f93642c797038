-- Small programs that pause, and what their frames are.
use Rattle.std.specs.Prelude.{◌≡◌, ℕ, List, [], ◌∷◌, Some, None, true, false}
use Rattle.wa_types.specs.declared.values.ValType.{ValType}
use Rattle.wa_types.specs.declared.values.ValType.TheVariants.{I32, I64}
use Rattle.wa_types.specs.declared.values.Value.TheVariants.{I32 as value_32, I64 as value_64}
use Rattle.wa_types.specs.declared.operators.NumOp.TheVariants.{I32Add, I32Sub, I32LtU, I32Eqz, I64DivU, I64ExtendI32U}
use Rattle.wa_types.specs.declared.syntax.Run.{Run}
use Rattle.wa_types.specs.declared.syntax.Import.{Import}
use Rattle.wa_types.specs.declared.syntax.ImportKind.TheVariants.{Func as a_func_import}
use Rattle.wa_types.specs.Syntax.{drop, const, num, load, store, memory_grow, Plain, basic, local_get, local_set, local_tee, br_if, br_table, call, call_indirect, a_block, a_loop, Code}
use Rattle.wa_types.specs.Syntax.{done, plain, nest, branch, FuncType, Func, Module}
use Rattle.wa_types.specs.Pausing.{save_all, save_live, every, Numbered}
use Rattle.wa_types.specs.Frames.{Place, Saved, Suspended, Room, Fit, Count}
use Rattle.wa_types.specs.Bounds.{Weight}

-- plain instructions in front of code
abbrev pub then : List Plain → Code → Code
then [] rest = rest
then (p ∷ ps) rest = plain p (then ps rest)

-- an i32 constant
abbrev pub i32 : ℕ → Plain
i32 n = basic (const (value_32 n))

-- the sum of two i32
abbrev pub op32_add : Plain
op32_add = basic (num I32Add)

-- the type [i32] -> [i32]
abbrev pub number_to_number : FuncType
number_to_number = record { params = I32 ∷ []; results = I32 ∷ [] }

-- the import that pauses
abbrev pub pauses : Import
pauses = record { «module» = []; base = []; kind = a_func_import 0 }

-- a module with that import and these functions
abbrev pub of_funcs : List Func → Module
of_funcs funcs = record {
  types = number_to_number ∷ [];
  imports = pauses ∷ [];
  funcs = funcs;
  tables = [];
  memories = [];
  globals = [];
  exports = [];
  start = None;
  elems = [];
  segments = [];
  customs = [];
}

-- so many locals of a type
abbrev pub locals : ℕ → ValType → List Run
locals n t = record { count = n; ty = t } ∷ []

-- One call.
abbrev pub one_call : Module
one_call = of_funcs (record { sort = 0; locals = []; body = then (local_get 0 ∷ call 0 ∷ []) done } ∷ [])

-- A loop that adds up what its calls give, or 100.
abbrev pub summing : Func
summing = record {
  sort = 0;
  locals = locals 1 I32;
  body = nest a_loop None
      (then (local_get 1 ∷ i32 0 ∷ [])
      (branch (Some I32) (then (i32 100 ∷ []) done) (then (local_get 0 ∷ call 0 ∷ []) done)
      (then (op32_add ∷ local_set 1 ∷ local_get 0 ∷ i32 1 ∷ basic (num I32Sub) ∷ local_tee 0 ∷ br_if 0 ∷ []) done)))
      (then (local_get 1 ∷ []) done);
}

-- a module of that function
abbrev pub sum_loop : Module
sum_loop = of_funcs (summing ∷ [])

-- Two labels with results under a `br_table`.
abbrev pub choosing : Func
choosing = record {
  sort = 0;
  locals = [];
  body = nest a_block (Some I32)
      (then (i32 5 ∷ [])
      (nest a_block (Some I32) (then (i32 9 ∷ local_get 0 ∷ br_table (0 ∷ []) 1 ∷ []) done) (then (op32_add ∷ []) done)))
      (then (call 0 ∷ []) done);
}

-- a module of that function
abbrev pub two_labels : Module
two_labels = of_funcs (choosing ∷ [])

-- A recursion down to 0.
abbrev pub countdown : Module
countdown = of_funcs (record {
  sort = 0;
  locals = [];
  body = then (local_get 0 ∷ basic (num I32Eqz) ∷ [])
      (branch (Some I32) (then (i32 0 ∷ call 0 ∷ []) done) (then (local_get 0 ∷ i32 1 ∷ basic (num I32Sub) ∷ call 1 ∷ []) done) done);
} ∷ [])

-- Operands of both types, one of which waits below the call.
abbrev pub dividing : Func
dividing = record {
  sort = 1;
  locals = locals 1 I64;
  body = then (i32 1 ∷ basic memory_grow ∷ basic drop ∷ basic (const (value_64 5000000000)) ∷ local_set 0 ∷ local_get 0 ∷ i32 2 ∷ call 0 ∷ basic (num I64ExtendI32U) ∷ basic (num I64DivU) ∷ []) done;
}

-- a module of that function
abbrev pub two_widths : Module
two_widths = record (of_funcs (dividing ∷ [])) {
  types = number_to_number ∷ record { params = []; results = I64 ∷ [] } ∷ [];
  memories = record { min = 1; max = None } ∷ [];
}

-- A call in an expression with no locals.
abbrev pub reading : Module
reading = record (of_funcs (record {
  sort = 1;
  locals = [];
  body = then (i32 65532 ∷ call 0 ∷ basic drop ∷ i32 65532 ∷ basic (load 0x28 2 0) ∷ []) done;
} ∷ [])) {
  types = number_to_number ∷ record { params = []; results = I32 ∷ [] } ∷ [];
  memories = record { min = 1; max = None } ∷ [];
}

-- A function that works on memory and one that calls it through the table.
abbrev pub working : Func
working = record {
  sort = 0;
  locals = locals 1 I32;
  body = then (i32 16 ∷ call 1 ∷ local_tee 1 ∷ local_get 0 ∷ call 0 ∷ basic (store 0x36 2 0) ∷ local_get 1 ∷ basic (load 0x28 2 0) ∷ []) done;
}

-- a loop that calls through the table
abbrev pub running : Func
running = record {
  sort = 0;
  locals = locals 2 I32;
  body = nest a_loop None
      (then (local_get 2 ∷ local_get 1 ∷ i32 1 ∷ call_indirect 0 ∷ op32_add ∷ local_set 2 ∷ local_get 1 ∷ i32 1 ∷ op32_add ∷ local_tee 1 ∷ local_get 0 ∷ basic (num I32LtU) ∷ br_if 0 ∷ []) done)
      (then (local_get 2 ∷ []) done);
}

-- a function that answers its parameter
abbrev pub allocating : Func
allocating = record { sort = 0; locals = []; body = then (local_get 0 ∷ []) done }

-- a module of these
abbrev pub through_table : Module
through_table = record (of_funcs (allocating ∷ working ∷ running ∷ [])) {
  tables = record { min = 2; max = Some 2 } ∷ [];
  memories = record { min = 2; max = None } ∷ [];
}

-- A block with a result beside one with none, in which a call gives it.
abbrev pub with_blocks : Func
with_blocks = record {
  sort = 0;
  locals = [];
  body = nest a_loop None (nest a_block (Some I32) (then (i32 1 ∷ []) done) (then (basic drop ∷ []) done))
      (nest a_block (Some I32) (then (local_get 0 ∷ call 0 ∷ []) done) done);
}

-- A loop with a result: no branch to it takes one.
abbrev pub with_loop : Func
with_loop = record { sort = 0; locals = []; body = nest a_loop (Some I32) (then (local_get 0 ∷ call 0 ∷ []) done) done }

-- Local 1 is read behind the call only by way of the loop's back edge.
abbrev pub going_back : Func
going_back = record {
  sort = 0;
  locals = locals 1 I32;
  body = nest a_loop None (then (local_get 1 ∷ basic drop ∷ local_get 0 ∷ call 0 ∷ local_tee 0 ∷ br_if 0 ∷ []) done) (then (local_get 0 ∷ []) done);
}

-- a module of that function
abbrev pub back_edge : Module
back_edge = of_funcs (going_back ∷ [])

-- a suspended activation whose values don't matter
abbrev pub standing : ℕ → ℕ → Suspended
standing func place = record { func = func; place = place; locals = []; operands = [] }

-- The bytes that suspended stacks take, in policy `all` and in policy `live`.
pub record Rooms : Type 0 where
  pub one_call_takes : Room one_call save_all (standing 1 0 ∷ []) ≡ 20
  pub one_call_live_takes : Room one_call save_live (standing 1 0 ∷ []) ≡ 16
  pub sum_loop_takes : Room sum_loop save_all (standing 1 0 ∷ []) ≡ 28
  pub sum_loop_live_takes : Room sum_loop save_live (standing 1 0 ∷ []) ≡ 24
  pub two_labels_takes : Room two_labels save_all (standing 1 0 ∷ []) ≡ 28
  pub countdown_takes : Room countdown save_all (standing 1 0 ∷ standing 1 1 ∷ standing 1 1 ∷ []) ≡ 56
  pub countdown_live_takes : Room countdown save_live (standing 1 0 ∷ standing 1 1 ∷ standing 1 1 ∷ []) ≡ 32
  pub countdown_fits_takes : Fit countdown save_all (standing 1 0 ∷ standing 1 1 ∷ standing 1 1 ∷ []) 55 ≡ 40
  pub two_widths_takes : Room two_widths save_all (standing 1 0 ∷ []) ≡ 44
  pub reading_takes : Room reading save_all (standing 1 0 ∷ []) ≡ 16
  pub through_table_takes : Room through_table save_all (standing 2 1 ∷ standing 3 0 ∷ []) ≡ 56
  pub through_table_live_takes : Room through_table save_live (standing 2 1 ∷ standing 3 0 ∷ []) ≡ 48
  pub back_edge_live_takes : Room back_edge save_live (standing 1 0 ∷ []) ≡ 20

-- a saved local
abbrev pub place_of : ℕ → ValType → Place
place_of x t = record { local = x; ty = t }

-- The saved locals: parameters and declared locals first, then slots by height, i32 before i64.
pub record SavedLocals : Type 0 where
  pub sum_loop_saves : Saved sum_loop save_all summing 0 ≡ place_of 0 I32 ∷ place_of 1 I32 ∷ place_of 2 I32 ∷ place_of 3 I32 ∷ []
  pub sum_loop_live_saves : Saved sum_loop save_live summing 0 ≡ place_of 0 I32 ∷ place_of 2 I32 ∷ place_of 3 I32 ∷ []
  pub two_widths_saves : Saved two_widths save_all dividing 0 ≡ place_of 0 I64 ∷ place_of 1 I32 ∷ place_of 2 I64 ∷ place_of 3 I32 ∷ place_of 4 I64 ∷ []
  pub two_widths_live_saves : Saved two_widths save_live dividing 0 ≡ place_of 2 I64 ∷ place_of 3 I32 ∷ []

-- What functions weigh, and how many parameters and locals they get.
pub record Measures : Type 0 where
  pub two_labels_has : Weight two_labels choosing ≡ 12
  pub two_labels_locals_has : Count two_labels choosing ≡ 10
  pub sum_loop_has : Weight sum_loop summing ≡ 18
  pub with_blocks_locals_has : Count (of_funcs (with_blocks ∷ [])) with_blocks ≡ 8
  pub with_loop_locals_has : Count (of_funcs (with_loop ∷ [])) with_loop ≡ 6
  pub numbered_has : Numbered through_table (record { choice = every; ignore_indirect = false; policy = save_all }) (false ∷ false ∷ true ∷ true ∷ []) working ≡ 1 ∷ []
