-- What holds of each row of the table of instructions.
use Rattle.std.proofs.Common.{arith, ◌≡◌, ℕ, ◌<◌, ◌≤◌, nat_le, List, [], ◌∷◌, Option, Some, None, Bool, true, false, if◌then◌else◌, slice_get}
use Rattle.wa_types.specs.declared.values.ValType.{ValType}
use Rattle.wa_types.specs.declared.values.ValType.TheVariants.{I32}
use Rattle.wa_types.specs.Accesses.{AccessRow, load_row, store_row}
use Rattle.wa_types.specs.Syntax.{Basic, nop, drop, select, const, num, global_get, global_set, load, store, memory_size, memory_grow, memory_copy, memory_fill, Plain, basic, local_get, local_set, local_tee, br}
use Rattle.wa_types.specs.Syntax.{br_if, br_table, return, unreachable, call, call_indirect, FuncType}
use Rattle.wa_types.specs.Pruned.{is_last}
use Rattle.wa_types.specs.Rules.{number, above_all}
use Rattle.wa_types.specs.declared.rules.Rule.TheVariants.{UnknownLabel, StackTypes, Alignment, ConstantGlobal}
use Rattle.wa_types.specs.Typing.{GlobalType, Around, Sig, moves, leaves, lacks, late, listed, sig, basic_sig, jump, may_jump, jumps, all_there, all_alike, calls, calls_at, gets, sets, tees}
use Rattle.wa_types.specs.Typing.{gets_global, sets_global, accesses, loads, stores, with_memory, Takes}

-- a rule that operands can't mend is at most that on operands, and one that is asked behind them is above it
abbrev pub Lawful : Sig → Type 0
Lawful (lacks r) = number r ≤ number StackTypes
Lawful (late r ps rs) = (number StackTypes < number r) × (number r < above_all)
Lawful _ = Unit {0}

lawful_if : (b : Bool) (s t : Sig) → Lawful s → Lawful t → Lawful (if b then s else t)
lawful_if true s t h k = h
lawful_if false s t h k = k

lawful_jump : (o : Option (Option ValType)) → Lawful (jump o)
lawful_jump None = omega arith
lawful_jump (Some r) = tt

lawful_may_jump : (o : Option (Option ValType)) → Lawful (may_jump o)
lawful_may_jump None = omega arith
lawful_may_jump (Some r) = tt

lawful_jumps : (ls : List (Option ValType)) (labels : List ℕ) (o : Option (Option ValType)) → Lawful (jumps ls labels o)
lawful_jumps ls labels None = omega arith
lawful_jumps ls labels (Some r) =
    let label_lawful : Lawful (lacks UnknownLabel) = omega arith in
    let mismatch_lawful : Lawful (lacks StackTypes) = omega arith in
    lawful_if (all_there ls labels) (if all_alike ls r labels then leaves (I32 ∷ listed r) else lacks StackTypes) (lacks UnknownLabel)
    (lawful_if (all_alike ls r labels) (leaves (I32 ∷ listed r)) (lacks StackTypes) tt mismatch_lawful) label_lawful

lawful_calls : (o : Option FuncType) → Lawful (calls o)
lawful_calls None = omega arith
lawful_calls (Some t) = tt

lawful_calls_at : (b : Bool) (o : Option FuncType) → Lawful (calls_at b o)
lawful_calls_at b None = omega arith
lawful_calls_at false (Some t) = omega arith
lawful_calls_at true (Some t) = tt

lawful_gets : (o : Option ValType) → Lawful (gets o)
lawful_gets None = omega arith
lawful_gets (Some t) = tt

lawful_sets : (o : Option ValType) → Lawful (sets o)
lawful_sets None = omega arith
lawful_sets (Some t) = tt

lawful_tees : (o : Option ValType) → Lawful (tees o)
lawful_tees None = omega arith
lawful_tees (Some t) = tt

lawful_gets_global : (o : Option GlobalType) → Lawful (gets_global o)
lawful_gets_global None = omega arith
lawful_gets_global (Some g) = tt

constant_late : (number StackTypes < number ConstantGlobal) × (number ConstantGlobal < above_all)
constant_late = (omega arith, omega arith)

alignment_late : (number StackTypes < number Alignment) × (number Alignment < above_all)
alignment_late = (omega arith, omega arith)

lawful_sets_global : (o : Option GlobalType) → Lawful (sets_global o)
lawful_sets_global None = omega arith
lawful_sets_global (Some g) = lawful_if g.mutable (moves (g.ty ∷ []) []) (late ConstantGlobal (g.ty ∷ []) []) tt constant_late

lawful_accesses : (align : ℕ) (row : AccessRow) (ins outs : List ValType) → Lawful (accesses align row ins outs)
lawful_accesses align row ins outs = lawful_if (nat_le align row.natural) (moves ins outs) (late Alignment ins outs) tt alignment_late

lawful_loads : (b : Bool) (align : ℕ) (o : Option AccessRow) → Lawful (loads b align o)
lawful_loads false align o = omega arith
lawful_loads true align None = omega arith
lawful_loads true align (Some row) = lawful_accesses align row (I32 ∷ []) (row.ty ∷ [])

lawful_stores : (b : Bool) (align : ℕ) (o : Option AccessRow) → Lawful (stores b align o)
lawful_stores false align o = omega arith
lawful_stores true align None = omega arith
lawful_stores true align (Some row) = lawful_accesses align row (row.ty ∷ I32 ∷ []) []

lawful_with_memory : (b : Bool) (ins outs : List ValType) → Lawful (with_memory b ins outs)
lawful_with_memory false ins outs = omega arith
lawful_with_memory true ins outs = tt

lawful_basic : (c : Around) (b : Basic) → Lawful (basic_sig c b)
lawful_basic c nop = tt
lawful_basic c drop = tt
lawful_basic c select = tt
lawful_basic c (const v) = tt
lawful_basic c (num op) = tt
lawful_basic c (global_get x) = lawful_gets_global (slice_get c.globals x)
lawful_basic c (global_set x) = lawful_sets_global (slice_get c.globals x)
lawful_basic c (load op align offset) = lawful_loads c.memory align (load_row op)
lawful_basic c (store op align offset) = lawful_stores c.memory align (store_row op)
lawful_basic c memory_size = lawful_with_memory c.memory [] (I32 ∷ [])
lawful_basic c memory_grow = lawful_with_memory c.memory (I32 ∷ []) (I32 ∷ [])
lawful_basic c memory_copy = lawful_with_memory c.memory (I32 ∷ I32 ∷ I32 ∷ []) []
lawful_basic c memory_fill = lawful_with_memory c.memory (I32 ∷ I32 ∷ I32 ∷ []) []

pub lawful : (c : Around) (ls : List (Option ValType)) (p : Plain) → Lawful (sig c ls p)
lawful c ls (basic b) = lawful_basic c b
lawful c ls (local_get x) = lawful_gets (slice_get c.locals x)
lawful c ls (local_set x) = lawful_sets (slice_get c.locals x)
lawful c ls (local_tee x) = lawful_tees (slice_get c.locals x)
lawful c ls (br l) = lawful_jump (slice_get ls l)
lawful c ls (br_if l) = lawful_may_jump (slice_get ls l)
lawful c ls (br_table labels l) = lawful_jumps ls labels (slice_get ls l)
lawful c ls return = tt
lawful c ls unreachable = tt
lawful c ls (call x) = lawful_calls (slice_get c.funcs x)
lawful c ls (call_indirect x) = lawful_calls_at c.table (slice_get c.types x)

-- control never goes on behind an instruction: whatever lies there
abbrev pub Ends : Sig → Type 0
Ends s = (ins mids outs : List ValType) → Takes s ins mids → Takes s ins outs

ends_if : (b : Bool) (s t : Sig) → Ends s → Ends t → Ends (if b then s else t)
ends_if true s t h k = h
ends_if false s t h k = k

ends_jump : (o : Option (Option ValType)) → Ends (jump o)
ends_jump None ins mids outs h = h
ends_jump (Some r) ins mids outs h = h

ends_jumps : (ls : List (Option ValType)) (labels : List ℕ) (o : Option (Option ValType)) → Ends (jumps ls labels o)
ends_jumps ls labels None = λ ins mids outs h. h
ends_jumps ls labels (Some r) =
    ends_if (all_there ls labels) (if all_alike ls r labels then leaves (I32 ∷ listed r) else lacks StackTypes) (lacks UnknownLabel)
    (ends_if (all_alike ls r labels) (leaves (I32 ∷ listed r)) (lacks StackTypes) (λ ins mids outs h. h) (λ ins mids outs h. h)) (λ ins mids outs h. h)

pub last_ends : (c : Around) (ls : List (Option ValType)) (p : Plain) → is_last p ≡ true → Ends (sig c ls p)
last_ends c ls (basic b) e = cc
last_ends c ls (local_get x) e = cc
last_ends c ls (local_set x) e = cc
last_ends c ls (local_tee x) e = cc
last_ends c ls (br l) e = ends_jump (slice_get ls l)
last_ends c ls (br_if l) e = cc
last_ends c ls (br_table labels l) e = ends_jumps ls labels (slice_get ls l)
last_ends c ls return e = λ ins mids outs h. h
last_ends c ls unreachable e = λ ins mids outs h. h
last_ends c ls (call x) e = cc
last_ends c ls (call_indirect x) e = cc
