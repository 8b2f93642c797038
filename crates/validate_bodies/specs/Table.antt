-- Instructions that hold no other, and what the validator's table says of them.
use Rattle.std.specs.Prelude.{List, ◌∷◌, reverse, Option, Some, None, Bool, if◌then◌else◌}
use Rattle.wa_types.specs.declared.instrs.Instr.{Instr}
use Rattle.wa_types.specs.declared.instrs.Instr.TheVariants.{Unreachable, Nop, Drop, Select, Return, MemorySize, MemoryGrow, MemoryCopy, MemoryFill, Const, Num, Br, BrIf, BrTable, Call, CallIndirect, LocalGet, LocalSet, LocalTee, GlobalGet, GlobalSet, Load, Store}
use Rattle.wa_types.specs.declared.values.ValType.{ValType}
use Rattle.wa_types.specs.declared.values.ValType.TheVariants.{I32}
use Rattle.wa_types.specs.Syntax.{nop, drop, select, const, num, global_get, global_set, load, store, memory_size, memory_grow, memory_copy, memory_fill, Plain, basic, local_get, local_set, local_tee, br, br_if, br_table, return, unreachable, call, call_indirect}
use Rattle.wa_types.specs.Typing.{Sig, moves, leaves, drops, selects, lacks, late}
use Rattle.validate_bodies.specs.declared.table.Asks as D
use Rattle.validate_bodies.specs.declared.table.Asks.TheVariants as A

-- an instruction that holds no other
unfoldable pub plain_of : Instr → Option Plain
plain_of Unreachable = Some unreachable
plain_of Nop = Some (basic nop)
plain_of Drop = Some (basic drop)
plain_of Select = Some (basic select)
plain_of Return = Some return
plain_of MemorySize = Some (basic memory_size)
plain_of MemoryGrow = Some (basic memory_grow)
plain_of MemoryCopy = Some (basic memory_copy)
plain_of MemoryFill = Some (basic memory_fill)
plain_of (Const v) = Some (basic (const v))
plain_of (Num op) = Some (basic (num op))
plain_of (Br l) = Some (br l)
plain_of (BrIf l) = Some (br_if l)
plain_of (BrTable ls l) = Some (br_table ls.items l)
plain_of (Call x) = Some (call x)
plain_of (CallIndirect x) = Some (call_indirect x)
plain_of (LocalGet x) = Some (local_get x)
plain_of (LocalSet x) = Some (local_set x)
plain_of (LocalTee x) = Some (local_tee x)
plain_of (GlobalGet x) = Some (basic (global_get x))
plain_of (GlobalSet x) = Some (basic (global_set x))
plain_of (Load op align offset) = Some (basic (load op align offset))
plain_of (Store op align offset) = Some (basic (store op align offset))
plain_of _ = None

-- what is said of an instruction that holds no other, where it is one
abbrev pub Says : Option Plain → (Plain → Type 0) → Type 0
Says None P = Unit {0}
Says (Some p) P = P p

-- an i32 on top of the others, where one is tested
abbrev pub tested : Bool → List ValType → List ValType
tested b ts = if b then I32 ∷ ts else ts

-- what an instruction asks, the topmost operand first
abbrev pub sig_of : D.Asks → Sig
sig_of (A.Moves test ins outs) = moves (tested test (reverse ins.now)) (reverse outs.now)
sig_of (A.Leaves test ins) = leaves (tested test (reverse ins.now))
sig_of A.Drops = drops
sig_of A.Selects = selects
sig_of (A.Lacks r) = lacks r
sig_of (A.Late r ins outs) = late r (reverse ins.now) (reverse outs.now)
