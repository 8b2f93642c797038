-- What the values of the program are, as plain data: the vectors' memory is left out.
use Rattle.std.specs.Prelude.{List, [], ◌∷◌, map}
use Rattle.wa_types.specs.declared.instrs.Instr.{Instr, Row_of-Instr, end_of-Instr, more_of-Instr}
use Rattle.wa_types.specs.declared.instrs.Instr.TheVariants.{Unreachable, Nop, Drop, Select, Return, MemorySize, MemoryGrow, MemoryCopy, MemoryFill, Const, Num, Br, BrIf, BrTable, Call, CallIndirect, LocalGet}
use Rattle.wa_types.specs.declared.instrs.Instr.TheVariants.{LocalSet, LocalTee, GlobalGet, GlobalSet, Load, Store, Block', Loop', If'}
use Rattle.wa_types.specs.declared.syntax.FuncType.{FuncType as FuncTypeValue}
use Rattle.wa_types.specs.declared.syntax.Func.{Func as FuncValue}
use Rattle.wa_types.specs.declared.syntax.GlobalDef.{GlobalDef as GlobalDefValue}
use Rattle.wa_types.specs.declared.syntax.Elem.{Elem as ElemValue}
use Rattle.wa_types.specs.declared.syntax.Segment.{Segment as SegmentValue}
use Rattle.wa_types.specs.declared.syntax.Custom.{Custom as CustomValue}
use Rattle.wa_types.specs.declared.syntax.Module.{Module as ModuleValue}
use Rattle.wa_types.specs.Syntax.{nop, drop, select, const, num, global_get, global_set, load, store, memory_size, memory_grow, memory_copy, memory_fill, basic, local_get, local_set, local_tee, br, br_if, br_table}
use Rattle.wa_types.specs.Syntax.{return, unreachable, call, call_indirect, a_block, a_loop, Code, done, plain, nest, branch, FuncType, Func, GlobalDef, Elem, Segment, Custom, Module}

unfoldable mutual
  -- an instruction in front of the rest of its sequence
  pub in_front : Instr → Code → Code
  in_front Unreachable rest = plain unreachable rest
  in_front Nop rest = plain (basic nop) rest
  in_front Drop rest = plain (basic drop) rest
  in_front Select rest = plain (basic select) rest
  in_front Return rest = plain return rest
  in_front MemorySize rest = plain (basic memory_size) rest
  in_front MemoryGrow rest = plain (basic memory_grow) rest
  in_front MemoryCopy rest = plain (basic memory_copy) rest
  in_front MemoryFill rest = plain (basic memory_fill) rest
  in_front (Const v) rest = plain (basic (const v)) rest
  in_front (Num op) rest = plain (basic (num op)) rest
  in_front (Br l) rest = plain (br l) rest
  in_front (BrIf l) rest = plain (br_if l) rest
  in_front (BrTable ls l) rest = plain (br_table ls.items l) rest
  in_front (Call x) rest = plain (call x) rest
  in_front (CallIndirect x) rest = plain (call_indirect x) rest
  in_front (LocalGet x) rest = plain (local_get x) rest
  in_front (LocalSet x) rest = plain (local_set x) rest
  in_front (LocalTee x) rest = plain (local_tee x) rest
  in_front (GlobalGet x) rest = plain (basic (global_get x)) rest
  in_front (GlobalSet x) rest = plain (basic (global_set x)) rest
  in_front (Load op align offset) rest = plain (basic (load op align offset)) rest
  in_front (Store op align offset) rest = plain (basic (store op align offset)) rest
  in_front (Block' r s body) rest = nest a_block r (row_code body) rest
  in_front (Loop' r s body) rest = nest a_loop r (row_code body) rest
  in_front (If' r s a t b) rest = branch r (row_code a) (row_code b) rest

  -- the instructions of a construct's body
  pub row_code : {m : _} → Row_of-Instr m → Code
  row_code end_of-Instr = done
  row_code (more_of-Instr i rest) = in_front i (row_code rest)

-- a list of instructions, and then code
unfoldable pub onto : List Instr → Code → Code
onto [] rest = rest
onto (i ∷ is) rest = in_front i (onto is rest)

-- a list of instructions
unfoldable pub code : List Instr → Code
code is = onto is done

-- a function type
abbrev pub func_type_of : FuncTypeValue → FuncType
func_type_of t = record { params = t.params.items; results = t.results.items }

-- a defined function
abbrev pub func_of : FuncValue → Func
func_of f = record { sort = f.sort; locals = f.locals.items; body = code f.body.items }

-- a defined global
abbrev pub global_of : GlobalDefValue → GlobalDef
global_of g = record { ty = g.ty; mutable = g.mutable; init = code g.init.items }

-- an element segment
abbrev pub elem_of : ElemValue → Elem
elem_of e = record { table = e.table; offset = code e.offset.items; funcs = e.funcs.items }

-- a data segment
abbrev pub segment_of : SegmentValue → Segment
segment_of s = record { memory = s.memory; offset = code s.offset.items; bytes = s.bytes.items }

-- a custom section
abbrev pub custom_of : CustomValue → Custom
custom_of c = record { after = c.after; name = c.name; bytes = c.bytes.items }

-- a module
abbrev pub module_of : ModuleValue → Module
module_of m = record {
  types = map func_type_of m.types.items;
  imports = m.imports.items;
  funcs = map func_of m.funcs.items;
  tables = m.tables.items;
  memories = m.memories.items;
  globals = map global_of m.globals.items;
  exports = m.exports.items;
  start = m.start;
  elems = map elem_of m.elems.items;
  segments = map segment_of m.segments.items;
  customs = map custom_of m.customs.items;
}
