-- Small modules and what is to be said of them: at least one for each rule.
use Rattle.std.specs.Prelude.{ℕ, List, [], ◌∷◌, Some, None, true, false}
use Rattle.wa_types.specs.declared.values.ValType.{ValType}
use Rattle.wa_types.specs.declared.values.ValType.TheVariants.{I32, I64}
use Rattle.wa_types.specs.declared.values.Value.TheVariants.{I32 as value_32, I64 as value_64}
use Rattle.wa_types.specs.declared.operators.NumOp.TheVariants.{I32Add}
use Rattle.wa_types.specs.declared.syntax.Limits.{Limits}
use Rattle.wa_types.specs.declared.syntax.Import.{Import}
use Rattle.wa_types.specs.declared.syntax.ImportKind.{ImportKind}
use Rattle.wa_types.specs.declared.syntax.ImportKind.TheVariants.{Func as a_func_import, Memory as a_memory_import, Global as a_global_import}
use Rattle.wa_types.specs.declared.syntax.Export.{Export}
use Rattle.wa_types.specs.declared.syntax.Space.{Space}
use Rattle.wa_types.specs.declared.syntax.Space.TheVariants.{Func as a_func, Table as a_table, Global as a_global}
use Rattle.wa_types.specs.Syntax.{drop, select, const, num, global_get, global_set, load, store, memory_size, basic, local_get, br, br_if, br_table, unreachable, call, call_indirect, a_block, a_loop, Code, done, plain, nest, branch, FuncType, GlobalDef, Elem, Segment, Module}
use Rattle.validate_bodies.specs.Running.{Answer, valid, invalid}
use Rattle.validate_bodies.specs.BodyVerdicts.{Says}

-- a function type
abbrev pub type_of : List ValType → List ValType → FuncType
type_of params results = record { params = params; results = results }

-- a module of these types, with one function of type 0 and this body
abbrev pub one_func : List FuncType → Code → Module
one_func types body = record {
  types = types;
  imports = [];
  funcs = record { sort = 0; locals = []; body = body } ∷ [];
  tables = [];
  memories = [];
  globals = [];
  exports = [];
  start = None;
  elems = [];
  segments = [];
  customs = [];
}

-- the type [] -> []
abbrev pub nothing : List FuncType
nothing = type_of [] [] ∷ []

-- the type [] -> [i32]
abbrev pub a_number : List FuncType
a_number = type_of [] (I32 ∷ []) ∷ []

-- the type [i32 i64] -> []
abbrev pub two_numbers : List FuncType
two_numbers = type_of (I32 ∷ I64 ∷ []) [] ∷ []

-- a module with one function of this body
abbrev pub body : Code → Module
body code = one_func nothing code

-- an i32 in front of code
abbrev pub one : Code → Code
one rest = plain (basic (const (value_32 1))) rest

-- an i64 in front of code
abbrev pub long : Code → Code
long rest = plain (basic (const (value_64 1))) rest

-- a `drop` in front of code
abbrev pub gone : Code → Code
gone rest = plain (basic drop) rest

-- limits of one page or entry at least
abbrev pub a_page : Limits
a_page = record { min = 1; max = None }

-- a constant global
abbrev pub constant : GlobalDef
constant = record { ty = I32; mutable = false; init = one done }

-- an export of the first of a space
abbrev pub exporting : Space → Export
exporting space = record { name = 97 ∷ []; space = space; index = 0 }

-- an import
abbrev pub importing : ImportKind → Import
importing kind = record { «module» = []; base = []; kind = kind }

-- a module with a table and this element segment
abbrev pub with_elem : Elem → Module
with_elem elem = record (body done) { tables = a_page ∷ []; elems = elem ∷ [] }

-- an element segment without functions at this offset
abbrev pub elem_at : Code → Elem
elem_at offset = record { table = 0; offset = offset; funcs = [] }

-- a data segment without bytes at this offset
abbrev pub segment_at : Code → Segment
segment_at offset = record { memory = 0; offset = offset; bytes = [] }

-- What is to be said of a module.
pub record Case : Type 0 where
  pub of : Module
  pub says : Answer

-- a module and what is to be said of it
abbrev pub case : Module → Answer → Case
case m a = record { of = m; says = a }

-- a rule outside the bodies
abbrev pub outside : ℕ → Answer
outside rule = invalid None rule 0

-- a rule in the body of function 0
abbrev pub inside : ℕ → ℕ → Answer
inside rule at = invalid (Some 0) rule at

-- The rules outside the bodies.
abbrev pub module_cases : List Case
module_cases =
    case (one_func [] done) (outside 1)
    ∷ case (record (body done) { start = Some 1 }) (outside 2)
    ∷ case (with_elem (record (elem_at (one done)) { funcs = 1 ∷ [] })) (outside 2)
    ∷ case (record (body done) { exports = exporting a_table ∷ [] }) (outside 3)
    ∷ case (record (body done) { segments = segment_at (one done) ∷ [] }) (outside 4)
    ∷ case (record (body done) { exports = exporting a_global ∷ [] }) (outside 5)
    ∷ case (record (body done) { globals = record constant { init = plain (basic (global_get 1)) done } ∷ [] }) (outside 5)
    ∷ case (with_elem (elem_at (plain (basic (global_get 0)) done))) (outside 5)
    ∷ case (record (body done) { memories = record { min = 2; max = Some 1 } ∷ [] }) (outside 11)
    ∷ case (record (body done) { memories = record { min = 65537; max = None } ∷ [] }) (outside 11)
    ∷ case (record (body done) { imports = importing (a_memory_import (record { min = 65537; max = None })) ∷ [] }) (outside 11)
    ∷ case (record (body done) { memories = a_page ∷ a_page ∷ [] }) (outside 12)
    ∷ case (record (body done) { imports = importing (a_memory_import a_page) ∷ []; memories = a_page ∷ [] }) (outside 12)
    ∷ case (record (body done) { globals = record constant { init = long done } ∷ [] }) (outside 13)
    ∷ case (record (body done) { globals = record constant { init = one (gone (one done)) } ∷ [] }) (outside 13)
    ∷ case (record (body done) { globals = constant ∷ record constant { init = plain (basic (global_get 0)) done } ∷ [] }) (outside 13)
    ∷ case (record (body done) { imports = importing (a_global_import I32 true) ∷ []; globals = record constant { init = plain (basic (global_get 0)) done } ∷ [] }) (outside 13)
    ∷ case (with_elem (elem_at (long done))) (outside 13)
    ∷ case (record (body done) { exports = exporting a_func ∷ exporting a_func ∷ [] }) (outside 14)
    ∷ case (record (one_func (type_of (I32 ∷ []) [] ∷ []) done) { start = Some 0 }) (outside 15)
    ∷ case (record (one_func a_number (one done)) { start = Some 0 }) (outside 15)
    ∷ case (one_func (type_of [] (I32 ∷ I32 ∷ []) ∷ []) (one (one done))) (outside 16)
    -- of several rules the smallest counts, and all of them before the bodies
    ∷ case (record (one_func (type_of [] (I32 ∷ I32 ∷ []) ∷ []) done) { memories = a_page ∷ a_page ∷ [] }) (outside 12)
    ∷ []

-- The rules in bodies.
abbrev pub body_cases : List Case
body_cases =
    case (record (body (one (plain (call_indirect 1) done))) { tables = a_page ∷ [] }) (inside 1 1)
    ∷ case (body (one (plain (call_indirect 1) done))) (inside 1 1)
    ∷ case (body (plain (call 1) done)) (inside 2 0)
    ∷ case (body (one (plain (call_indirect 0) done))) (inside 3 1)
    ∷ case (body (plain (basic memory_size) (gone done))) (inside 4 0)
    ∷ case (body (plain (basic (load 0x28 9 0)) done)) (inside 4 0)
    ∷ case (body (plain (basic (global_get 0)) (gone done))) (inside 5 0)
    ∷ case (body (plain (local_get 0) (gone done))) (inside 6 0)
    ∷ case (body (nest a_block None (plain (br 2) done) done)) (inside 7 1)
    -- `i32.add` without operands, and an end without its result
    ∷ case (body (plain (basic (num I32Add)) done)) (inside 8 0)
    ∷ case (one_func a_number done) (inside 8 0)
    -- labels of a `br_table` that differ
    ∷ case (one_func a_number (one (nest a_block None (one (one (plain (br_table (0 ∷ []) 1) done))) done))) (inside 8 4)
    ∷ case (record (body (one (plain (basic (load 0x28 3 0)) (gone done)))) { memories = a_page ∷ [] }) (inside 9 1)
    -- without its address, the operands come first
    ∷ case (record (body (plain (basic (load 0x28 3 0)) (gone done))) { memories = a_page ∷ [] }) (inside 8 0)
    ∷ case (record (body (one (plain (basic (global_set 0)) done))) { globals = constant ∷ [] }) (inside 10 1)
    -- an `else` is counted where its arm isn't empty; the end of an empty arm is that of the `if`
    ∷ case (one_func a_number (one (branch (Some I32) (one done) (long done) done))) (inside 8 5)
    ∷ case (one_func a_number (one (branch (Some I32) (long done) (one done) done))) (inside 8 3)
    ∷ case (one_func a_number (one (branch (Some I32) (one done) done done))) (inside 8 3)
    -- what is dead still has types
    ∷ case (body (plain unreachable (long (plain (basic (num I32Add)) (gone done))))) (inside 8 2)
    -- the function's number counts imported functions
    ∷ case (record (body (plain (basic (num I32Add)) done)) { imports = importing (a_func_import 0) ∷ [] }) (invalid (Some 1) 8 0)
    ∷ []

-- Valid modules.
abbrev pub valid_cases : List Case
valid_cases =
    case (body done) valid
    ∷ case (body (plain unreachable (plain (basic select) (gone done)))) valid
    ∷ case (body (plain (br 0) (plain (basic (num I32Add)) (gone done)))) valid
    ∷ case (one_func a_number (one (nest a_loop None (one (plain (br_if 0) done)) done))) valid
    -- a branch to a loop takes no value, whatever the loop's result
    ∷ case (one_func a_number (nest a_loop (Some I32) (one (plain (br_if 0) (one done))) done)) valid
    -- the last parameter lies topmost, below it the others, above it the index of a `call_indirect`
    ∷ case (one_func two_numbers (one (long (plain (call 0) done)))) valid
    ∷ case (record (one_func two_numbers (one (long (one (plain (call_indirect 0) done))))) { tables = a_page ∷ [] }) valid
    -- `i64.store`: the value above its address
    ∷ case (record (body (one (long (plain (basic (store 0x37 3 0)) done)))) { memories = a_page ∷ [] }) valid
    -- a constant global that is imported may be got in an initialiser, and in an offset one that is defined
    ∷ case (record (body done) { imports = importing (a_global_import I32 false) ∷ []; globals = record constant { init = plain (basic (global_get 0)) done } ∷ [] }) valid
    ∷ case (record (body done) { memories = a_page ∷ []; globals = constant ∷ []; segments = segment_at (plain (basic (global_get 0)) done) ∷ [] }) valid
    ∷ []

-- All of these say so.
abbrev pub AllSay : List Case → Type 0
AllSay [] = Unit {0}
AllSay (c ∷ cs) = Says c.of c.says × AllSay cs
