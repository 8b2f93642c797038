-- The size rule, and which plain data is a module: what numbers may be.
use Rattle.std.specs.Prelude.{ℕ, zero, suc, ◌+◌, ◌<◌, ◌^◌, List, [], ◌∷◌, ◌++◌, map, length, flat_map, sum_by, count_by, Option, Some, None, Bool, true, false, IsTrue, IsUtf8, All}
use Rattle.wa_types.specs.declared.values.Value.{Value}
use Rattle.wa_types.specs.declared.values.Value.TheVariants.{I32 as value_32, I64 as value_64}
use Rattle.wa_types.specs.declared.syntax.Run.{Run}
use Rattle.wa_types.specs.declared.syntax.ImportKind.{ImportKind}
use Rattle.wa_types.specs.declared.syntax.ImportKind.TheVariants.{Func as a_func_import, Table as a_table_import, Memory as a_memory_import, Global as a_global_import}
use Rattle.wa_types.specs.declared.syntax.Import.{Import}
use Rattle.wa_types.specs.declared.syntax.Limits.{Limits}
use Rattle.wa_types.specs.declared.syntax.Export.{Export}
use Rattle.wa_types.specs.Syntax.{Basic, const, global_get, global_set, load, store, Plain, basic, local_get, local_set, local_tee, br, br_if, br_table, return, unreachable, call}
use Rattle.wa_types.specs.Syntax.{call_indirect, Code, done, plain, nest, branch, FuncType, Func, GlobalDef, Elem, Segment, Custom, Module}
use Rattle.wa_types.specs.Opcodes.{is_load_op, is_store_op}

-- the parameters of the type with this index (2.5.2); none where there is no such type
abbrev pub params_of_type : List FuncType → ℕ → ℕ
params_of_type [] sort = 0
params_of_type (t ∷ ts) zero = length t.params
params_of_type (t ∷ ts) (suc sort) = params_of_type ts sort

-- the index of the type of an imported function (2.5.11)
abbrev pub kind_sorts : ImportKind → List ℕ
kind_sorts (a_func_import sort) = sort ∷ []
kind_sorts _ = []

-- the type indices of all functions, imported ones first (2.5.3)
abbrev pub all_sorts : Module → List ℕ
all_sorts m = flat_map (λ (i : Import). kind_sorts i.kind) m.imports ++ map (λ (f : Func). f.sort) m.funcs

-- an import of a function (2.5.11)
abbrev pub is_func : ImportKind → Bool
is_func (a_func_import sort) = true
is_func _ = false

-- an import of a table (2.5.11)
abbrev pub is_table : ImportKind → Bool
is_table (a_table_import l) = true
is_table _ = false

-- an import of a memory (2.5.11)
abbrev pub is_memory : ImportKind → Bool
is_memory (a_memory_import l) = true
is_memory _ = false

-- an import of a global (2.5.11)
abbrev pub is_global : ImportKind → Bool
is_global (a_global_import t mutable) = true
is_global _ = false

-- the number of imports of a kind (2.5.11)
abbrev pub imported : (ImportKind → Bool) → Module → ℕ
imported is_one m = count_by (λ (i : Import). is_one i.kind) m.imports

-- the parameters of the function whose type index stands at this place (2.5.3)
abbrev pub params_at_index : List FuncType → List ℕ → ℕ → ℕ
params_at_index ts [] x = 0
params_at_index ts (sort ∷ sorts) zero = params_of_type ts sort
params_at_index ts (sort ∷ sorts) (suc x) = params_at_index ts sorts x

-- branch labels count in a br_table alone, the last one with the others
abbrev pub label_count : Plain → ℕ
label_count (br_table targets last) = suc (length targets)
label_count _ = 0

-- the parameters that a call takes; none where its index is out of range
abbrev pub call_params : Module → Plain → ℕ
call_params m (call x) = params_at_index m.types (all_sorts m) x
call_params m (call_indirect sort) = params_of_type m.types sort
call_params m _ = 0

-- an else is there where its arm isn't empty
abbrev pub else_count : Code → ℕ
else_count done = 0
else_count _ = 1

-- the instructions, elses and branch labels of code, and the ends of its constructs
unfoldable pub code_items : Code → ℕ
code_items done = 0
code_items (plain p rest) = 1 + label_count p + code_items rest
code_items (nest s r body rest) = 2 + code_items body + code_items rest
code_items (branch r a b rest) = 2 + else_count b + code_items a + code_items b + code_items rest

-- the parameters of all its calls
unfoldable pub code_params : Module → Code → ℕ
code_params m done = 0
code_params m (plain p rest) = call_params m p + code_params m rest
code_params m (nest s r body rest) = code_params m body + code_params m rest
code_params m (branch r a b rest) = code_params m a + code_params m b + code_params m rest

-- each list of branch labels has fewer items than this
abbrev pub plain_lists : (lists : ℕ) → Plain → Type 0
plain_lists lists (br_table targets last) = length targets < lists
plain_lists lists _ = Unit {0}

-- the same of all code
abbrev pub code_lists : (lists : ℕ) → Code → Type 0
code_lists lists done = Unit {0}
code_lists lists (plain p rest) = plain_lists lists p × code_lists lists rest
code_lists lists (nest s r body rest) = code_lists lists body × code_lists lists rest
code_lists lists (branch r a b rest) = code_lists lists a × code_lists lists b × code_lists lists rest

-- The size rule of a body alone: its instructions, elses, ends and branch labels, its own end with them.
pub record BodySizes (lists items : ℕ) (body : Code) : Type 0 where
  pub labels : code_lists lists body
  pub total : code_items body + 1 < items

-- The size rule of a function: with the parameters of its calls, its parameters and its locals.
pub record FuncSizes (lists items : ℕ) (m : Module) (f : Func) : Type 0 where
  pub runs : length f.locals < lists
  pub labels : code_lists lists f.body
  pub total : code_items f.body + 1 + code_params m f.body + params_of_type m.types f.sort + sum_by (λ (r : Run). r.count) f.locals < items

-- the size rule of a function type
pub record TypeSizes (lists : ℕ) (t : FuncType) : Type 0 where
  pub params : length t.params < lists
  pub results : length t.results < lists

-- the size rule of an element segment
pub record ElemSizes (lists : ℕ) (e : Elem) : Type 0 where
  pub funcs : length e.funcs < lists
  pub offset : code_lists lists e.offset

-- the size rule of a data segment
pub record SegmentSizes (lists : ℕ) (s : Segment) : Type 0 where
  pub bytes : length s.bytes < lists
  pub offset : code_lists lists s.offset

-- The size rule: each list whose items a u32 numbers has fewer than `lists` of them, imported ones included, and
-- what a body holds numbers less than `items`.
pub record MeetsSizes (lists items : ℕ) (m : Module) : Type 0 where
  pub types : length m.types < lists
  pub each_type : All (TypeSizes lists) m.types
  pub imports : length m.imports < lists
  pub funcs : imported is_func m + length m.funcs < lists
  pub tables : imported is_table m + length m.tables < lists
  pub memories : imported is_memory m + length m.memories < lists
  pub globals : imported is_global m + length m.globals < lists
  pub exports : length m.exports < lists
  pub elems : length m.elems < lists
  pub segments : length m.segments < lists
  pub each_func : All (FuncSizes lists items m) m.funcs
  pub each_global : All (λ (g : GlobalDef). code_lists lists g.init) m.globals
  pub each_elem : All (ElemSizes lists) m.elems
  pub each_segment : All (SegmentSizes lists) m.segments

-- The size rule of each call that takes a module.
abbrev pub SizeRule : Module → Type 0
SizeRule m = MeetsSizes (2 ^ 32) (2 ^ 56) m

-- The stricter one of the calls that rewrite a module.
abbrev pub StrictSizeRule : Module → Type 0
StrictSizeRule m = MeetsSizes (2 ^ 31) (2 ^ 31) m

-- Numbers of so many bits (2.2.2).
abbrev pub value_fits : Value → Type 0
value_fits (value_32 n) = n < 2 ^ 32
value_fits (value_64 n) = n < 2 ^ 64

-- Indices, alignments and offsets have 32 bits, constants their type's; loads and stores have opcodes of their kind, on integers (2.4).
abbrev pub BasicFits : Basic → Type 0
BasicFits (const v) = value_fits v
BasicFits (global_get x) = x < 2 ^ 32
BasicFits (global_set x) = x < 2 ^ 32
BasicFits (load op align offset) = IsTrue (is_load_op op) × (align < 2 ^ 32) × (offset < 2 ^ 32)
BasicFits (store op align offset) = IsTrue (is_store_op op) × (align < 2 ^ 32) × (offset < 2 ^ 32)
BasicFits _ = Unit {0}

-- the same of an instruction that holds no other (2.4)
abbrev pub PlainFits : Plain → Type 0
PlainFits (basic b) = BasicFits b
PlainFits (local_get x) = x < 2 ^ 32
PlainFits (local_set x) = x < 2 ^ 32
PlainFits (local_tee x) = x < 2 ^ 32
PlainFits (br l) = l < 2 ^ 32
PlainFits (br_if l) = l < 2 ^ 32
PlainFits (br_table targets last) = All (λ l. l < 2 ^ 32) targets × (last < 2 ^ 32)
PlainFits return = Unit {0}
PlainFits unreachable = Unit {0}
PlainFits (call x) = x < 2 ^ 32
PlainFits (call_indirect x) = x < 2 ^ 32

-- the same of all code (2.4.6)
abbrev pub CodeFits : Code → Type 0
CodeFits done = Unit {0}
CodeFits (plain p rest) = PlainFits p × CodeFits rest
CodeFits (nest s r body rest) = CodeFits body × CodeFits rest
CodeFits (branch r a b rest) = CodeFits a × CodeFits b × CodeFits rest

-- a maximum, where there is one (2.3.4)
abbrev pub MaxFits : Option ℕ → Type 0
MaxFits None = Unit {0}
MaxFits (Some high) = high < 2 ^ 32

-- limits, numbers of 32 bits (2.3.4)
abbrev pub LimitsFit : Limits → Type 0
LimitsFit l = (l.min < 2 ^ 32) × MaxFits l.max

-- what is imported (2.5.11)
abbrev pub KindFits : ImportKind → Type 0
KindFits (a_func_import sort) = sort < 2 ^ 32
KindFits (a_table_import l) = LimitsFit l
KindFits (a_memory_import l) = LimitsFit l
KindFits (a_global_import t mutable) = Unit {0}

-- an import, its names in UTF-8 (2.5.11)
pub record ImportFits (i : Import) : Type 0 where
  pub module_name : IsUtf8 i.module
  pub base : IsUtf8 i.base
  pub kind : KindFits i.kind

-- a defined function (2.5.3)
pub record FuncFits (f : Func) : Type 0 where
  pub sort : f.sort < 2 ^ 32
  pub locals : All (λ (r : Run). r.count < 2 ^ 32) f.locals
  pub body : CodeFits f.body

-- an export, its name in UTF-8 (2.5.10)
pub record ExportFits (e : Export) : Type 0 where
  pub name : IsUtf8 e.name
  pub index : e.index < 2 ^ 32

-- an element segment (2.5.7)
pub record ElemFits (e : Elem) : Type 0 where
  pub table : e.table < 2 ^ 32
  pub offset : CodeFits e.offset
  pub funcs : All (λ x. x < 2 ^ 32) e.funcs

-- a data segment (2.5.8)
pub record SegmentFits (s : Segment) : Type 0 where
  pub memory : s.memory < 2 ^ 32
  pub offset : CodeFits s.offset
  pub bytes : All (λ b. b < 2 ^ 8) s.bytes

-- a custom section, its name in UTF-8 (5.5.3)
pub record CustomFits (c : Custom) : Type 0 where
  pub after : c.after < 2 ^ 8
  pub name : IsUtf8 c.name
  pub bytes : All (λ b. b < 2 ^ 8) c.bytes

-- the start function, where there is one (2.5.9)
abbrev pub StartFits : Option ℕ → Type 0
StartFits None = Unit {0}
StartFits (Some x) = x < 2 ^ 32

-- Plain data is a module where each number is one of its type, names are UTF-8, and loads and stores have opcodes of their kind (2.2 to 2.5).
pub record WellFormed (m : Module) : Type 0 where
  pub imports : All ImportFits m.imports
  pub funcs : All FuncFits m.funcs
  pub tables : All LimitsFit m.tables
  pub memories : All LimitsFit m.memories
  pub globals : All (λ (g : GlobalDef). CodeFits g.init) m.globals
  pub exports : All ExportFits m.exports
  pub start : StartFits m.start
  pub elems : All ElemFits m.elems
  pub segments : All SegmentFits m.segments
  pub customs : All CustomFits m.customs
