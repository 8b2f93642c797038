-- The goals of the grammar as the code keeps them.
use Rattle.std.specs.Prelude.{Option, Some, None, List, [], ◌∷◌, ◌++◌, map, reverse}
use Rattle.wa_types.specs.Begun.{Goal, exact, sections, size, head, until, rest, entries, count, number, name, value_type, block_type, mutable, import_kind, space, limits, signed, bulk_number, name_bytes, float_bytes, code, EntryKind, some_types, some_imports, some_functions, some_tables, some_memories, some_globals, some_exports, some_elements, some_bodies, some_segments, some_value_types, some_runs, some_indices, some_bytes}
use Rattle.wasm_grammar.specs.declared.goals.EntryKind.{EntryKind as Counted}
use Rattle.wasm_grammar.specs.declared.goals.EntryKind.TheVariants.{Types, Imports, Functions, Tables, Memories, Globals, Exports, Elements, Bodies, Segments, ValueTypes, Runs, Indices, Bytes}
use Rattle.wasm_grammar.specs.declared.goals.Goal.{Goal as Wanted}
use Rattle.wasm_grammar.specs.declared.goals.Goal.TheVariants.{Exact, Sections, Size, Head, Until, Rest, Entries, Count, Number, Name, ValueType, BlockType, Mutable, ImportKind, Space, Limits, Signed32, Signed64, BulkNumber, NameBytes, Float32, Float64, Code}

-- what is counted
abbrev pub kind_of : Counted → EntryKind
kind_of Types = some_types
kind_of Imports = some_imports
kind_of Functions = some_functions
kind_of Tables = some_tables
kind_of Memories = some_memories
kind_of Globals = some_globals
kind_of Exports = some_exports
kind_of Elements = some_elements
kind_of Bodies = some_bodies
kind_of Segments = some_segments
kind_of ValueTypes = some_value_types
kind_of Runs = some_runs
kind_of Indices = some_indices
kind_of Bytes = some_bytes

-- the goal of the grammar
abbrev pub goal_of : Wanted → Goal
goal_of (Exact byte) = exact byte
goal_of (Sections last owed) = sections last owed
goal_of (Size id last owed) = size id last owed
goal_of (Head id last owed end) = head id end last owed
goal_of (Until end) = until end
goal_of (Rest end) = rest end
goal_of (Entries k n) = entries (kind_of k) n
goal_of (Count k) = count (kind_of k)
goal_of Number = number
goal_of Name = name
goal_of ValueType = value_type
goal_of BlockType = block_type
goal_of Mutable = mutable
goal_of ImportKind = import_kind
goal_of Space = space
goal_of Limits = limits
goal_of Signed32 = signed 32
goal_of Signed64 = signed 64
goal_of BulkNumber = bulk_number
goal_of (NameBytes n) = name_bytes n.count
goal_of Float32 = float_bytes 4
goal_of Float64 = float_bytes 8
goal_of (Code first_arm) = code first_arm

-- a goal, or none
abbrev pub list_of : Option Wanted → List Goal
list_of None = []
list_of (Some g) = goal_of g ∷ []

-- up to four goals
abbrev pub Few : Type 0
Few = Option Wanted × Option Wanted × Option Wanted × Option Wanted

abbrev pub few_of : Few → List Goal
few_of t = list_of t.0 ++ list_of t.1 ++ list_of t.2 ++ list_of t.3

-- up to four goals, where the item was right
abbrev pub new_of : Option Few → Option (List Goal)
new_of None = None
new_of (Some t) = Some (few_of t)

-- the goals on a stack, whose top is last
abbrev pub stack_of : List Wanted → List Goal
stack_of items = map goal_of (reverse items)
