-- What instantiation makes of the parts of a module.
use Rattle.std.specs.Prelude.{ℕ, List, map, replicate, Option, None}
use Rattle.wa_types.specs.declared.values.Value.{Value}
use Rattle.wa_types.specs.declared.syntax.Elem.{Elem}
use Rattle.wa_types.specs.declared.syntax.Segment.{Segment}
use Rattle.wa_types.specs.declared.syntax.GlobalDef.{GlobalDef}
use Rattle.wa_types.specs.Modules.{all_tables}
use Rattle.wa_types.specs.Syntax.{Module}
use Rattle.wa_types.specs.View.{elem_of, segment_of, global_of}
use Rattle.wa_model.specs.Instantiation.{Piece, constant_value, byte_piece, elem_piece, least_of, put_pieces}
use Rattle.wa_model.specs.Store.{Store}

-- what an element segment writes
abbrev pub elem_piece_of : List Value → Elem → Piece (Option ℕ)
elem_piece_of globals e = elem_piece globals (elem_of e)

-- what a data segment writes
abbrev pub byte_piece_of : List Value → Segment → Piece ℕ
byte_piece_of globals s = byte_piece globals (segment_of s)

-- the value of a defined global
abbrev pub value_of_global : List Value → GlobalDef → Value
value_of_global imports g = constant_value imports (global_of g).init

-- the table of an instance with these globals: of declared minimum, with all element segments written
abbrev pub table_with : Module → List Value → List (Option ℕ)
table_with m globals = put_pieces (replicate (least_of (all_tables m)) None) (map (elem_piece globals) m.elems)

-- a store with these globals and this memory, and the table of instantiation
abbrev pub restored_store : Module → (globals : List Value) → (memory : List ℕ) → Store
restored_store m globals memory = record { globals = globals; memory = memory; table = table_with m globals }
