-- What the builder gives for bytes that spell an entry of a section that is one vector.
use Rattle.std.specs.Prelude.{◌≡◌, ℕ, List, [], ◌∷◌, ◌++◌, Option, Some, None}
use Rattle.wa_types.specs.declared.syntax.Limits.{Limits}
use Rattle.wa_types.specs.declared.syntax.Import.{Import}
use Rattle.wa_types.specs.declared.syntax.Export.{Export}
use Rattle.wa_types.specs.Syntax.{FuncType, GlobalDef, Elem, Segment}
use Rattle.wa_types.specs.Spells.{Number, FunctionType, ImportOf, TableType, LimitsOf, GlobalOf, ExportOf, ElementOf, SegmentOf}
use Rattle.wa_types.specs.Reading.{IsFuncType, IsImport, IsGlobal, IsElem, IsSegment}
use Rattle.wasm_build.specs.declared.sections.Entries.{Entries}
use Rattle.wasm_build.specs.declared.sections.Entries.TheVariants.{Types, Imports, Functions, Tables, Memories, Globals, Exports, Elements, Segments}
use Rattle.wasm_build.specs.Builds.{SpelledAs}
use Rattle.wasm_build.specs.BuildsModule.{State}

-- the id of their section (5.5.2)
abbrev pub id_of : Entries → ℕ
id_of Types = 1
id_of Imports = 2
id_of Functions = 3
id_of Tables = 4
id_of Memories = 5
id_of Globals = 6
id_of Exports = 7
id_of Elements = 9
id_of Segments = 11

-- they are those of the section with this id, if it is one vector
abbrev pub AreOf : Option Entries → ℕ → Type 0
AreOf (Some k) id = id ≡ id_of k
AreOf None id = (k : Entries) → id ≡ id_of k → ⊥

-- the section with this id is neither custom nor the start section, nor the code section
pub record IsOther (id : ℕ) : Type 0 where
  pub not_custom : id ≡ 0 → ⊥
  pub not_start : id ≡ 8 → ⊥
  pub not_code : id ≡ 10 → ⊥

-- an entry as plain data
abbrev pub Item : Entries → Type 0
Item Types = FuncType
Item Imports = Import
Item Functions = ℕ
Item Tables = Limits
Item Memories = Limits
Item Globals = GlobalDef
Item Exports = Export
Item Elements = Elem
Item Segments = Segment

-- an entry in bytes (5.5.4 to 5.5.14)
abbrev pub SpelledItem : (k : Entries) → Item k → ℕ → List ℕ → Type 0
SpelledItem Types = SpelledAs FunctionType IsFuncType
SpelledItem Imports = SpelledAs ImportOf IsImport
SpelledItem Functions = Number
SpelledItem Tables = TableType
SpelledItem Memories = LimitsOf
SpelledItem Globals = SpelledAs GlobalOf IsGlobal
SpelledItem Exports = ExportOf
SpelledItem Elements = SpelledAs ElementOf IsElem
SpelledItem Segments = SpelledAs SegmentOf IsSegment

-- with these entries too
abbrev pub with_items : (k : Entries) → State → List (Item k) → State
with_items Types p xs = record p { held = record p.held { types = p.held.types ++ xs } }
with_items Imports p xs = record p { held = record p.held { imports = p.held.imports ++ xs } }
with_items Functions p xs = record p { sorts = p.sorts ++ xs }
with_items Tables p xs = record p { held = record p.held { tables = p.held.tables ++ xs } }
with_items Memories p xs = record p { held = record p.held { memories = p.held.memories ++ xs } }
with_items Globals p xs = record p { held = record p.held { globals = p.held.globals ++ xs } }
with_items Exports p xs = record p { held = record p.held { exports = p.held.exports ++ xs } }
with_items Elements p xs = record p { held = record p.held { elems = p.held.elems ++ xs } }
with_items Segments p xs = record p { held = record p.held { segments = p.held.segments ++ xs } }

-- one entry
abbrev pub SpelledEntry : (k : Entries) → (before after : State) → ℕ → List ℕ → Type 0
SpelledEntry k p q at bytes = (x : Item k) × (q ≡ with_items k p (x ∷ [])) × SpelledItem k x at bytes
