-- What the builder gives for bytes that spell sections, and a module.
use Rattle.std.specs.Prelude.{◌≡◌, ◌⊎◌, ℕ, List, [], ◌∷◌, ◌++◌, map, Some, None, Result, Ok, Err}
use Rattle.std.specs.List.{AllZip}
use Rattle.wa_types.specs.declared.syntax.Import.{Import}
use Rattle.wa_types.specs.declared.syntax.Module.{Module as ModuleValue}
use Rattle.wa_types.specs.Binary.{Section, custom, types, imports, functions, tables, memories, globals, exports, start, elements, bodies, segments, section_id}
use Rattle.wa_types.specs.Syntax.{FuncType, Func, GlobalDef, Elem, Segment, Module}
use Rattle.wa_types.specs.View.{module_of}
use Rattle.wa_types.specs.Spells.{Number, Items, Sized, SectionOf}
use Rattle.wa_types.specs.Reading.{IsFuncType, IsImport, IsGlobal, IsElem, IsBody, IsSegment}
use Rattle.wasm_build.specs.declared.build_types.BuildFault.{BuildFault}
use Rattle.wasm_build.specs.declared.build_types.BuildFault.TheVariants.{Memory}
use Rattle.wasm_build.specs.declared.sections.Sections.{Sections}

-- What the sections up to a place hold.
pub record State : Type 0 where
  pub held : Module
  pub sorts : List ℕ
  pub last : ℕ

-- what sections that were read hold
abbrev pub state_of : Sections → State
state_of s = record { held = module_of s.module; sorts = s.sorts.items; last = s.last }

-- nothing is held before the first section
abbrev pub nothing_yet : State
nothing_yet = record {
  held = record {
    types = [];
    imports = [];
    funcs = [];
    tables = [];
    memories = [];
    globals = [];
    exports = [];
    start = None;
    elems = [];
    segments = [];
    customs = [];
  };
  sorts = [];
  last = 0;
}

-- a section adds what it holds
abbrev pub Adds : Section → State → State → Type 0
Adds (custom name bytes) p q =
    q ≡ record p { held = record p.held { customs = p.held.customs ++ (record { after = p.last; name = name; bytes = bytes }) ∷ [] } }
Adds (types ts) p q =
    (xs : List FuncType) × AllZip IsFuncType ts xs × (q ≡ record p { held = record p.held { types = p.held.types ++ xs }; last = 1 })
Adds (imports is) p q =
    (xs : List Import) × AllZip IsImport is xs × (q ≡ record p { held = record p.held { imports = p.held.imports ++ xs }; last = 2 })
Adds (globals gs) p q =
    (xs : List GlobalDef) × AllZip IsGlobal gs xs × (q ≡ record p { held = record p.held { globals = p.held.globals ++ xs }; last = 6 })
Adds (elements es) p q =
    (xs : List Elem) × AllZip IsElem es xs × (q ≡ record p { held = record p.held { elems = p.held.elems ++ xs }; last = 9 })
Adds (segments ss) p q =
    (xs : List Segment) × AllZip IsSegment ss xs × (q ≡ record p { held = record p.held { segments = p.held.segments ++ xs }; last = 11 })
Adds (tables xs) p q = q ≡ record p { held = record p.held { tables = p.held.tables ++ xs }; last = 4 }
Adds (memories xs) p q = q ≡ record p { held = record p.held { memories = p.held.memories ++ xs }; last = 5 }
Adds (exports xs) p q = q ≡ record p { held = record p.held { exports = p.held.exports ++ xs }; last = 7 }
Adds (functions xs) p q = q ≡ record p { sorts = p.sorts ++ xs; last = 3 }
Adds (start x) p q = q ≡ record p { held = record p.held { start = Some x }; last = 8 }
Adds (bodies bs) p q =
    (fs : List Func) × AllZip IsBody bs fs × (map (λ (f : Func). f.sort) fs ≡ p.sorts) × (q ≡ record p { held = record p.held { funcs = p.held.funcs ++ fs }; last = 10 })

-- so do several
abbrev pub AddsAll : List Section → State → State → Type 0
AddsAll [] p q = p ≡ q
AddsAll (s ∷ ss) p q = (r : State) × Adds s p r × AddsAll ss r q

-- the start section, from its size on
abbrev pub SpelledStart : (before after : State) → ℕ → List ℕ → Type 0
SpelledStart p q at bytes = (x : ℕ) × (q ≡ record p { held = record p.held { start = Some x }; last = 8 }) × Sized (Number x) at bytes

-- a custom section or the start section: none has several entries
abbrev pub SpelledSingle : (before after : State) → ℕ → List ℕ → Type 0
SpelledSingle p q at bytes = (s : Section) × ((section_id s ≡ 0) ⊎ (section_id s ≡ 8)) × Adds s p q × SectionOf s at bytes

-- sections one behind another
abbrev pub SpelledSections : (before after : State) → ℕ → List ℕ → Type 0
SpelledSections p q at bytes = (ss : List Section) × AddsAll ss p q × Items SectionOf ss at bytes

-- that module, or want of memory
abbrev pub GivesModule : Result ModuleValue BuildFault → Module → Type 0
GivesModule (Ok r) m = module_of r ≡ m
GivesModule (Err e) m = e ≡ Memory
