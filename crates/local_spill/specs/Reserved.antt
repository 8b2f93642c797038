-- Which modules are reserved, and at what.
use Rattle.std.specs.Prelude.{ℕ, List, codes, Option, Some, None, Bool, position}
use Rattle.std.specs.Str.{bytes_eq}
use Rattle.std.specs.List.{list_any}
use Rattle.wa_types.specs.declared.syntax.Import.{Import}
use Rattle.wa_types.specs.declared.syntax.Export.{Export}
use Rattle.wa_types.specs.Syntax.{Module}
use Rattle.wa_types.specs.Runtime.{runtime_names}
use Rattle.local_spill.specs.declared.reserving.ReservedAt.{ReservedAt}
use Rattle.local_spill.specs.declared.reserving.ReservedAt.TheVariants.{Import as at_import, Export as at_export}

-- one of the five names of the exports
abbrev pub is_runtime_name : List ℕ → Bool
is_runtime_name name = list_any (λ own. bytes_eq name own) runtime_names

-- the first import from the module `asyncify`
abbrev pub reserved_import : List Import → Option ℕ
reserved_import imports = position (λ (i : Import). bytes_eq i.module (codes "asyncify")) imports

-- the first export under one of the five names
abbrev pub reserved_export : List Export → Option ℕ
reserved_export exports = position (λ (e : Export). is_runtime_name e.name) exports

-- an import, else an export, where there is one
abbrev pub first_reserved : Option ℕ → Option ℕ → Option ReservedAt
first_reserved (Some import) export = Some (at_import import)
first_reserved None (Some export) = Some (at_export export)
first_reserved None None = None

-- The first import from the module `asyncify`, else the first export under one of the five names.
abbrev pub reserved_at : Module → Option ReservedAt
reserved_at m = first_reserved (reserved_import m.imports) (reserved_export m.exports)
