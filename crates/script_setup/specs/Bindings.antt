-- The devices to which a program's lines bind its imports.
use Rattle.std.specs.Prelude.{ℕ, if◌then◌else◌, List, [], ◌∷◌, Option, Some, None}
use Rattle.std.specs.Option.{option_or}
use Rattle.std.specs.List.{filter_map}
use Rattle.std.specs.Str.{bytes_eq}
use Rattle.wa_types.specs.declared.syntax.Import.{Import}
use Rattle.wa_types.specs.Modules.{imported_func}
use Rattle.wa_types.specs.Pausing.{joined_name}
use Rattle.wa_types.specs.Syntax.{Module}
use Rattle.script_model.specs.Script.{BindText}

-- the device that the last line of a name tells
abbrev pub last_device : (name : List ℕ) → List BindText → Option (List ℕ)
last_device name [] = None
last_device name (b ∷ bs) = option_or (last_device name bs) (if bytes_eq b.import name then Some b.device else None)

-- of an import that is a function
abbrev pub where_func : Option ℕ → Option (List ℕ) → Option (Option (List ℕ))
where_func None device = None
where_func (Some sort) device = Some device

-- for each function import the device of the last line of its joined name, where there is one
abbrev pub bound_imports : List Import → List BindText → List (Option (List ℕ))
bound_imports imports binds = filter_map (λ (i : Import). where_func (imported_func i.kind) (last_device (joined_name i) binds)) imports

-- the same of a module
abbrev pub bindings : Module → List BindText → List (Option (List ℕ))
bindings p binds = bound_imports p.imports binds
