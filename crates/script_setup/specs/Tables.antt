-- What is looked up by name: the types of imported globals, and the values that lines give.
use Rattle.std.specs.Prelude.{String, ◌≡◌, ℕ, List, Option, Some, None, Bool, false, not, ◌&&◌, ◌||◌, if◌then◌else◌}
use Rattle.std.specs.Option.{unwrap_or}
use Rattle.std.specs.Borrow.{Bor}
use Rattle.std.specs.declared.alloc.Global.{Global}
use Rattle.std.specs.BTreeMap.{BTreeMap, get_by, get_by_text}
use Rattle.std.specs.Cmp.Lexicographic.{slice_cmp}
use Rattle.std.specs.Ordering.{nat_cmp}
use Rattle.wa_types.specs.declared.values.ValType.{ValType}
use Rattle.wa_types.specs.declared.values.ValType.TheVariants.{I32, I64}
use Rattle.wa_types.specs.declared.values.Value.{Value}
use Rattle.wa_types.specs.declared.values.Value.TheVariants as V
use Rattle.wa_types.specs.declared.syntax.Import.{Import}
use Rattle.wa_types.specs.Encoding.{same_type}
use Rattle.wa_types.specs.Typing.{GlobalType}
use Rattle.script_model.specs.Script.{GlobalText}
use Rattle.script_setup.specs.declared.globals.Types.{Types}
use Rattle.script_setup.specs.SetUpRules.{imports_global, last_value}

-- no global was found
abbrev pub no_types : Types
no_types = record { narrow = false; wide = false }

-- the types under a name
abbrev pub types_in : BTreeMap (String Global) Types → List ℕ → Types
types_in found name = unwrap_or (get_by_text found name) no_types

-- one type more
abbrev pub with_type : ValType → Types → Types
with_type ty t = record { narrow = t.narrow || same_type ty I32; wide = t.wide || same_type ty I64 }

-- one more imported global, where the import is one and has the name
abbrev pub with_global : Option GlobalType → (is_named : Bool) → Types → Types
with_global None is_named t = t
with_global (Some g) is_named t = if is_named then with_type g.ty t else t

-- the types of the imported globals of a name
abbrev pub types_of : List Import → List ℕ → Types
types_of imports name = record { narrow = imports_global imports name I32; wide = imports_global imports name I64 }

-- a value of a type that all imported globals of its name have
abbrev pub is_lawful : Types → Value → Bool
is_lawful t (V.I32 n) = t.narrow && not t.wide
is_lawful t (V.I64 n) = t.wide && not t.narrow

-- they are the types of the imported globals, by their names
abbrev pub TellsTypes : BTreeMap (String Global) Types → List Import → Type 0
TellsTypes found imports = (name : List ℕ) → types_in found name ≡ types_of imports name

-- the value under a name
abbrev pub value_in : BTreeMap (Bor (List ℕ)) Value → List ℕ → Option Value
value_in values name = get_by (λ (k : Bor (List ℕ)). slice_cmp nat_cmp name k.now) values

-- they are the values that lines give, by their names
abbrev pub TellsValues : BTreeMap (Bor (List ℕ)) Value → List GlobalText → Type 0
TellsValues values globals = (name : List ℕ) → value_in values name ≡ last_value name globals
