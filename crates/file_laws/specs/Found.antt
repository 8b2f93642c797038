-- What a file's sections are judged by.
use Rattle.std.specs.Prelude.{◌≡◌, ℕ, List, [], Option, Some, None}
use Rattle.wa_types.specs.Binary.{Section}
use Rattle.wa_types.specs.Marks.{floats, opens, IsLeast, function_count, parameter_counts, body_sizes, first_above}
use Rattle.wa_types.specs.ModuleBounds.{ModuleBounds}
use Rattle.file_laws.specs.declared.marks.Marks.{Marks}

-- the least of these offsets, or none where there is none
abbrev pub IsFirst : Option ℕ → List ℕ → Type 0
IsFirst None ks = ks ≡ []
IsFirst (Some k) ks = IsLeast k ks

-- what the sections are judged by, within these bounds
pub record MarksOf (b : ModuleBounds) (ss : List Section) (m : Marks) : Type 0 where
  pub float : IsFirst m.float (floats ss)
  pub functions : m.functions ≡ function_count ss
  pub parameters : m.parameters ≡ first_above b.parameters (parameter_counts ss)
  pub body : m.body ≡ first_above b.body (body_sizes ss)
  pub deep : IsFirst m.deep (opens b.nesting ss)
