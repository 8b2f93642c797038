-- What reading answers: the module that the bytes spell, within the bounds and without a float, or why not.
use Rattle.std.specs.Prelude.{◌≡◌, ℕ, suc, ◌<◌, ◌≤◌, List, [], length, Some, None}
use Rattle.wa_types.specs.declared.bounds.LimitKind.TheVariants.{File, Functions, Parameters, Body, Locals, Output, Script, Programs}
use Rattle.wa_types.specs.Binary.{Section}
use Rattle.wa_types.specs.Spells.{Spells}
use Rattle.wa_types.specs.Begun.{FaultAt}
use Rattle.wa_types.specs.Marks.{floats, opens, IsLeast, function_count, parameter_counts, body_sizes, local_counts, first_above}
use Rattle.wa_types.specs.Reading.{IsModule}
use Rattle.wa_types.specs.ModuleBounds.{ModuleBounds}
use Rattle.wa_types.specs.Syntax.{Module}
use Rattle.wasm_reader.specs.declared.read_fault.ReadFault.{ReadFault}
use Rattle.wasm_reader.specs.declared.read_fault.ReadFault.TheVariants.{Memory, Malformed, Float, Deep, Limit}

-- the bytes, not too many, spell these sections
pub record IsFile (b : ModuleBounds) (bytes : List ℕ) (ss : List Section) : Type 0 where
  pub few : length bytes ≤ b.file
  pub spells : Spells bytes ss

-- .. without a float
pub record HasNoFloat (b : ModuleBounds) (bytes : List ℕ) (ss : List Section) : Type 0 where
  pub file : IsFile b bytes ss
  pub whole_numbers : floats ss ≡ []

-- .. of so many functions at most
pub record HasFewFunctions (b : ModuleBounds) (bytes : List ℕ) (ss : List Section) : Type 0 where
  pub before : HasNoFloat b bytes ss
  pub functions : function_count ss ≤ b.functions

-- .. with so many parameters of a type at most
pub record HasFewParameters (b : ModuleBounds) (bytes : List ℕ) (ss : List Section) : Type 0 where
  pub before : HasFewFunctions b bytes ss
  pub parameters : first_above b.parameters (parameter_counts ss) ≡ None

-- .. with so many bytes of a body at most
pub record HasShortBodies (b : ModuleBounds) (bytes : List ℕ) (ss : List Section) : Type 0 where
  pub before : HasFewParameters b bytes ss
  pub bodies : first_above b.body (body_sizes ss) ≡ None

-- .. with so many levels of constructs at most
pub record IsShallow (b : ModuleBounds) (bytes : List ℕ) (ss : List Section) : Type 0 where
  pub before : HasShortBodies b bytes ss
  pub nesting : opens b.nesting ss ≡ []

-- .. with so many parameters and locals of a function at most
pub record HasFewLocals (b : ModuleBounds) (bytes : List ℕ) (ss : List Section) : Type 0 where
  pub before : IsShallow b bytes ss
  pub locals : first_above b.locals (local_counts ss) ≡ None

-- The bytes spell this module, which has no float and passes no limit.
pub record IsAccepted (b : ModuleBounds) (bytes : List ℕ) (m : Module) : Type 0 where
  pub sections : List Section
  pub within : HasFewLocals b bytes sections
  pub is_module : IsModule sections m

-- Why no module is read. Each cause stands behind those before it: the file's limit, malformed bytes, a float,
-- functions, parameters, bodies, nesting, locals. The number found is the first one past its limit.
abbrev pub IsRefused : ModuleBounds → List ℕ → ReadFault → Type 0
IsRefused b bytes Memory = Unit {0}
IsRefused b bytes (Malformed at) = (length bytes ≤ b.file) × FaultAt bytes at
IsRefused b bytes (Float at) = (ss : List Section) × IsFile b bytes ss × IsLeast at (floats ss)
IsRefused b bytes (Deep at) = (ss : List Section) × HasShortBodies b bytes ss × IsLeast at (opens b.nesting ss)
IsRefused b bytes (Limit File n) = (b.file < length bytes) × (n ≡ suc b.file)
IsRefused b bytes (Limit Functions n) = (ss : List Section) × HasNoFloat b bytes ss × (n ≡ function_count ss) × (b.functions < n)
IsRefused b bytes (Limit Parameters n) = (ss : List Section) × HasFewFunctions b bytes ss × (first_above b.parameters (parameter_counts ss) ≡ Some n)
IsRefused b bytes (Limit Body n) = (ss : List Section) × HasFewParameters b bytes ss × (first_above b.body (body_sizes ss) ≡ Some n)
IsRefused b bytes (Limit Locals n) = (ss : List Section) × IsShallow b bytes ss × (first_above b.locals (local_counts ss) ≡ Some n)
IsRefused b bytes (Limit Output n) = ⊥
IsRefused b bytes (Limit Script n) = ⊥
IsRefused b bytes (Limit Programs n) = ⊥
