-- The module that a file holds, or why it holds none.
use Rattle.std.specs.Prelude.{◌≡◌, ◌<◌, ◌^◌, ℕ, List, All, Option, Some}
use Rattle.vault_port.specs.Files.{Files}
use Rattle.vault_port.specs.Told.{WhereTold}
use Rattle.wa_types.specs.ModuleBounds.{ModuleBounds}
use Rattle.wa_types.specs.Syntax.{Module}
use Rattle.wasm_reader.specs.Answers.{IsAccepted, IsRefused}
use Rattle.wasm_reader.specs.declared.fault.ModuleFault.{ModuleFault}
use Rattle.wasm_reader.specs.declared.fault.ModuleFault.TheVariants.{Memory, Read, Refused}

-- where the files are told, this one is there and holds these bytes
abbrev pub Holds : Option Files → (name bytes : List ℕ) → Type 0
Holds files name bytes = WhereTold files (λ all. all name ≡ Some bytes)

-- The file holds bytes that spell this module, without a float and within the bounds.
pub record HoldsModule (b : ModuleBounds) (files : Option Files) (name : List ℕ) (m : Module) : Type 0 where
  pub bytes : List ℕ
  pub holds : Holds files name bytes
  pub are_bytes : All (λ x. x < 2 ^ 8) bytes
  pub accepted : IsAccepted b bytes m

-- where it could be read, the file holds bytes that are refused for this
abbrev pub IsToldFault : ModuleBounds → Option Files → (name : List ℕ) → ModuleFault → Type 0
IsToldFault b files name Memory = Unit {0}
IsToldFault b files name Read = Unit {0}
IsToldFault b files name (Refused fault) = (bytes : List ℕ) × Holds files name bytes × IsRefused b bytes fault
