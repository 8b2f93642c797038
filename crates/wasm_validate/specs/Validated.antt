-- What validation says of functions and of a module.
use Rattle.std.specs.Prelude.{◌≡◌, ℕ, Some, Result, Ok, Err}
use Rattle.wa_types.specs.declared.syntax.Module.{Module as ModuleValue}
use Rattle.wa_types.specs.Validity.{Valid}
use Rattle.wa_types.specs.View.{module_of}
use Rattle.wa_types.specs.FirstFault.{FirstFault}
use Rattle.wasm_validate.specs.declared.valid.ValidateFault.{ValidateFault}
use Rattle.wasm_validate.specs.declared.valid.ValidateFault.TheVariants.{Memory, Invalid}
use Rattle.validate_bodies.specs.Running.{Verdict, fine, fault, Answer, valid, invalid}

-- what is said of the function of this number is the verdict on its body
abbrev pub Tells : {A : Type 0} → Result A ValidateFault → ℕ → Verdict → Type 0
Tells (Ok u) x v = v ≡ fine
Tells (Err Memory) x v = Unit {0}
Tells (Err (Invalid func rule at)) x v = (func ≡ Some x) × (v ≡ fault rule at)

-- the same of a module
abbrev pub Answers : {A : Type 0} → Result A ValidateFault → Answer → Type 0
Answers (Ok u) a = a ≡ valid
Answers (Err Memory) a = Unit {0}
Answers (Err (Invalid func rule at)) a = a ≡ invalid func rule at

-- The module is valid, and is what was given; or this is its first fault.
abbrev pub Validates : ModuleValue → Result ModuleValue ValidateFault → Type 0
Validates m (Ok v) = (v ≡ m) × Valid (module_of m)
Validates m (Err Memory) = Unit {0}
Validates m (Err (Invalid func rule at)) = FirstFault (module_of m) func rule at
