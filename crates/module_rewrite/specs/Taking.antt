-- Functions of a module that a sink takes as they are emitted, one by one.
use Rattle.std.specs.Prelude.{◌≡◌, ◌≤◌, ℕ, List, drop, Bool, true, Some, slice_get, Result, Ok, Err}
use Rattle.wa_types.specs.Frames.{Count}
use Rattle.wa_types.specs.Modules.{defined_at, func_imports}
use Rattle.wa_types.specs.Pausing.{Settings, is_told}
use Rattle.wa_types.specs.Syntax.{Func, Module}
use Rattle.flatten.specs.Whole.{NonePasses, FirstPasses}
use Rattle.flatten.specs.declared.fault.FlatFault.{FlatFault}
use Rattle.flatten.specs.declared.fault.FlatFault.TheVariants.{Memory, Locals}
use Rattle.emitted_form.specs.EmittedAs.{AreEmitted, IsWritten}

-- Each function that stays, and each that is written, is one that a sink takes.
pub record CanTake (m : Module) (s : Settings) (which : List Bool) (fits : Func → Type 0) : Type 0 where
  pub kept : (i : ℕ) (f : Func) → slice_get m.funcs i ≡ Some f → fits f
  pub written : (x : ℕ) (f g : Func) → defined_at m x ≡ Some f → is_told (slice_get which x) ≡ true → Count m f ≤ 50000 → IsWritten m s which x f g → fits g

-- All functions were taken as they are emitted, and none that is told has too many locals.
pub record AllTaken (m : Module) (s : Settings) (which : List Bool) (holds : List Func → Type 0) : Type 0 where
  pub funcs : List Func
  pub emitted : AreEmitted m s which (func_imports m) m.funcs funcs
  pub held : holds funcs
  pub few : NonePasses m (drop (func_imports m) which) m.funcs

-- want of memory, or the first function that is told and has too many locals
abbrev pub IsRefused : Module → (which : List Bool) → FlatFault → Type 0
IsRefused m which Memory = Unit {0}
IsRefused m which (Locals func count) = FirstPasses m func count (func_imports m) (drop (func_imports m) which) m.funcs

-- All are taken, or they are refused.
abbrev pub Takes : {A : Type 0} → Module → Settings → (which : List Bool) → (List Func → Type 0) → Result A FlatFault → Type 0
Takes m s which holds (Ok u) = AllTaken m s which holds
Takes m s which holds (Err e) = IsRefused m which e
