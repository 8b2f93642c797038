-- What flattening answers.
use Rattle.std.specs.Prelude.{◌≡◌, ◌⊎◌, ℕ, suc, ◌+◌, length, ◌<◌, ◌≤◌, List, [], ◌∷◌, drop, Bool, true, false, Result, Ok, Err}
use Rattle.wa_types.specs.Syntax.{Func, Module}
use Rattle.wa_types.specs.Frames.{Count, SlotPairs}
use Rattle.wa_types.specs.Modules.{func_imports, locals_of}
use Rattle.run_theory.specs.FlatView.{flat_func_of, flat_module_of}
use Rattle.wa_model.specs.declared.flat.FlatModule.{FlatModule as FlatModuleValue}
use Rattle.flat_laws.specs.Flatten.{flattened}
use Rattle.flat_laws.specs.FlatModule.{flats_of}
use Rattle.flatten.specs.declared.whole.Flattened.{Flattened}
use Rattle.flatten.specs.declared.fault.FlatFault.{FlatFault}
use Rattle.flatten.specs.declared.fault.FlatFault.TheVariants.{Memory, Locals}

-- What flattening answers of one function, of this index.
abbrev pub FlatAnswer : Module → ℕ → Func → Result Flattened FlatFault → Type 0
FlatAnswer m x f (Ok v) =
    (flat_func_of v.func ≡ flattened m x f) × (Count m f ≤ 50000)
    × (v.first_slot ≡ length (locals_of m f)) × (v.first_result ≡ length (locals_of m f) + length (SlotPairs m f))
FlatAnswer m x f (Err Memory) = Unit {0}
FlatAnswer m x f (Err (Locals func count)) = (func ≡ x) × (count ≡ Count m f) × (50000 < Count m f)

-- No function that is told has too many locals.
abbrev pub NonePasses : Module → List Bool → List Func → Type 0
NonePasses m [] fs = Unit {0}
NonePasses m (w ∷ which) [] = Unit {0}
NonePasses m (true ∷ which) (f ∷ fs) = (Count m f ≤ 50000) × NonePasses m which fs
NonePasses m (false ∷ which) (f ∷ fs) = NonePasses m which fs

-- The first function that is told and has too many locals has this index and so many.
abbrev pub FirstPasses : Module → (func count x : ℕ) → List Bool → List Func → Type 0
FirstPasses m func count x [] fs = ⊥
FirstPasses m func count x (w ∷ which) [] = ⊥
FirstPasses m func count x (true ∷ which) (f ∷ fs) =
    ((func ≡ x) × (count ≡ Count m f) × (50000 < Count m f)) ⊎ ((Count m f ≤ 50000) × FirstPasses m func count (suc x) which fs)
FirstPasses m func count x (false ∷ which) (f ∷ fs) = FirstPasses m func count (suc x) which fs

-- What flattening answers of a module and those functions that are told, imports first.
abbrev pub Flattens : Module → List Bool → Result FlatModuleValue FlatFault → Type 0
Flattens m which (Ok v) = ((flat_module_of v).funcs ≡ (flats_of m which).funcs) × NonePasses m (drop (func_imports m) which) m.funcs
Flattens m which (Err Memory) = Unit {0}
Flattens m which (Err (Locals func count)) = FirstPasses m func count (func_imports m) (drop (func_imports m) which) m.funcs
