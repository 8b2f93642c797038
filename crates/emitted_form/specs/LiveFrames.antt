-- What frames of the policy `live` keep of flat locals, and what comes back of them.
use Rattle.std.specs.Prelude.{◌≡◌, ℕ, ◌++◌, List, [], ◌∷◌, length, map, take, Some, true, slice_get, Bool}
use Rattle.wa_types.specs.Frames.{Place, Saved}
use Rattle.wa_types.specs.Modules.{defined_at, locals_of}
use Rattle.wa_types.specs.Pausing.{is_told, save_live}
use Rattle.wa_types.specs.Syntax.{Func, Module}
use Rattle.wa_types.specs.declared.values.Value.{Value}
use Rattle.wa_model.specs.Configuration.{Activation, place_of}
use Rattle.run_theory.specs.Fitting.{types_of}
use Rattle.wa_model.specs.Store.{value_at}
use Rattle.run_laws.proofs.SpotSteps.{CallersAtSpots, WaitsAtSpot}
use Rattle.flat_runs.specs.Beside.{Callers, Locals}
use Rattle.frame_laws.specs.FrameMemory.{IsKept}
use Rattle.frame_laws.specs.Layout.{FrameField, kept}
use Rattle.guard_runs.specs.Joined.{CallFrame}
use Rattle.guard_runs.specs.Returned.{AllSameFlat}
use Rattle.emitted_form.specs.SameLive.{SameLocals, SameUnder}

-- the frame of the call at this place keeps each local that the policy saves there
abbrev pub fields_at : Module → Func → (place : ℕ) → List FrameField
fields_at m f place = map (λ (p : Place). kept p.local p.ty) (Saved m save_live f place)

-- These flat locals are own locals that differ from an activation's only where no path from there reads first, and slots that hold
-- its operands.
pub record ComesBack (m : Module) (f : Func) (a : Activation) (locals : List Value) : Type 0 where
  pub own : List Value
  pub extra : List Value
  pub split : locals ≡ own ++ extra
  pub live : SameLocals a.code a.labels a.locals own
  pub held : Locals m f own extra (a.taken ++ a.operands)

-- So are flat locals of an activation that waits behind a call, wherever they agree in what its frame keeps, and the own ones have
-- their types.
abbrev pub LiveComesBack : Type 0
LiveComesBack =
    (m : Module) (f : Func) (g : ℕ) (a : Activation) (extra locals : List Value) → defined_at m a.func ≡ Some f → WaitsAtSpot m g a → Locals m f a.locals extra (a.taken ++ a.operands)
    → length locals ≡ length (a.locals ++ extra) → types_of (take (length a.locals) locals) ≡ locals_of m f
    → ((y : ℕ) → IsKept y (fields_at m f (place_of (Some f) a.code a.labels)) → value_at locals y ≡ value_at (a.locals ++ extra) y) → ComesBack m f a locals

-- ---- a whole stack

-- each function is told
abbrev pub AllTold : List Bool → List Activation → Type 0
AllTold which [] = Unit {0}
AllTold which (a ∷ us) = (is_told (slice_get which a.func) ≡ true) × AllTold which us

-- Of each activation, the flat one that waited and the one that came back: the frame of its call is that of the policy, and the own
-- locals that came back have their types.
abbrev pub AllFramed : Module → (lay : Activation → CallFrame) → (us vs cs : List Activation) → Type 0
AllFramed m lay [] [] [] = Unit {0}
AllFramed m lay (a ∷ us) (v ∷ vs) (c ∷ cs) =
    ((f : Func) → defined_at m a.func ≡ Some f
    → ((lay v).layout.fields ≡ fields_at m f (place_of (Some f) a.code a.labels)) × (types_of (take (length a.locals) c.locals) ≡ locals_of m f)) × AllFramed m lay us vs cs
AllFramed m lay _ _ _ = ⊥

-- This flat stack stands beside a stack that differs from the suspended one only in locals that no path reads first.
pub record StackComesBack (m : Module) (which : List Bool) (g : ℕ) (us cs : List Activation) : Type 0 where
  pub chosen : List Activation
  pub live : SameUnder us chosen
  pub beside : Callers m which g chosen cs

-- So does one that came back, in which what frames keep is as it was.
abbrev pub LiveStacksComeBack : Type 0
LiveStacksComeBack =
    (m : Module) (which : List Bool) (lay : Activation → CallFrame) (g : ℕ) (us vs cs : List Activation) → Callers m which g us vs → CallersAtSpots m g us → AllTold which us
    → AllSameFlat lay vs cs → AllFramed m lay us vs cs → StackComesBack m which g us cs
