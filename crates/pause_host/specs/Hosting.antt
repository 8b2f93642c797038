-- What a host may rely on as it goes on with a program.
use Rattle.std.specs.Prelude.{◌≡◌, ◌<◌, ℕ, List, length, true, nat_lt}
use Rattle.wa_types.specs.declared.values.ValType.{ValType}
use Rattle.wa_types.specs.Syntax.{Module}
use Rattle.wa_types.specs.Modules.{all_memories}
use Rattle.wa_model.specs.Store.{Store}
use Rattle.wa_model.specs.Configuration.{Activation}
use Rattle.wa_model.specs.Blocking as B
use Rattle.wa_model.specs.Protocol.{Held}
use Rattle.world_model.specs.World.{Program}
use Rattle.run_theory.specs.Fitting.{StoreFits}
use Rattle.run_laws.specs.FittingStates.{Callable, HeldFits}
use Rattle.interp.specs.Instance.{Waits, inside}
use Rattle.interp.specs.declared.turns.Turn.{Turn}
use Rattle.interp.specs.declared.turns.Turn.TheVariants.{Returned, Trapped, Waiting, StepsSpent}
use Rattle.host_laws.specs.Places.{Place}
use Rattle.pause_host.specs.declared.stages.Next.{Next}
use Rattle.pause_host.specs.declared.stages.Next.TheVariants as N
use Rattle.pause_host.specs.declared.stages.Setting.{Setting}
use Rattle.pause_host.specs.Holding.{HeldHolds, HoldsArea, PlaceHolds}
use Rattle.pause_host.specs.Views.{free_place}
use Rattle.pause_host.specs.Moves.{IsSetting, PlaceFits}

-- The setting and the code are those of some program of a world, and it stands at this place, where all code has its type, and holds
-- its area.
pub record HostsAt (x : Setting) (code : Module) (place : Program → Place) : Type 0 where
  pub program : Program
  pub setting : IsSetting program x
  pub code_is : code ≡ program.source
  pub fits : PlaceFits program (place program)
  pub holds : PlaceHolds program (place program)

-- The same where the run under the protocol stands here, by what is left.
pub record HostsIn (x : Setting) (code : Module) (held : Program → B.Left → Held) : Type 0 where
  pub program : Program
  pub left : B.Left
  pub setting : IsSetting program x
  pub code_is : code ≡ program.source
  pub fits : HeldFits program.source (held program left)
  pub holds : HeldHolds program.plan.area (held program left)

-- .. and by the stack that waits in the instance.
pub record HostsOver (x : Setting) (code : Module) (waits : Waits) (held : Program → B.Left → Activation → List Activation → Held) : Type 0 where
  pub here : Activation
  pub under : List Activation
  pub waits_is : waits ≡ inside here under
  pub hosts : HostsIn x code (λ w l. held w l here under)

-- An export may be called: it is there for arguments of these types, over a store with the area.
pub record MayCall (x : Setting) (code : Module) (s : Store) (func : ℕ) (types : List ValType) : Type 0 where
  pub program : Program
  pub setting : IsSetting program x
  pub code_is : code ≡ program.source
  pub fits : StoreFits program.source s
  pub callable : Callable program.source func types
  pub area : HoldsArea x.area s

-- the module has a memory
abbrev pub HasMemory : Module → Type 0
HasMemory code = nat_lt 0 (length (all_memories code)) ≡ true

-- ---- turns

-- what waits has called one of so many imports
abbrev pub CallsOne : (imports : ℕ) → Turn → Type 0
CallsOne imports (Returned value) = Unit {0}
CallsOne imports (Trapped trap) = Unit {0}
CallsOne imports (Waiting call) = call.import < imports
CallsOne imports StepsSpent = Unit {0}

-- .. and nothing has returned
abbrev pub StopsFirst : (imports : ℕ) → Turn → Type 0
StopsFirst imports (Returned value) = ⊥
StopsFirst imports (Trapped trap) = Unit {0}
StopsFirst imports (Waiting call) = call.import < imports
StopsFirst imports StepsSpent = Unit {0}

-- .. nor trapped: an import that is called from outside waits, or its call costs more than is left
abbrev pub AsksOnly : (imports : ℕ) → Turn → Type 0
AsksOnly imports (Returned value) = ⊥
AsksOnly imports (Trapped trap) = ⊥
AsksOnly imports (Waiting call) = call.import < imports
AsksOnly imports StepsSpent = Unit {0}

-- the start function has returned, and the next entry may be called; or it has called one of the imports, or stopped
abbrev pub StartRan : Setting → Module → B.Left → Turn → Store → Type 0
StartRan x code l (Returned value) s = HostsAt x code (λ w. free_place l s)
StartRan x code l (Trapped trap) s = Unit {0}
StartRan x code l (Waiting call) s = call.import < length x.imports.items
StartRan x code l StepsSpent s = Unit {0}

-- a call that comes is of one of the imports, over a memory with the area
abbrev pub MayAsk : Setting → Store → Next → Type 0
MayAsk x s (N.Told m) = Unit {0}
MayAsk x s (N.Calls task call) = (call.import < length x.imports.items) × HoldsArea x.area s
