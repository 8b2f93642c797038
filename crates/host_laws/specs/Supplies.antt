-- What answers the new calls of a program, and what a told event takes of it.
use Rattle.std.specs.Prelude.{◌≡◌, ◌⊎◌, ◌≤◌, ℕ, List, [], ◌∷◌, Option, Some, None, slice_get}
use Rattle.std.specs.Option.{unwrap_or}
use Rattle.wa_model.specs.declared.events.End.TheVariants.{DeviceFault}
use Rattle.wa_model.specs.Outside.{Call, AnswerLine}
use Rattle.wa_model.specs.Plan.{Outcome, refused}
use Rattle.world_model.specs.World.{Program, Device, Meets}
use Rattle.vault_port.specs.Counts.{HasRisen}
use Rattle.device_port.specs.Listed.{IsFirstOf, ChangesAt}

-- The answer lines that are left, the devices, and of each device the count of its faults.
pub record Supply : Type 0 where
  pub lines : List AnswerLine
  pub devices : List Device
  pub faults : List ℕ

-- Asked of calls that are lent devices, and always so. (A call of another crate that is lent boxes and asks for nothing counts as one
-- that may put boxes of its own in their place.)
abbrev pub IsLent : Type 0
IsLent = Unit {0}

-- What an outcome says of the counts: it is no device's fault, and none changed, so that no device that failed was asked again; or it is the
-- fault of the first device of the name to which the import is bound, only whose count rose.
pub data Counts (import : ℕ) (bound : Option (List ℕ)) (ds : List Device) (o : Outcome) (old new : List ℕ) : Type 0 where
  none_failed : (o ≡ refused (DeviceFault import) → ⊥) → new ≡ old → Counts import bound ds o old new
  one_failed : (name : List ℕ) (place : ℕ) → bound ≡ Some name → IsFirstOf ds name place → o ≡ refused (DeviceFault import)
      → ChangesAt (λ before after. before ≤ after) place old new → ChangesAt HasRisen place old new → Counts import bound ds o old new

-- Where memory was wanting: no count has fallen, and one has risen at most, as a device may count that too.
abbrev pub RisesAtMostOne : (old new : List ℕ) → Type 0
RisesAtMostOne old new = (new ≡ old) ⊎ ((place : ℕ) × ChangesAt (λ before after. before ≤ after) place old new)

-- the device to which an import is bound, where it is
abbrev pub bound_to : Program → (import : ℕ) → Option (List ℕ)
bound_to w import = unwrap_or (slice_get w.binds import) None

-- A new call meets this outcome, as a world has it, and leaves this.
pub record Answers (w : Program) (c : Call) (old : Supply) (o : Outcome) (new : Supply) : Type 0 where
  pub meets : Meets w c.import c.args old.lines old.devices o new.lines new.devices
  pub counts : Counts c.import (bound_to w c.import) old.devices o old.faults new.faults

-- What a told event took: a new call meets an outcome, and nothing else takes any.
abbrev pub Takes : Program → Option Call → Supply → List Outcome → Supply → Type 0
Takes w None old os new = (os ≡ []) × (new ≡ old)
Takes w (Some c) old os new = (o : Outcome) × (os ≡ o ∷ []) × Answers w c old o new
