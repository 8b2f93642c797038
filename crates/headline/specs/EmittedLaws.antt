-- What the emitted module owes its original.
use Rattle.std.specs.Prelude.{◌≡◌, ℕ, List, Bool, false, slice_get}
use Rattle.wa_types.specs.Pausing.{Settings, TellsMayPause, is_told, save_all}
use Rattle.wa_types.specs.Sizes.{WellFormed}
use Rattle.wa_types.specs.Syntax.{Module}
use Rattle.wa_types.specs.Validity.{Valid}
use Rattle.wa_model.specs.Behaves.{BehavesOn, PausesNumbered, expected_notes}
use Rattle.wa_model.specs.Blocking.{Blocking}
use Rattle.wa_model.specs.Plan.{Outcome, Plan}
use Rattle.run_laws.specs.Ranges.{CodesIn}
use Rattle.headline.specs.Given.{BehavesGiven, ComparedGiven}
use Rattle.slim_laws.specs.SlimModule.{Pieces}
use Rattle.headline.specs.EmittedModule.{AllKeepEnough, Emitted, Framing, kept_frames}

-- A module with the runtime's parts whose functions all stay behaves like its original, on runs whose pauses find numbered calls
-- only: there are none where no function is told.
abbrev pub StayingBehave : Type 0
StayingBehave =
    (m : Module) (s : Settings) (which : List Bool) (frames : (index : ℕ) → Framing) (p : Module) → Valid m → Valid p → WellFormed m → CodesIn p → TellsMayPause m s which
    → ((x : ℕ) → is_told (slice_get which x) ≡ false) → Emitted m s which frames p → (plan : Plan) (os : List Outcome) (n : ℕ)
    → ComparedGiven m plan os n → PausesNumbered m s which (Blocking m plan os n).events → BehavesOn m s p plan os n which (expected_notes m s plan os n)

-- For the policy that saves all: a valid emitted module behaves like its original, pauses included, whatever slim pieces it has.
abbrev pub EmittedBehaves : Type 0
EmittedBehaves =
    (m : Module) (s : Settings) (which : List Bool) (pieces : (index : ℕ) → Pieces) (keep : (func local : ℕ) → Bool) (p : Module) → Valid m → Valid p → CodesIn p → s.policy ≡ save_all
    → TellsMayPause m s which → Emitted m s which (kept_frames m s which pieces keep) p → AllKeepEnough m s which keep → BehavesGiven m s p
