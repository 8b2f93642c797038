-- What is expected of a pause, without asserts and with them, and what is owed where an unwind ends in the area.
use Rattle.std.specs.Prelude.{ℕ, suc, ◌+◌, ◌<◌, ◌≤◌, ◌≡◌, List, ◌∷◌, Bool, true, false, All, if◌then◌else◌}
use Rattle.std.specs.List.{sum_by}
use Rattle.wa_types.specs.Bounds.{activation_bound}
use Rattle.wa_types.specs.Frames.{Fit, Room, Suspended}
use Rattle.wa_types.specs.Pausing.{Settings}
use Rattle.wa_types.specs.Runtime.{global_space}
use Rattle.wa_types.specs.Syntax.{Module}
use Rattle.wa_model.specs.Behaves.{PausesNumbered, StandsNumbered}
use Rattle.wa_model.specs.Blocking.{Left, Note}
use Rattle.wa_model.specs.Configuration.{Configuration, stack_of}
use Rattle.wa_model.specs.Outside.{Answer}
use Rattle.wa_model.specs.Plan.{Entry}
use Rattle.wa_model.specs.Protocol.{exports_of}
use Rattle.guard_form.specs.AssertedRuns.{is_stuck, Reach}
use Rattle.frame_laws.specs.Stack.{fit_of, Level}
use Rattle.guard_runs.specs.Alike.{sides_of}
use Rattle.guard_runs.specs.Beside.{Callers}
use Rattle.guard_runs.specs.Pause.{AreaReady, UnwindTraps}
use Rattle.headline.specs.FlatLaw.{AllLocalsFit}
use Rattle.headline.specs.World.{World, base, setting}

-- The room that a stack is taken to need: with asserts one byte more than there are, where its unwind ends in the area.
abbrev pub room_by : (asserts : Bool) → Module → Settings → List Bool → (len : ℕ) → List Suspended → ℕ
room_by false m s which len stack = Room m s.policy stack
room_by true m s which len stack = if is_stuck m s which len stack then suc len else Room m s.policy stack

-- the bytes in use where it does
abbrev pub used_by : (asserts : Bool) → Module → Settings → List Bool → (len : ℕ) → List Suspended → ℕ
used_by false m s which len stack = Fit m s.policy stack len
used_by true m s which len stack = Reach m s which len stack

-- what is known of a stack that pauses: without asserts it stands at numbered calls
abbrev pub StackKnown : (asserts : Bool) → Module → Settings → List Bool → List Suspended → Type 0
StackKnown false m s which stack = All (StandsNumbered m s which) stack
StackKnown true m s which stack = Unit {0}

-- of each pause among notes
abbrev pub PausesKnown : (asserts : Bool) → Module → Settings → List Bool → List Note → Type 0
PausesKnown false m s which notes = PausesNumbered m s which notes
PausesKnown true m s which notes = Unit {0}

abbrev pub room_in : World → List Suspended → ℕ
room_in w = λ stack. room_by w.asserts w.original w.settings w.which w.plan.area.len stack

abbrev pub used_in : World → List Suspended → ℕ
used_in w = λ stack. used_by w.asserts w.original w.settings w.which w.plan.area.len stack

-- An unwind from here ends in the area with so many bytes in use: those of the frames of some innermost levels that fit. It costs no more
-- than the activations' bounds.
pub record HaltsIn (w : World) (e : Entry) (i : ℕ) (a : Answer) (l : Left) (stack : List Suspended) (at : Configuration) (used : ℕ) : Type 0 where
  pub inner : List Level
  pub bound : ℕ
  pub few : bound ≤ 28 + sum_by (activation_bound w.original) stack
  pub traps : UnwindTraps (global_space w.original) w.written (exports_of w.written) w.plan e i a l at.store at bound inner
  pub bytes : used ≡ fit_of w.plan.area.len 8 inner

-- So it does wherever the room that a stack is taken to need passes the area.
abbrev pub HaltLaw : (w : World) (W : (top import : ℕ) → Configuration → Configuration → Type 0) → Type 0
HaltLaw w W =
    (top i : ℕ) (d f at : Configuration) (e : Entry) (a : Answer) (l : Left) → W top i d f → Callers (sides_of (setting w top)) i (f.here ∷ f.under) (at.here ∷ at.under)
    → StackKnown w.asserts w.original w.settings w.which (stack_of (base w) d) → w.plan.area.len < room_in w (stack_of (base w) d) → AllLocalsFit w.written (at.here ∷ at.under)
    → AreaReady (global_space w.original) (global_space w.original) (suc (global_space w.original)) w.plan.area at.store
    → HaltsIn w e i a l (stack_of (base w) d) at (used_in w (stack_of (base w) d))
