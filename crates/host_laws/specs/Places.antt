-- Where a program stands between two events, and how its next event is told.
use Rattle.std.specs.Prelude.{◌≡◌, ◌≤◌, ℕ, ◌-◌, ◌++◌, List, [], ◌∷◌, false}
use Rattle.wa_types.specs.Syntax.{Module}
use Rattle.wa_model.specs.declared.events.End.{End}
use Rattle.wa_model.specs.declared.events.End.TheVariants.{StepsSpent}
use Rattle.wa_model.specs.Store.{Store}
use Rattle.wa_model.specs.Outside.{ended}
use Rattle.wa_model.specs.Plan.{Plan, Outcome}
use Rattle.wa_model.specs.Blocking.{Note, note}
use Rattle.wa_model.specs.Protocol.{Held, over, store_held}
use Rattle.world_model.specs.World.{Program, call_in, is_end}
use Rattle.host_laws.specs.Stretch.{Stretch, IsSpent}
use Rattle.host_laws.specs.Supplies.{Supply, Takes}

-- A run has made notes that aren't told yet, and stands behind them; or its end was told. `nowhere` is no such place.
pub data Place : Type 0 where
  stands : (ready : List Note) → (held : Held) → Place
  has_ended : (how : End) → Place
  nowhere : Place

-- How the note x comes next, where those of `ready` were made before and `left` can be paid with, and where the program then is.
pub data Lands (p : Module) (plan : Plan) (steps : ℕ) (ready : List Note) (h : Held) (os : List Outcome) (left : ℕ) (x : Note) (used : ℕ) (to : Place) : Type 0 where
  -- it was ready, or is the first that the run makes when it goes on; the others are ready behind it
  goes_on : (made behind : List Note) (h' : Held) → Stretch p plan h os made used h' → ready ++ made ≡ x ∷ behind → is_end x.event ≡ false → to ≡ stands behind h'
      → Lands p plan steps ready h os left x used to
  -- it is the program's end
  ends : (how : End) (made : List Note) (s : Store) → Stretch p plan h os made used (over s) → ready ++ made ≡ x ∷ [] → x.event ≡ ended how → to ≡ has_ended how
      → Lands p plan steps ready h os left x used to
  -- no note comes before a move that costs more than is left, of the program's number of steps
  spends : (h' : Held) → Stretch p plan h os [] used h' → ready ≡ [] → IsSpent p plan (left - used) h' → x ≡ note (ended (StepsSpent steps)) (store_held h')
      → to ≡ has_ended (StepsSpent steps) → Lands p plan steps ready h os left x used to

-- The note x is told next: it takes what it takes of what answers calls, and pays no more than is left.
pub record Tells (w : Program) (ready : List Note) (h : Held) (left : ℕ) (old : Supply) (x : Note) (used : ℕ) (new : Supply) (to : Place) : Type 0 where
  pub outcomes : List Outcome
  pub takes : Takes w (call_in x.event) old outcomes new
  pub within : used ≤ left
  pub lands : Lands w.source w.plan w.steps ready h outcomes left x used to

-- from any place
abbrev pub TellsFrom : Program → Place → (left : ℕ) → Supply → Note → (used : ℕ) → Supply → Place → Type 0
TellsFrom w (stands ready h) left old x used new to = Tells w ready h left old x used new to
TellsFrom w (has_ended how) left old x used new to = ⊥
TellsFrom w nowhere left old x used new to = ⊥
