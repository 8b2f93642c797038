-- What a line's call took of the devices.
use Rattle.std.specs.Prelude.{◌≡◌, ◌⊎◌, ◌+◌, ℕ, suc, List, map, Some, nat_eq, if◌then◌else◌, Option, MatchOption, slice_get}
use Rattle.wa_model.specs.declared.answers.Detach.{Detach}
use Rattle.wa_model.specs.declared.events.Line.{Line as LineValue}
use Rattle.wa_model.specs.Outside.{AnswerLine, Event, Line, shown}
use Rattle.wa_model.specs.Plan.{Outcome}
use Rattle.wa_model.specs.View.{line_of}
use Rattle.world_model.specs.World.{Device, Program, call_in}
use Rattle.event_order.specs.Left.{Counted, left_before}
use Rattle.host_laws.specs.Supplies.{RisesAtMostOne, Takes}
use Rattle.many_host.specs.declared.turn_taking.Stage.{Stage}
use Rattle.many_host.specs.declared.turn_taking.Stage.TheVariants.{Between, Telling, Showing}
use Rattle.many_host.specs.Telling.{supply}

-- the devices
abbrev pub devices_of : List Counted → List Device
devices_of cs = map (λ (c : Counted). c.device) cs

-- their counts of faults
abbrev pub faults_of : List Counted → List ℕ
faults_of cs = map (λ (c : Counted). c.faults) cs

-- Where the line tells a new call, that met this outcome, of the devices or of the program's answer lines, and left these devices and
-- counts; nothing else met one, or changed any.
pub record TakesCall (programs : List Program) (line : Line) (met : List Outcome) (old new : List Counted) : Type 0 where
  pub w : Program
  pub program : slice_get programs line.program ≡ Some w
  pub answers : List AnswerLine
  pub left : List AnswerLine
  pub takes : Takes w (call_in line.event) (supply answers (devices_of old) (faults_of old)) met (supply left (devices_of new) (faults_of new))

-- the devices at a line: those that are left, where an event began with it
abbrev pub left_at : (begun begun' : ℕ) → List Detach → List Counted → List Counted
left_at begun begun' detaches cs = if nat_eq begun begun' then cs else left_before begun' detaches cs

-- Where no line came: the devices are as they were, or as they are when the next event begins. Of the counts of those that are there none has
-- fallen, and one has risen at most.
pub record AreLeft (begun : ℕ) (detaches : List Detach) (old new : List Counted) : Type 0 where
  pub there : List Counted
  pub there_is : (there ≡ old) ⊎ (there ≡ left_before (suc begun) detaches old)
  pub devices : devices_of new ≡ devices_of there
  pub counts : RisesAtMostOne (faults_of there) (faults_of new)

-- ---- how many turns have begun

-- memory that is shown
abbrev pub IsShown : Event → Type 0
IsShown (shown at bytes) = Unit {0}
IsShown _ = ⊥

-- A line behind whole turns begins the next, one in a turn begins none, and behind a program's end none begins as long as memory is shown.
abbrev pub BegunBy : Stage → (begun begun' : ℕ) → Event → Type 0
BegunBy Between begun begun' e = begun' ≡ begun + 1
BegunBy (Telling turn) begun begun' e = begun' ≡ begun
BegunBy (Showing turn from) begun begun' e = (begun' ≡ begun + 1) ⊎ ((begun' ≡ begun) × IsShown e)

-- of the next line
abbrev pub BegunNext : Stage → (begun begun' : ℕ) → Option LineValue → Type 0
BegunNext stage begun begun' result = MatchOption result (Unit {0}) (λ line. BegunBy stage begun begun' (line_of line).event)
