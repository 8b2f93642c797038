-- What the call of a strand's line took of the devices, and how many events have begun with a line.
use Rattle.std.specs.Prelude.{◌≡◌, ◌⊎◌, ◌+◌, ℕ, List, [], Option, Some, MatchOption, slice_get}
use Rattle.wa_model.specs.Outside.{AnswerLine, Event}
use Rattle.wa_model.specs.Plan.{Outcome}
use Rattle.wa_model.specs.View.{event_of}
use Rattle.world_model.specs.World.{call_in}
use Rattle.event_order.specs.Left.{Counted}
use Rattle.host_laws.specs.Supplies.{Takes}
use Rattle.many_host.specs.Calls.{IsShown, devices_of, faults_of}
use Rattle.many_host.specs.Telling.{supply}
use Rattle.strand_laws.specs.Strands.{strand_at}
use Rattle.strand_laws.specs.StrandWorld.{StrandLine, StrandsInWorld, strand_program}
use Rattle.strand_host.specs.declared.turn_taking.Stage.{Stage}
use Rattle.strand_host.specs.declared.turn_taking.Stage.TheVariants.{Between, Telling, Showing}
use Rattle.strand_host.specs.declared.turn_taking.StrandLine.{StrandLine as LineValue}

-- a line of a world of strands, as the program has it
abbrev pub strand_line_of : LineValue → StrandLine
strand_line_of l = record { tick = l.tick; program = l.program; strand = l.strand; event = event_of l.event }

-- Where the line tells a new call, that met this outcome, of the devices or of the strand's answer lines, and left these devices and
-- counts; nothing else met one, or changed any.
pub record TakesStrandCall (programs : List StrandsInWorld) (line : StrandLine) (met : List Outcome) (old new : List Counted) : Type 0 where
  pub g : StrandsInWorld
  pub program : slice_get programs line.program ≡ Some g
  pub answers : List AnswerLine
  pub left : List AnswerLine
  pub takes : Takes (strand_program g [] line.strand (strand_at g.program line.strand)) (call_in line.event) (supply answers (devices_of old) (faults_of old)) met
      (supply left (devices_of new) (faults_of new))

-- A line behind whole turns begins the next, one in a turn begins none, and behind a program's end none begins as long as memory is shown.
abbrev pub BegunWith : Stage → (begun begun' : ℕ) → Event → Type 0
BegunWith Between begun begun' e = begun' ≡ begun + 1
BegunWith (Telling turn) begun begun' e = begun' ≡ begun
BegunWith (Showing turn from) begun begun' e = (begun' ≡ begun + 1) ⊎ ((begun' ≡ begun) × IsShown e)

-- of the next line
abbrev pub BegunNext : Stage → (begun begun' : ℕ) → Option LineValue → Type 0
BegunNext stage begun begun' result = MatchOption result (Unit {0}) (λ line. BegunWith stage begun begun' (event_of line.event))
