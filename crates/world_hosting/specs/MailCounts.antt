-- What lines take of the devices where there are mailboxes.
use Rattle.std.specs.Prelude.{◌≡◌, ◌⊎◌, if◌then◌else◌, ℕ, Bool, false, true, List, [], ◌∷◌, Option, Some, None, MatchBool, MatchOption, slice_get}
use Rattle.std.specs.List.{list_any}
use Rattle.wa_types.specs.declared.values.Value.{Value}
use Rattle.wa_types.specs.Validity.{same_name}
use Rattle.wa_model.specs.declared.answers.Detach.{Detach}
use Rattle.wa_model.specs.declared.events.End.TheVariants.{NoDevice}
use Rattle.wa_model.specs.Outside.{AnswerLine, Event, Line, parked}
use Rattle.wa_model.specs.Plan.{Outcome, refused}
use Rattle.wa_model.specs.Behaves.{IsPrefix}
use Rattle.world_model.specs.World.{Program, call_in, ends_turn}
use Rattle.event_order.specs.Left.{Counted}
use Rattle.host_laws.specs.Supplies.{Takes, bound_to}
use Rattle.mail_laws.specs.Mailboxes.{mailed}
use Rattle.mail_laws.specs.MailWorld.{Actor}
use Rattle.many_host.specs.Calls.{devices_of, faults_of}
use Rattle.many_host.specs.Telling.{supply}
use Rattle.world_hosting.specs.Counts.{TookBy, ended_in, met_by}

-- ---- events

-- each event ends with one line, of a pause, of a program that parks, or of an end
abbrev pub ends_event : Event → Bool
ends_event (parked used) = true
ends_event e = ends_turn e

-- how many events end in these lines
abbrev pub event_count : List Line → ℕ
event_count = ended_in ends_event

-- ---- who is asked

-- a mailbox has this name
abbrev pub is_mailbox : (boxes : List (List ℕ)) → (name : List ℕ) → Bool
is_mailbox boxes name = list_any (λ (box : List ℕ). same_name box name) boxes

-- what is bound so asks a mailbox
abbrev pub asks_mailbox : (boxes : List (List ℕ)) → Option (List ℕ) → Bool
asks_mailbox boxes None = false
asks_mailbox boxes (Some name) = is_mailbox boxes name

-- the device that is asked by what is bound so: a mailbox hides those of its name
abbrev pub unless_mailbox : (boxes : List (List ℕ)) → Option (List ℕ) → Option (List ℕ)
unless_mailbox boxes None = None
unless_mailbox boxes (Some name) = if is_mailbox boxes name then None else Some name

-- the device that an import asks
abbrev pub device_for : (boxes : List (List ℕ)) → Program → (import : ℕ) → Option (List ℕ)
device_for boxes w import = unless_mailbox boxes (bound_to w import)

-- ---- what lines take

-- an outcome of a mailbox: an answer, or that it knows no such call
abbrev pub IsMailed : (import : ℕ) → Outcome → Type 0
IsMailed import o = ((value : Option Value) × (ticks : ℕ) × (o ≡ mailed value ticks)) ⊎ (o ≡ refused (NoDevice import))

-- Where the line tells a new call that asks a mailbox, it met an outcome of that, and took nothing of the devices; any other call took what it takes
-- without mailboxes; nothing else met an outcome, or changed any device or count.
pub record TakesBeside (boxes : List (List ℕ)) (programs : List Program) (line : Line) (met : List Outcome) (old new : List Counted) : Type 0 where
  pub w : Program
  pub program : slice_get programs line.program ≡ Some w
  pub answers : List AnswerLine
  pub left : List AnswerLine
  pub takes : MatchOption (call_in line.event) ((met ≡ []) × (new ≡ old)) (λ c. MatchBool (asks_mailbox boxes (bound_to w c.import))
      ((o : Outcome) × (met ≡ o ∷ []) × IsMailed c.import o × (new ≡ old))
      (Takes w (Some c) (supply answers (devices_of old) (faults_of old)) met (supply left (devices_of new) (faults_of new))))

-- the same line by line
abbrev pub TookBeside : (boxes : List (List ℕ)) → List Program → List Detach → (begun ended : ℕ) → List Line → (met : List (List Outcome)) → (old : List Counted) → (last : ℕ) → (new : List Counted) → Type 0
TookBeside boxes programs = TookBy ends_event (TakesBeside boxes programs)

-- ---- what calls met

-- What is told of each program are the first outcomes that its actor's calls meet.
abbrev pub AreMet : List Line → (met : List (List Outcome)) → List Actor → Type 0
AreMet lines met actors = (i : ℕ) (a : Actor) → slice_get actors i ≡ Some a → IsPrefix (met_by i lines met) a.outcomes
