-- What a host holds between events, as a snapshot.
use Rattle.std.specs.Prelude.{◌≡◌, ◌*◌, ℕ, List, [], ◌∷◌, length, map, Option, Some, None, slice_get}
use Rattle.wa_types.specs.Memory.{page_size}
use Rattle.wa_model.specs.declared.answers.Detach.{Detach}
use Rattle.wa_model.specs.Outside.{Line}
use Rattle.world_model.specs.World.{Actor, Device, IsOver, Program, at_start}
use Rattle.event_order.specs.Dues.{HaveEnded}
use Rattle.pause_host.specs.Parting.{parts_in}
use Rattle.pause_host.specs.Programs.{memory_in}
use Rattle.snapshot_store.specs.Snapshots.{PausedParts, ProgramRecord, Snapshot, fresh, over, paused}
use Rattle.world_laws.specs.AloneLines.{Unbound}
use Rattle.world_laws.specs.Played.{ProtocolWorldUpToFrom}
use Rattle.world_laws.specs.Snapshots.{IsSnapshotOf}
use Rattle.many_host.specs.Turns.{Teller, due_of}
use Rattle.many_host.specs.declared.hosted.Hosted.{Hosted}
use Rattle.many_host.specs.declared.turn_taking.Turns.{Turns}

-- ---- what is saved

-- a program that hasn't ended waits at its pause, where it has the parts of one, else it hasn't begun
abbrev pub unended_record : (due : ℕ) → Option PausedParts → (memory : List ℕ) → ProgramRecord
unended_record due None memory = fresh
unended_record due (Some parts) memory = paused due parts memory

-- what is saved of a program that is due at this tick; of one that has ended, that it has
abbrev pub record_for : Option ℕ → Hosted → ProgramRecord
record_for None x = over
record_for (Some due) x = unended_record due (parts_in x.program) (memory_in x.program)

-- of each
abbrev pub records_for : List (Option ℕ) → List Hosted → List ProgramRecord
records_for [] xs = []
records_for (due ∷ dues) [] = []
records_for (due ∷ dues) (x ∷ xs) = record_for due x ∷ records_for dues xs

-- of all that is held
abbrev pub saved_of : Turns Hosted → Snapshot
saved_of h = record { events = h.begun; programs = records_for h.dues.items h.programs.items }

-- a memory has as many pages as the record tells
abbrev pub HasItsPages : ProgramRecord → Type 0
HasItsPages fresh = Unit {0}
HasItsPages (paused due x memory) = length memory ≡ x.pages * page_size
HasItsPages over = Unit {0}

-- ---- of which world it is

-- A program that can be saved: it began at its start, and no import is bound to a device, so that a pause waits for an answer of its lines.
abbrev pub CanBeSaved : Program → Type 0
CanBeSaved w = (w.origin ≡ at_start) × Unbound w

-- The outcomes of each program's actor are those that its calls have met.
abbrev pub MeetNoMore : List Teller → List Actor → Type 0
MeetNoMore tellers actors = (i : ℕ) (t : Teller) (a : Actor) → slice_get tellers i ≡ Some t → slice_get actors i ≡ Some a → a.outcomes ≡ t.met

-- The snapshot is that of a run of the world up to its last event, which makes these lines and leaves these devices, and whose programs' calls
-- have met no more than the tellers. Once all of them have ended the world is over.
pub record IsSaved (begun : ℕ) (programs : List Program) (detaches : List Detach) (ds : List Device) (lines : List Line) (ds' : List Device) (tellers : List Teller) (s : Snapshot) : Type 0 where
  pub world : ProtocolWorldUpToFrom begun programs detaches ds s.events lines ds'
  pub is : IsSnapshotOf programs world.actors world.now s.events s
  pub met : MeetNoMore tellers world.actors
  pub over : HaveEnded (map due_of tellers) → IsOver world.now
