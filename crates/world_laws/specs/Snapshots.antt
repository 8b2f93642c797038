-- Snapshots of worlds, and programs that go on from one.
use Rattle.std.specs.Prelude.{◌≡◌, ℕ, ◌+◌, ◌*◌, ◌-◌, ◌≤◌, ◌<◌, List, [], ◌∷◌, ◌++◌, length, drop, Option, Some, None, All, slice_get}
use Rattle.wa_types.specs.Memory.{page_size}
use Rattle.wa_model.specs.declared.answers.Detach.{Detach}
use Rattle.wa_model.specs.declared.answers.Said.TheVariants as S
use Rattle.wa_model.specs.Machine.{Ran, still, Leads}
use Rattle.wa_model.specs.Outside.{Answer, AnswerLine, Line}
use Rattle.wa_model.specs.Plan.{Outcome}
use Rattle.wa_model.specs.Instantiation.{Opening, fails_as, opens, opening}
use Rattle.wa_model.specs.Blocking.{Note, all_left, no_store}
use Rattle.wa_model.specs.Protocol.{Held, over as all_over, exports_of, held_begun, protocol}
use Rattle.world_model.specs.World.{Actor, Device, Halt, HasNotes, Origin, Program, ProtocolWorldFrom, Starts, StartsHeld, at_pause, at_start, gone, halted, protocol_story}
use Rattle.snapshot_store.specs.Snapshots.{PausedParts, ProgramRecord, Snapshot, fresh, over, paused}
use Rattle.world_laws.specs.AloneLines.{Unbound}
use Rattle.world_laws.specs.Played.{ProtocolWorldUpToFrom}

-- ---- programs that go on from their records

-- the table that instantiation makes
abbrev pub table_made : Opening → List (Option ℕ)
table_made (fails_as e) = []
table_made (opens s) = s.table

-- the answer of a line, where there is one
abbrev pub answer_in : Option AnswerLine → Answer
answer_in None = record { said = S.Value None; pokes = []; ticks = 0 }
answer_in (Some l) = l.answer

-- The pause of a record: the import waits for the last answer that was taken, and the table is that of instantiation.
abbrev pub halt_at : Program → (due : ℕ) → PausedParts → (memory : List ℕ) → Halt
halt_at w due x memory = record {
  due = due;
  used = x.steps_used;
  taken = x.answers;
  entry = x.entry;
  import = x.import;
  answer = answer_in (slice_get w.answers (x.answers - 1));
  store = record { globals = x.globals; memory = memory; table = table_made (opening w.source w.plan.globals) };
}

-- where a program begins, by its record
abbrev pub origin_by : Program → ProgramRecord → Origin
origin_by w fresh = at_start
origin_by w (paused due x memory) = at_pause (halt_at w due x memory)
origin_by w over = gone

-- the program that begins there
abbrev pub from_record : Program → ProgramRecord → Program
from_record w r = record w { origin = origin_by w r }

-- each of these by its own
abbrev pub from_records : List Program → List ProgramRecord → List Program
from_records [] rs = []
from_records (w ∷ ws) [] = []
from_records (w ∷ ws) (r ∷ rs) = from_record w r ∷ from_records ws rs

-- The programs of a world, as they go on from a snapshot.
abbrev pub From : Snapshot → List Program → List Program
From s programs = from_records programs s.programs

-- ---- the snapshot of what a world has come to

-- what a program's run has made where it begins, with these outcomes to come, and where it stands there
abbrev pub begun_from : Program → List Outcome → Origin → Ran Held Note
begun_from w os at_start = held_begun w.source.start (all_left w.plan os) (opening w.source w.plan.globals)
begun_from w os gone = still (all_over no_store)
begun_from w os (at_pause x) = still (halted w.source w.plan x os)

-- the steps that it has used there
abbrev pub used_from : Origin → ℕ
used_from at_start = 0
used_from gone = 0
used_from (at_pause x) = x.used

-- The program's run comes to this place once so many steps are used: it has made these notes, and its calls met these outcomes, whatever
-- later ones meet.
pub record ComesTo (w : Program) (made : List Note) (met : List Outcome) (used : ℕ) (place : List Outcome → Held) : Type 0 where
  pub cost : ℕ
  pub steps : used ≡ used_from w.origin + cost
  pub way : (more : List Outcome) → (behind : List Note) × (made ≡ (begun_from w (met ++ more) w.origin).events ++ behind)
      × Leads (protocol w.source (exports_of w.source) w.plan) (begun_from w (met ++ more) w.origin).last cost behind (place more)

-- A program that has made nothing since its start.
pub record IsFresh (w : Program) (made : List Note) (met : List Outcome) (now : Actor) : Type 0 where
  pub start : w.origin ≡ at_start
  pub none_made : made ≡ []
  pub none_met : met ≡ []
  pub due : now.due ≡ 0
  pub answers : now.answers ≡ w.answers

-- A program that has come to the pause of these parts, with this memory, of so many pages: in one of its entries, by steps that it has,
-- behind an answer line at least, and with those left that it hasn't taken.
pub record IsPaused (w : Program) (made : List Note) (met : List Outcome) (now : Actor) (due : ℕ) (x : PausedParts) (memory : List ℕ) : Type 0 where
  pub is_due : now.due ≡ due
  pub within : x.steps_used ≤ w.steps
  pub entry : x.entry < length w.plan.entries
  pub comes : ComesTo w made met x.steps_used (halted w.source w.plan (halt_at w due x memory))
  pub some_taken : 1 ≤ x.answers
  pub taken : x.answers ≤ length w.answers
  pub answers : now.answers ≡ drop x.answers w.answers
  pub pages : length memory ≡ x.pages * page_size

-- the program stands as its record has it; one that is over has nothing to come
abbrev pub StandsSo : Program → (made : List Note) → (met : List Outcome) → (now : Actor) → ProgramRecord → Type 0
StandsSo w made met now fresh = IsFresh w made met now
StandsSo w made met now (paused due x memory) = IsPaused w made met now due x memory
StandsSo w made met now over = now.notes ≡ []

-- The record is that of a program which has made notes and met outcomes since its actor stood at the first place, and stands at the second.
pub record IsRecordOf (w : Program) (was now : Actor) (r : ProgramRecord) : Type 0 where
  pub made : List Note
  pub met : List Outcome
  pub notes : was.notes ≡ made ++ now.notes
  pub outcomes : was.outcomes ≡ met ++ now.outcomes
  pub stands : StandsSo w made met now r

-- The snapshot is that of programs behind so many events: there is a record of each.
pub record IsSnapshotOf (programs : List Program) (was now : List Actor) (number : ℕ) (s : Snapshot) : Type 0 where
  pub events : s.events ≡ number
  pub count : length s.programs ≡ length programs
  pub each : (i : ℕ) (w : Program) (a b : Actor) (r : ProgramRecord) → slice_get programs i ≡ Some w → slice_get was i ≡ Some a → slice_get now i ≡ Some b
      → slice_get s.programs i ≡ Some r → IsRecordOf w a b r

-- ---- laws

-- What a program has still to tell is what it tells that begins as its record has it; and so does the program stand, unless it is over.
abbrev pub RecordsGoOn : Type 0
RecordsGoOn =
    (w : Program) (was now : Actor) (r : ProgramRecord) → StartsHeld w was → IsRecordOf w was now r
    → (now.notes ≡ protocol_story (from_record w r) now.outcomes) × (HasNotes now → Starts (from_record w r) now)

-- An actor that has met and made what the first had up to the second, and then meets and makes what the third does.
pub record IsJoined (was now next all : Actor) : Type 0 where
  pub made : List Note
  pub met : List Outcome
  pub notes : was.notes ≡ made ++ now.notes
  pub outcomes : was.outcomes ≡ met ++ now.outcomes
  pub all_notes : all.notes ≡ made ++ next.notes
  pub all_outcomes : all.outcomes ≡ met ++ next.outcomes

-- each of these
abbrev pub AreJoined : (was now next all : List Actor) → Type 0
AreJoined was now next all =
    (i : ℕ) (a b c d : Actor) → slice_get was i ≡ Some a → slice_get now i ≡ Some b → slice_get next i ≡ Some c → slice_get all i ≡ Some d → IsJoined a b c d

-- A world that is played up to an event, and one that goes on from its snapshot, are one world: its lines are those of both.
abbrev pub WorldsJoin : Type 0
WorldsJoin =
    (begun : ℕ) (programs : List Program) (detaches : List Detach) (ds ds' last : List Device) (number : ℕ) (lines more : List Line) (s : Snapshot)
    (world : ProtocolWorldUpToFrom begun programs detaches ds number lines ds') → IsSnapshotOf programs world.actors world.now number s
    → (next : ProtocolWorldFrom s.events (From s programs) detaches ds' more last)
    → (all : ProtocolWorldFrom begun programs detaches ds (lines ++ more) last) × AreJoined world.actors world.now next.actors all.actors

-- Where no import is bound to a device, those are the lines of every run of the whole world: a save changes nothing of them.
abbrev pub JoinedLinesAreOne : Type 0
JoinedLinesAreOne =
    (begun : ℕ) (programs : List Program) (detaches : List Detach) (ds ds' last last' : List Device) (number : ℕ) (lines more all : List Line) (s : Snapshot) → All Unbound programs
    → (world : ProtocolWorldUpToFrom begun programs detaches ds number lines ds') → IsSnapshotOf programs world.actors world.now number s
    → ProtocolWorldFrom s.events (From s programs) detaches ds' more last → ProtocolWorldFrom begun programs detaches ds all last' → (lines ++ more ≡ all) × (last ≡ last')
