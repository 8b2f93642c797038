-- Laws of weaving.
use Rattle.std.specs.Prelude.{◌≡◌, ℕ, ◌+◌, ◌<◌, ◌≤◌, ◌⊎◌, nat_eq, if◌then◌else◌, List, [], ◌∷◌, ◌++◌, length, map, replicate, All, Option, Some, None, Bool, true, false, slice_get}
use Rattle.std.specs.List.{filter_map}
use Rattle.wa_types.specs.Pausing.{Settings}
use Rattle.wa_model.specs.declared.answers.Detach.{Detach}
use Rattle.wa_model.specs.Blocking.{Note}
use Rattle.wa_model.specs.Machine.{Leads}
use Rattle.wa_model.specs.Outside.{Event, ended, paused}
use Rattle.wa_model.specs.Plan.{Outcome}
use Rattle.world_model.specs.World.{Device, Look, ends_turn, looks_after}
use Rattle.strand_laws.specs.Strands.{StrandEvent, StrandProgram, held_loom, strung_loom}
use Rattle.strand_laws.specs.StrandWorld.{BlockingStrandWorld, HeldStrands, ProtocolStrandWorld, StrandLine, StrandOriginal, StrandsInWorld, StrungStrands, last_strand, looks_if, strand_in}
use Rattle.strand_laws.specs.Woven.{Loom, Thread, Told, going, put, told_by, weave}

-- none of these notes ends a turn
abbrev pub EndNoTurn : List Note → Type 0
EndNoTurn [] = Unit {0}
EndNoTurn (x ∷ xs) = (ends_turn x.event ≡ false) × EndNoTurn xs

-- A stretch of the strand that goes on, in which no turn ends, is one of the woven machine, at its cost; the other strands stay.
abbrev pub StretchesAreWoven : {S : Type 0} → Loom S → Type 0
StretchesAreWoven {S} loom =
    (i due n : ℕ) (s t : S) (ts : List (Thread S)) (es : List Note) → i < length ts → Leads (loom.next i) s n es t → EndNoTurn es
    → Leads (weave loom) (going i due s ts) n (told_by i es) (going i due t ts)

-- So are those of a program's strands, under the protocol and with blocking imports.
pub record StrandStretches (s : Settings) (g : StrandProgram) : Type 0 where
  pub held : StretchesAreWoven (held_loom g)
  pub strung : StretchesAreWoven (strung_loom s g)

abbrev pub AllStretchesAreWoven : Type 0
AllStretchesAreWoven = (s : Settings) (g : StrandProgram) → StrandStretches s g

-- ---- turns

-- Strands as a world knows them: when each is due, and whether it has ended.
abbrev pub Dues : Type 0
Dues = List (Thread (Unit {0}))

-- when a strand is due
abbrev pub due_in : {S : Type 0} → Option (Thread S) → ℕ
due_in None = 0
due_in (Some t) = t.due

-- there is something
abbrev pub is_there : {S : Type 0} → Option S → Bool
is_there None = false
is_there (Some s) = true

-- a strand hasn't ended
abbrev pub is_ready : {S : Type 0} → Option (Thread S) → Bool
is_ready None = false
is_ready (Some t) = is_there t.at

-- the least pair of due tick and number among the strands that haven't ended
pub record IsDueFirst (v : Dues) (i : ℕ) : Type 0 where
  pub ready : is_ready (slice_get v i) ≡ true
  pub least : (j : ℕ) → is_ready (slice_get v j) ≡ true → (due_in (slice_get v i) < due_in (slice_get v j)) ⊎ ((due_in (slice_get v i) ≡ due_in (slice_get v j)) × (i ≤ j))

-- the strand that goes on behind an event, if its turn goes on
abbrev pub now_behind : (strand : ℕ) → Event → Option ℕ
now_behind i (paused ticks used) = None
now_behind i (ended how) = None
now_behind i _ = Some i

-- behind a pause its strand is due so much later, and behind its end it is gone
abbrev pub dues_behind : (strand : ℕ) → Event → Dues → Dues
dues_behind i (paused ticks used) v = put i (due_in (slice_get v i) + ticks) (Some tt) v
dues_behind i (ended how) v = put i (due_in (slice_get v i)) None v
dues_behind i _ v = v

-- it is this strand's turn: it goes on, or where none does it is due first
abbrev pub HasTurn : Option ℕ → Dues → ℕ → Type 0
HasTurn None v k = IsDueFirst v k
HasTurn (Some i) v k = i ≡ k

-- What strands told goes by turns, each of the strand that is due first then, up to its pause or its end.
abbrev pub GoesByTurns : Option ℕ → Dues → List Told → Type 0
GoesByTurns now v [] = Unit {0}
GoesByTurns now v (t ∷ ts) = HasTurn now v t.strand × GoesByTurns (now_behind t.strand t.note.event) (dues_behind t.strand t.note.event v) ts

-- so many strands, all due at 0
abbrev pub all_due : ℕ → Dues
all_due n = replicate n (record { due = 0; at = Some tt })

-- What a program's strands tell in a world goes by turns from their start on.
pub record StrandsGoByTurns (s : Settings) (g : StrandsInWorld) (oss : List (List Outcome)) (ts : List Told) : Type 0 where
  pub held : HeldStrands g oss ts → GoesByTurns None (all_due (length g.program.strands)) ts
  pub strung : StrungStrands s g oss ts → GoesByTurns None (all_due (length g.program.strands)) ts

abbrev pub AllGoByTurns : Type 0
AllGoByTurns =
    (s : Settings) (g : StrandsInWorld) (oss : List (List Outcome)) (ts : List Told) → 0 < length g.program.strands → length oss ≡ length g.program.strands
    → StrandsGoByTurns s g oss ts

-- ---- the lines of one program

-- the event of a line, where it is of this program
abbrev pub event_if : (program : ℕ) → StrandLine → Option StrandEvent
event_if p l = if nat_eq l.program p then Some (record { strand = l.strand; event = l.event }) else None

-- the events of a program's lines, in order
abbrev pub events_of_program : (program : ℕ) → List StrandLine → List StrandEvent
events_of_program p lines = filter_map (event_if p) lines

-- the events of a note: its own, and what is shown behind the end of the strand that tells the last note
abbrev pub events_at : (last : ℕ) → List Look → Told → List StrandEvent
events_at last looks t =
    map (λ (e : Event). record { strand = strand_in t.strand e; event = e }) (t.note.event ∷ looks_after (looks_if (nat_eq last t.strand) looks) t.note t.note.event)

-- the events of all
abbrev pub events_shown : (last : ℕ) → List Look → List Told → List StrandEvent
events_shown last looks [] = []
events_shown last looks (t ∷ ts) = events_at last looks t ++ events_shown last looks ts

-- The lines of a program, picked out of a world's in order, are one woven run of its strands.
pub record TellsOneRun (story : StrandsInWorld → List (List Outcome) → List Told → Type 0) (g : StrandsInWorld) (program : ℕ) (lines : List StrandLine) : Type 0 where
  pub outcomes : List (List Outcome)
  pub told : List Told
  pub tells : story g outcomes told
  pub picked : events_of_program program lines ≡ events_shown (last_strand told) g.looks told

-- each program of a world has a strand at least
abbrev pub HaveStrands : List StrandsInWorld → Type 0
HaveStrands gs = All (λ (g : StrandsInWorld). 0 < length g.program.strands) gs

-- In the protocol world each program's lines do so.
abbrev pub HeldProgramsTellOneRun : Type 0
HeldProgramsTellOneRun =
    (gs : List StrandsInWorld) (detaches : List Detach) (ds ds' : List Device) (lines : List StrandLine) → HaveStrands gs → ProtocolStrandWorld gs detaches ds lines ds'
    → (p : ℕ) (g : StrandsInWorld) → slice_get gs p ≡ Some g → TellsOneRun HeldStrands g p lines

-- So do they in the blocking one.
abbrev pub StrungProgramsTellOneRun : Type 0
StrungProgramsTellOneRun =
    (os : List StrandOriginal) (detaches : List Detach) (ds ds' : List Device) (lines : List StrandLine) → HaveStrands (map (λ (o : StrandOriginal). o.program) os)
    → BlockingStrandWorld os detaches ds lines ds' → (p : ℕ) (o : StrandOriginal) → slice_get os p ≡ Some o → TellsOneRun (StrungStrands o.settings) o.program p lines
