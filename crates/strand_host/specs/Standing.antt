-- Where a host stands in the woven run of a program with strands, between two notes that it tells.
use Rattle.std.specs.Prelude.{◌≡◌, ℕ, suc, ◌+◌, ◌-◌, ◌*◌, ◌≤◌, ◌<◌, List, [], ◌∷◌, ◌++◌, length, map, drop, Option, Some, None, Bool, true, false, All, MatchBool, slice_get}
use Rattle.wa_types.specs.Syntax.{Module}
use Rattle.wa_model.specs.declared.events.End.{End}
use Rattle.wa_model.specs.declared.events.End.TheVariants.{StepsSpent, Trapped}
use Rattle.wa_model.specs.Blocking.{Note, all_left, is_start, no_store, note}
use Rattle.wa_model.specs.Instantiation.{opening}
use Rattle.wa_model.specs.Machine.{Leads, Ran, goes}
use Rattle.wa_model.specs.Outside.{AnswerLine, Event, ended, paused}
use Rattle.wa_model.specs.Plan.{Outcome, Plan}
use Rattle.wa_model.specs.Protocol.{Held, Phase, Then, busy, call_again, calling, entering, exports_of, free, held_begun, is_running, over, protocol, starting as starting_at, store_held}
use Rattle.wa_model.specs.Store.{Store}
use Rattle.world_model.specs.World.{ends_turn, is_end}
use Rattle.host_laws.specs.Stretch.{IsSpent, Stretch, is_over, meeting}
use Rattle.strand_laws.specs.StrandNotes.{OnStory}
use Rattle.strand_laws.specs.StrandWorld.{HeldStrands, StrandsInWorld}
use Rattle.strand_laws.specs.Strands.{Strand, StrandProgram, beginnings, first_outcomes, held_loom, held_starts, held_wakes, outcomes_at, plan_of, strand_at}
use Rattle.strand_laws.specs.ToldStrands.{ProgramTeller, StrandTeller, having_told, met_and, starting, told_on}
use Rattle.strand_laws.specs.Weaving.{Dues, HasTurn, IsDueFirst, is_ready, now_behind}
use Rattle.strand_laws.specs.Woven.{Thread, Told, Woven, ends_strand, last_event, put, weave, weave_on, woven}

-- ---- whose turn it is

-- the strand whose turn goes on behind what was told, if one does
abbrev pub now_told : List Told → Option ℕ
now_told [] = None
now_told (t ∷ []) = now_behind t.strand t.note.event
now_told (t ∷ u ∷ ts) = now_told (u ∷ ts)

-- there is something where it hasn't ended
abbrev pub unless_over : Bool → Option (Unit {0})
unless_over true = None
unless_over false = Some tt

-- a strand as others know it: when it is due, and whether it has ended
abbrev pub as_due : StrandTeller → Thread (Unit {0})
as_due s = record { due = s.due; at = unless_over s.has_ended }

-- the same of all strands
abbrev pub dues_of_strands : List StrandTeller → Dues
dues_of_strands ss = map as_due ss

-- that it stands somewhere, and no more
abbrev pub somewhere : {S : Type 0} → Option S → Option (Unit {0})
somewhere None = None
somewhere (Some s) = Some tt

-- the strands of the machine as others know them
abbrev pub dues_of_threads : {S : Type 0} → List (Thread S) → Dues
dues_of_threads [] = []
dues_of_threads (t ∷ ts) = record { due = t.due; at = somewhere t.at } ∷ dues_of_threads ts

-- no strand is left
abbrev pub AllOver : Dues → Type 0
AllOver v = (k : ℕ) → is_ready (slice_get v k) ≡ false

-- ---- strands before their outcomes are known

-- where a strand stands that hasn't ended, with these outcomes
abbrev pub meeting_if : List Outcome → Option Held → Option Held
meeting_if os None = None
meeting_if os (Some h) = Some (meeting os h)

-- each strand with the outcomes that its calls will meet, where the first of these has this number
abbrev pub meeting_from : (ℕ → List Outcome) → (strand : ℕ) → List (Thread Held) → List (Thread Held)
meeting_from outcomes i [] = []
meeting_from outcomes i (t ∷ ts) = record { due = t.due; at = meeting_if (outcomes i) t.at } ∷ meeting_from outcomes (suc i) ts

-- all strands with such outcomes
abbrev pub threads_meeting : List (List Outcome) → List (Thread Held) → List (Thread Held)
threads_meeting more ts = meeting_from (outcomes_at more) 0 ts

-- a strand at its start
abbrev pub at_start : StrandProgram → Strand → Thread Held
at_start g s = record { due = 0; at = Some (free no_store (all_left (plan_of g s) [])) }

-- all strands at their start
abbrev pub all_at_start : StrandProgram → List (Thread Held)
all_at_start g = map (at_start g) g.strands

-- what instantiation makes, and where the first strand then stands
abbrev pub opened_first : StrandProgram → Ran Held Note
opened_first g = held_begun g.source.start (all_left (plan_of g (strand_at g 0)) []) (opening g.source g.globals)

-- ---- notes that wait to be told

-- the host is to rewind the stack, of which it has told the pause
abbrev pub is_again : Then → Bool
is_again call_again = true
is_again _ = false

-- where a pause leads
abbrev pub is_at_pause : Held → Bool
is_at_pause (calling ph s f args th l) = is_again th
is_at_pause _ = false

-- Notes of a strand that are made and not told: none ends its turn, but that the last may be its end, and then it is over, with that note's store.
abbrev pub AreWaiting : List Note → Held → Type 0
AreWaiting [] h = Unit {0}
AreWaiting (x ∷ xs) h = MatchBool (ends_turn x.event) ((xs ≡ []) × (is_end x.event ≡ true) × (is_over h ≡ true) × (x.store ≡ store_held h)) (AreWaiting xs h)

-- ---- how a strand goes on

-- a phase of the start function
abbrev pub is_start_phase : Phase → Bool
is_start_phase (is_running task) = is_start task
is_start_phase _ = false

-- the start function is still to be called, or runs
abbrev pub is_in_start : Held → Bool
is_in_start (starting_at f s l) = true
is_in_start (busy ph c l) = is_start_phase ph
is_in_start (entering ph e s l) = is_start_phase ph
is_in_start _ = false

-- Moves that make no note, and then one that makes these: it begins in the start function or not.
pub record LastMove (p : Module) (plan : Plan) (h : Held) (os : List Outcome) (made : List Note) (used : ℕ) (h' : Held) (in_start : Bool) : Type 0 where
  pub at : Held
  pub cost : ℕ
  pub k : ℕ
  pub first : Stretch p plan h [] [] cost at
  pub starts : held_starts at ≡ in_start
  pub move : (more : List Outcome) → protocol p (exports_of p) plan (meeting (os ++ more) at) ≡ goes k made (meeting more h')
  pub used_is : used ≡ cost + suc k

-- That is a stretch.
abbrev pub LastMoveLeads : Type 0
LastMoveLeads =
    (p : Module) (plan : Plan) (h h' : Held) (os : List Outcome) (made : List Note) (used : ℕ) (in_start : Bool) → LastMove p plan h os made used h' in_start → Stretch p plan h os made used h'

-- whether an event is a trap
abbrev pub IsNoTrap : Option Event → Type 0
IsNoTrap (Some (ended (Trapped trap))) = ⊥
IsNoTrap _ = Unit {0}

-- A strand goes on, with notes ready that were made inside the start function or behind it; then those that are ready and made were made so.
pub data GoesSo (p : Module) (plan : Plan) (in_start : Bool) (ready : List Note) (h : Held) (os : List Outcome) (made : List Note) (used : ℕ) (h' : Held) : Bool → Type 0 where
  -- no note is made: those that are ready stay
  as_before : made ≡ [] → Stretch p plan h os made used h' → GoesSo p plan in_start ready h os made used h' in_start
  -- behind the start function it stays
  behind_start : in_start ≡ false → is_in_start h ≡ false → Stretch p plan h os made used h' → GoesSo p plan in_start ready h os made used h' false
  -- one move makes the notes, from a place that is known
  by_last_move : (starts : Bool) → LastMove p plan h os made used h' starts → GoesSo p plan in_start ready h os made used h' starts
  -- it doesn't matter: the last of the notes is no trap
  either_way : (starts : Bool) → IsNoTrap (last_event (ready ++ made)) → Stretch p plan h os made used h' → GoesSo p plan in_start ready h os made used h' starts

-- ---- where the machine is

-- where a program's strands begin, with these outcomes: what instantiation makes, woven
abbrev pub begun_strands : StrandProgram → List (List Outcome) → Ran (Woven Held) Told
begun_strands g oss =
    woven (held_loom g) true 0 0 (held_begun g.source.start (all_left (plan_of g (strand_at g 0)) (first_outcomes oss)) (opening g.source g.globals)).events
    (held_begun g.source.start (all_left (plan_of g (strand_at g 0)) (first_outcomes oss)) (opening g.source g.globals)).last
    (map (λ (s : Held). record { due = 0; at = Some s })
    ((held_begun g.source.start (all_left (plan_of g (strand_at g 0)) (first_outcomes oss)) (opening g.source g.globals)).last ∷ beginnings (free no_store) g (drop 1 g.strands) (drop 1 oss)))

-- with these outcomes the machine makes these notes by moves of this cost, and stands here
pub record Led (g : StrandProgram) (oss : List (List Outcome)) (used : ℕ) (notes : List Told) (w : Woven Held) : Type 0 where
  pub behind : List Told
  pub made : notes ≡ (begun_strands g oss).events ++ behind
  pub leads : Leads (weave (held_loom g)) (begun_strands g oss).last used behind w

-- it has made what was told, and then all that this says, and stands as that says
abbrev pub LedTo : StrandProgram → List (List Outcome) → (used : ℕ) → List Told → Ran (Woven Held) Told → Type 0
LedTo g oss used told r = Led g oss used (told ++ r.events) r.last

-- ---- where the host stands

-- the ticks of the longest pause
abbrev pub longest_pause : ℕ
longest_pause = 4294967295

-- each pause has cost a step at least: no strand is due later than by so many pauses
abbrev pub DuesWithin : (used : ℕ) → List StrandTeller → Type 0
DuesWithin used ss = All (λ (s : StrandTeller). s.due ≤ longest_pause * used) ss

-- In the midst of a turn of strand k, which was due then: its own run has made these notes beyond what was told, and stands at h, with so many of
-- the program's steps left; the others stand so.
pub record InTurn (g : StrandsInWorld) (t : ProgramTeller) (left k due : ℕ) (in_start : Bool) (ready : List Note) (h : Held) (ts : List (Thread Held)) : Type 0 where
  pub used : ℕ
  pub steps : used + left ≡ g.steps
  pub led : (more : List (List Outcome))
      → LedTo g.program (met_and t.strands more) used t.told (woven (held_loom g.program) in_start k due ready (meeting (outcomes_at more k) h) (threads_meeting more ts))
  pub waiting : AreWaiting ready h
  pub s : StrandTeller
  pub there : slice_get t.strands k ≡ Some s
  pub unfinished : s.has_ended ≡ false
  pub due_is : s.due ≡ due
  pub dues : dues_of_threads (put k due (Some h) ts) ≡ dues_of_strands t.strands
  pub turn : HasTurn (now_told t.told) (dues_of_strands t.strands) k
  pub wide : length t.strands ≡ length g.program.strands
  pub within : DuesWithin used t.strands

-- Between two turns, over this store, with so many of the program's steps left: the strands stand so.
pub record BetweenTurns (g : StrandsInWorld) (t : ProgramTeller) (left : ℕ) (s : Store) (ts : List (Thread Held)) : Type 0 where
  pub used : ℕ
  pub steps : used + left ≡ g.steps
  pub led : (more : List (List Outcome)) → LedTo g.program (met_and t.strands more) used t.told (weave_on (held_loom g.program) (suc (length ts)) s (threads_meeting more ts))
  pub dues : dues_of_threads ts ≡ dues_of_strands t.strands
  pub no_turn : now_told t.told ≡ None
  pub wide : length t.strands ≡ length g.program.strands
  pub within : DuesWithin used t.strands

-- All has been told.
abbrev pub WholeStory : StrandsInWorld → ProgramTeller → Type 0
WholeStory g t = (more : List (List Outcome)) → HeldStrands g (met_and t.strands more) t.told

-- ---- laws

-- The first turn is that of the first strand, with what instantiation makes.
abbrev pub FirstTurnBegins : Type 0
FirstTurnBegins =
    (g : StrandsInWorld) → 0 < length g.program.strands
    → InTurn g (starting g) g.steps 0 0 true (opened_first g.program).events (opened_first g.program).last (all_at_start g.program)

-- Moves that meet no outcome: what they make waits behind what was ready.
abbrev pub TurnMoves : Type 0
TurnMoves =
    (g : StrandsInWorld) (t : ProgramTeller) (left k due : ℕ) (in_start in_start' : Bool) (ready made : List Note) (h h' : Held) (ts : List (Thread Held)) (used : ℕ)
    → InTurn g t left k due in_start ready h ts → GoesSo g.program.source (plan_of g.program (strand_at g.program k)) in_start ready h [] made used h' in_start' → used ≤ left
    → AreWaiting (ready ++ made) h' → InTurn g t (left - used) k due in_start' (ready ++ made) h' ts

-- A note that ends no turn is told; the others that were made wait.
abbrev pub TurnTells : Type 0
TurnTells =
    (g : StrandsInWorld) (t : ProgramTeller) (left k due : ℕ) (in_start in_start' : Bool) (ready : List Note) (h h' : Held) (ts : List (Thread Held)) (s : StrandTeller) (os : List Outcome)
    (answers : List AnswerLine) (made behind : List Note) (x : Note) (used : ℕ)
    → InTurn g t left k due in_start ready h ts → slice_get t.strands k ≡ Some s
    → GoesSo g.program.source (plan_of g.program (strand_at g.program k)) in_start ready h os made used h' in_start' → used ≤ left
    → ready ++ made ≡ x ∷ behind → ends_turn x.event ≡ false → AreWaiting behind h'
    → InTurn g (told_on t k (having_told s (x ∷ []) os answers) (x ∷ []) false) (left - used) k due in_start' behind h' ts

-- A pause is told: its strand is due later.
abbrev pub TurnPauses : Type 0
TurnPauses =
    (g : StrandsInWorld) (t : ProgramTeller) (left k due : ℕ) (in_start : Bool) (ready : List Note) (h h' : Held) (ts : List (Thread Held)) (s : StrandTeller) (os : List Outcome)
    (answers : List AnswerLine) (made : List Note) (x : Note) (used ticks taken : ℕ)
    → InTurn g t left k due in_start ready h ts → slice_get t.strands k ≡ Some s
    → Stretch g.program.source (plan_of g.program (strand_at g.program k)) h os made used h' → used ≤ left
    → ready ++ made ≡ x ∷ [] → x.event ≡ paused ticks taken → ticks ≤ longest_pause → is_at_pause h' ≡ true
    → BetweenTurns g (told_on t k (having_told s (x ∷ []) os answers) (x ∷ []) false) (left - used) (store_held h') (put k (due + ticks) (Some h') ts)

-- A strand's own end is told: the others stay, over the store of that note.
abbrev pub StrandEnds : Type 0
StrandEnds =
    (g : StrandsInWorld) (t : ProgramTeller) (left k due : ℕ) (in_start in_start' : Bool) (ready : List Note) (h : Held) (ts : List (Thread Held)) (s : StrandTeller) (os : List Outcome)
    (answers : List AnswerLine) (made : List Note) (x : Note) (used : ℕ) (how : End) (at : Store)
    → InTurn g t left k due in_start ready h ts → slice_get t.strands k ≡ Some s
    → GoesSo g.program.source (plan_of g.program (strand_at g.program k)) in_start ready h os made used (over at) in_start' → used ≤ left
    → ready ++ made ≡ x ∷ [] → x.event ≡ ended how → ends_strand in_start' how ≡ true
    → BetweenTurns g (told_on t k (having_told s (x ∷ []) os answers) (x ∷ []) false) (left - used) x.store (put k due None ts)

-- An end of the program is told: that is all.
abbrev pub ProgramEnds : Type 0
ProgramEnds =
    (g : StrandsInWorld) (t : ProgramTeller) (left k due : ℕ) (in_start in_start' : Bool) (ready : List Note) (h : Held) (ts : List (Thread Held)) (s : StrandTeller) (os : List Outcome)
    (answers : List AnswerLine) (made : List Note) (x : Note) (used : ℕ) (how : End) (at : Store)
    → InTurn g t left k due in_start ready h ts → slice_get t.strands k ≡ Some s
    → GoesSo g.program.source (plan_of g.program (strand_at g.program k)) in_start ready h os made used (over at) in_start' → used ≤ left
    → ready ++ made ≡ x ∷ [] → x.event ≡ ended how → ends_strand in_start' how ≡ false
    → WholeStory g (told_on t k (having_told s (x ∷ []) os answers) (x ∷ []) true)

-- So is that by steps spent, where the next move costs more than is left.
abbrev pub StepsRunOut : Type 0
StepsRunOut =
    (g : StrandsInWorld) (t : ProgramTeller) (left k due : ℕ) (in_start : Bool) (h h' : Held) (ts : List (Thread Held)) (s : StrandTeller) (os : List Outcome) (answers : List AnswerLine) (x : Note)
    (used : ℕ)
    → InTurn g t left k due in_start [] h ts → slice_get t.strands k ≡ Some s → Stretch g.program.source (plan_of g.program (strand_at g.program k)) h os [] used h' → used ≤ left
    → IsSpent g.program.source (plan_of g.program (strand_at g.program k)) (left - used) h' → x ≡ note (ended (StepsSpent g.steps)) (store_held h')
    → WholeStory g (told_on t k (having_told s (x ∷ []) os answers) (x ∷ []) true)

-- Between turns the strand that is due first begins its own, over the store of the moment;
abbrev pub NextTurnBegins : Type 0
NextTurnBegins =
    (g : StrandsInWorld) (t : ProgramTeller) (left : ℕ) (s : Store) (ts : List (Thread Held)) (k due : ℕ) (h : Held) → BetweenTurns g t left s ts
    → IsDueFirst (dues_of_strands t.strands) k → slice_get ts k ≡ Some (record { due = due; at = Some h })
    → InTurn g t left k due false (held_wakes s h).events (held_wakes s h).last ts

-- where none is left, all has been told.
abbrev pub NoTurnIsLeft : Type 0
NoTurnIsLeft =
    (g : StrandsInWorld) (t : ProgramTeller) (left : ℕ) (s : Store) (ts : List (Thread Held)) → BetweenTurns g t left s ts → AllOver (dues_of_strands t.strands) → WholeStory g t

-- What was told begins a story: in the midst of a turn,
abbrev pub TurnIsOnStory : Type 0
TurnIsOnStory =
    (g : StrandsInWorld) (t : ProgramTeller) (left k due : ℕ) (in_start : Bool) (ready : List Note) (h : Held) (ts : List (Thread Held)) → InTurn g t left k due in_start ready h ts
    → t.has_ended ≡ false → OnStory g t

-- between turns,
abbrev pub BetweenIsOnStory : Type 0
BetweenIsOnStory =
    (g : StrandsInWorld) (t : ProgramTeller) (left : ℕ) (s : Store) (ts : List (Thread Held)) (k : ℕ) → BetweenTurns g t left s ts → IsDueFirst (dues_of_strands t.strands) k
    → t.has_ended ≡ false → OnStory g t

-- and at the end.
abbrev pub WholeIsOnStory : Type 0
WholeIsOnStory = (g : StrandsInWorld) (t : ProgramTeller) → WholeStory g t → t.has_ended ≡ true → OnStory g t

-- A pause that comes puts its strand off to a tick in range.
abbrev pub DueFits : Type 0
DueFits =
    (g : StrandsInWorld) (t : ProgramTeller) (left k due : ℕ) (in_start : Bool) (ready : List Note) (h h' : Held) (ts : List (Thread Held)) (os : List Outcome) (made : List Note) (x : Note)
    (used ticks taken : ℕ)
    → InTurn g t left k due in_start ready h ts → Stretch g.program.source (plan_of g.program (strand_at g.program k)) h os made used h' → used ≤ left
    → ready ++ made ≡ x ∷ [] → x.event ≡ paused ticks taken → ticks ≤ longest_pause → due + ticks ≤ longest_pause * g.steps
