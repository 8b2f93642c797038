-- Programs with strands, under the protocol and with blocking imports, and what a rewritten module's strands owe its original's.
use Rattle.std.specs.Prelude.{◌≡◌, ℕ, ◌+◌, ◌≤◌, ◌<◌, ◌⊎◌, nat_lt, if◌then◌else◌, List, [], ◌∷◌, ◌++◌, length, map, drop, Option, Some, None, Bool, true, false, All, slice_get}
use Rattle.std.specs.Option.{option_to_list, unwrap_or}
use Rattle.wa_types.specs.declared.values.Value.{Value}
use Rattle.wa_types.specs.declared.values.Value.TheVariants as V
use Rattle.wa_types.specs.Syntax.{Module}
use Rattle.wa_types.specs.Base.{Base}
use Rattle.wa_types.specs.Bounds.{Bound}
use Rattle.wa_types.specs.Modules.{func_type_at}
use Rattle.wa_types.specs.Pausing.{Listed, Settings, TellsMayPause}
use Rattle.wa_types.specs.Frames.{Fit, Image, Room, Suspended}
use Rattle.wa_types.specs.Runtime.{global_space}
use Rattle.wa_types.specs.Sizes.{WellFormed}
use Rattle.wa_model.specs.declared.answers.Area.{Area}
use Rattle.wa_model.specs.declared.answers.Said.{Said}
use Rattle.wa_model.specs.declared.answers.Said.TheVariants as S
use Rattle.wa_model.specs.declared.events.End.{End}
use Rattle.wa_model.specs.Outside.{Answer, Event}
use Rattle.wa_model.specs.Machine.{Turn, stops, goes, Ran, still}
use Rattle.wa_model.specs.Store.{Store}
use Rattle.wa_model.specs.Configuration.{Configuration}
use Rattle.wa_model.specs.Step.{Next, asks, step}
use Rattle.wa_model.specs.Instantiation.{opening}
use Rattle.wa_model.specs.Plan.{Entry, Fits, Outcome, OutcomeFits, Plan, given}
use Rattle.wa_model.specs.Blocking.{Left, Note, State, Task, all_left, begins, begun, between, blocking, call_note, done_notes, fault_of, halts, inside, is_start, no_store, on_to, overlap}
use Rattle.wa_model.specs.Blocking.{pause_of, poked, resumed, runs, stack_at, store_of, with_outcomes}
use Rattle.wa_model.specs.Protocol.{Held, busy, calling, exports_of, free, held_begun, held_on, is_running, protocol, rewinds, starting, store_held}
use Rattle.wa_model.specs.Behaves.{AreaKept, AtCalls, AtPaused, IsPrefix, PauseNumbered, pause_stacks}
use Rattle.wa_model.specs.Untouched.{IsCalm}
use Rattle.run_theory.specs.Shown.{shown_within_at}
use Rattle.headline.specs.Told.{answer_notes}
use Rattle.strand_laws.specs.Woven.{Loom, Ready, Told, Woven, notes_told, standing_now, woven_run}

-- A strand as it is told: its area and its entries.
pub record Strand : Type 0 where
  pub area : Area
  pub entries : List Entry

-- A program with strands, of which there is one at least.
pub record StrandProgram : Type 0 where
  pub source : Module
  pub globals : List Value
  pub listed : Option (List Bool)
  pub strands : List Strand

-- the same strands over another module
abbrev pub with_source : StrandProgram → Module → StrandProgram
with_source g p = record { source = p; globals = g.globals; listed = g.listed; strands = g.strands }

-- the areas of all strands
abbrev pub areas_of : StrandProgram → List Area
areas_of g = map (λ (x : Strand). x.area) g.strands

-- the plan of one of its strands: answers leave the areas of all alone
abbrev pub plan_of : StrandProgram → Strand → Plan
plan_of g s = record { globals = g.globals; entries = s.entries; area = s.area; others = areas_of g; listed = g.listed }

-- no strand
abbrev pub no_strand : Strand
no_strand = record { area = record { at = 0; len = 0 }; entries = [] }

-- the strand of this number
abbrev pub strand_at : StrandProgram → ℕ → Strand
strand_at g i = unwrap_or (slice_get g.strands i) no_strand

-- each strand's outcomes in front of where it begins; those of the first are told apart
abbrev pub beginnings : {S : Type 0} → (Left → S) → StrandProgram → List Strand → List (List Outcome) → List S
beginnings begin g (s ∷ ss) (os ∷ oss) = begin (all_left (plan_of g s) os) ∷ beginnings begin g ss oss
beginnings begin g _ _ = []

-- the outcomes of the first
abbrev pub first_outcomes : List (List Outcome) → List Outcome
first_outcomes [] = []
first_outcomes (os ∷ oss) = os

-- the outcomes of the strand of this number
abbrev pub outcomes_at : List (List Outcome) → ℕ → List Outcome
outcomes_at oss i = unwrap_or (slice_get oss i) []

-- ---- under the protocol

-- a strand's turn begins: it is rewound over the store of the moment, from which on it keeps its area, or its first entry is called
abbrev pub held_wakes : Store → Held → Ran Held Note
held_wakes s (free old l) = record { events = done_notes s l.entries; last = held_on s l l.entries }
held_wakes s (calling (rewinds e i a since) old f args th l) = still (calling (rewinds e i a s) s f args th l)
held_wakes s h = still h

-- it is in the start function
abbrev pub held_starts : Held → Bool
held_starts (starting f s l) = true
held_starts (busy (is_running task) c l) = is_start task
held_starts _ = false

-- the strands of a prepared module under the protocol
abbrev pub held_loom : StrandProgram → Loom Held
held_loom g = record {
  next = λ i h. protocol g.source (exports_of g.source) (plan_of g (strand_at g i)) h;
  wakes = held_wakes;
  store = store_held;
  starts = held_starts;
}

-- The notes of a prepared module's strands up to a total cost of n, each with its outcomes, and where they then stand.
abbrev pub ProtocolStrands : StrandProgram → List (List Outcome) → ℕ → Ran (Woven Held) Told
ProtocolStrands g oss n =
    woven_run (held_loom g) n (held_begun g.source.start (all_left (plan_of g (strand_at g 0)) (first_outcomes oss)) (opening g.source g.globals))
    (beginnings (free no_store) g (drop 1 g.strands) (drop 1 oss))

-- ---- with blocking imports

-- Where a strand of an original stands: it goes on; or its call of an import waits for an answer behind a pause.
pub data Strung : Type 0 where
  on : (state : State) → Strung
  waits : (task : Task) → (config : Configuration) → (answer : Answer) → (left : Left) → Strung

-- the store there
abbrev pub strung_store : Strung → Store
strung_store (on t) = store_of t
strung_store (waits task c a l) = c.store

-- it is in the start function
abbrev pub strung_starts : Strung → Bool
strung_starts (on (begins x s l)) = true
strung_starts (on (runs task c l)) = is_start task
strung_starts _ = false

-- where a call goes on that waited, once this was said: a trap ends the strand
abbrev pub told_on : Said → Task → Configuration → Store → Left → State
told_on (S.Value v) task c s l = runs task (resumed c s (option_to_list v)) l
told_on S.Trap task c s l = halts s

-- a strand's turn begins: its call is answered over the store, or its first entry is called
abbrev pub strung_wakes : Store → Strung → Ran Strung Note
strung_wakes s (waits task c a l) = record { events = answer_notes a.said (poked s a.pokes); last = on (told_on a.said task c (poked s a.pokes) l) }
strung_wakes s (on (between old l)) = record { events = done_notes s l.entries; last = on (on_to s l l.entries) }
strung_wakes s t = still t

-- a blocking move as it is
abbrev pub lifted : Turn State Note → Turn Strung Note
lifted stops = stops
lifted (goes k es t) = goes k es (on t)

-- what pauses take, and the area
pub record Space : Type 0 where
  pub room : List Suspended → ℕ
  pub fit : List Suspended → ℕ
  pub len : ℕ

-- a pause: the call is told, and how it ends; the answer waits, where the frames have room
abbrev pub strung_pauses : Space → ℕ → Note → (ticks : ℕ) → Task → Configuration → Answer → Left → Turn Strung Note
strung_pauses sp k x ticks task d a l =
    goes k (shown_within_at sp.room sp.fit sp.len x (Some ticks) []) (if nat_lt sp.len (sp.room x.stack) then on (halts d.store) else waits task d a l)

-- by whether an answer passes its tests and pauses
abbrev pub strung_tested : Module → Space → Turn State Note → ℕ → (import : ℕ) → List Value → Task → Configuration → Left → Answer → Option End → Option ℕ → Turn Strung Note
strung_tested m sp plain k import args task d l a None (Some ticks) =
    strung_pauses sp k (call_note import args d.store (stack_at m (inside task d)) (Some ticks)) ticks task d a l
strung_tested m sp plain k import args task d l a _ _ = lifted plain

-- by the outcome that a call takes
abbrev pub strung_asked : Module → Plan → Space → Turn State Note → ℕ → (import : ℕ) → List Value → Task → Configuration → Left → List Outcome → Turn Strung Note
strung_asked m plan sp plain k import args task d l (given a ∷ os) =
    strung_tested m sp plain k import args task d (with_outcomes l os) a (fault_of (func_type_at m import).results (length d.store.memory) plan (is_start task) import a) (pause_of a.ticks)
strung_asked m plan sp plain k import args task d l _ = lifted plain

-- by what comes next
abbrev pub strung_next : Module → Plan → Space → Turn State Note → Task → Left → Next → Turn Strung Note
strung_next m plan sp plain task l (asks k import args d) = strung_asked m plan sp plain k import args task d l l.outcomes
strung_next m plan sp plain task l _ = lifted plain

-- the machine of a strand whose imports block, which stands at its pauses
abbrev pub strung : Module → Plan → Space → Strung → Turn Strung Note
strung m plan sp (on (runs task c l)) = strung_next m plan sp (blocking m plan (runs task c l)) task l (step m c)
strung m plan sp (on t) = lifted (blocking m plan t)
strung m plan sp (waits task c a l) = stops

-- where a run stands, as one of strands
abbrev pub strung_from : Ran State Note → Ran Strung Note
strung_from r = record { events = r.events; last = on r.last }

-- what the pauses of a strand take
abbrev pub space_of : Settings → Module → Strand → Space
space_of s m x = record { room = Room m s.policy; fit = λ stack. Fit m s.policy stack x.area.len; len = x.area.len }

-- the strands of an original
abbrev pub strung_loom : Settings → StrandProgram → Loom Strung
strung_loom s g = record {
  next = λ i t. strung (Base g.source) (plan_of g (strand_at g i)) (space_of s g.source (strand_at g i)) t;
  wakes = strung_wakes;
  store = strung_store;
  starts = strung_starts;
}

-- The notes of an original's strands up to a total cost of n, with their pauses, and where they then stand.
abbrev pub BlockingStrands : Settings → StrandProgram → List (List Outcome) → ℕ → Ran (Woven Strung) Told
BlockingStrands s g oss n =
    woven_run (strung_loom s g) n (strung_from (begun (Base g.source).start (all_left (plan_of g (strand_at g 0)) (first_outcomes oss)) (opening (Base g.source) g.globals)))
    (beginnings (λ l. on (between no_store l)) g (drop 1 g.strands) (drop 1 oss))

-- ---- what both have in common

-- The globals of the original, of which there are so many, the memory's size and the memory outside all areas are equal.
pub record SameOff (globals : ℕ) (areas : List Area) (s s' : Store) : Type 0 where
  pub globals_same : (x : ℕ) → x < globals → slice_get s.globals x ≡ slice_get s'.globals x
  pub size : length s.memory ≡ length s'.memory
  pub outside : (x : ℕ) → All (λ (a : Area). (x < a.at) ⊎ (a.at + a.len ≤ x)) areas → slice_get s.memory x ≡ slice_get s'.memory x

-- What a note of a strand of the rewritten module owes the note beside it: the same strand and event; the stores agree outside all
-- areas; at a pause the strand's area holds the image of the stack; an answer behind a pause has read the frames since its turn
-- began, and has changed nothing else of that area; and where the module may be called the state is 0.
pub record SameTold (s : Settings) (which : List Bool) (g : StrandProgram) (x y : Told) : Type 0 where
  pub strand : x.strand ≡ y.strand
  pub event : x.note.event ≡ y.note.event
  pub ends : SameOff (global_space g.source) (areas_of g) x.note.store y.note.store
  pub image : AtPaused y.note.event (Image g.source s which x.note.stack (strand_at g x.strand).area.at (strand_at g x.strand).area.len y.note.store.memory)
  pub kept : (turn_began : Store) → y.note.since ≡ Some turn_began → AreaKept (strand_at g x.strand).area turn_began y.note.store
  pub state : AtCalls y.note.event (slice_get y.note.store.globals (global_space g.source) ≡ Some (V.I32 0))

-- ---- premises

-- the next move of a strand keeps off these areas
abbrev pub IsCalmAt : List Strand → Strung → Type 0
IsCalmAt ss (on t) = All (λ (s : Strand). IsCalm s.area t) ss
IsCalmAt ss (waits task c a l) = Unit {0}

-- so does that of the strand that goes on
abbrev pub IsCalmNow : List Strand → Option (Ready Strung) → Type 0
IsCalmNow ss None = Unit {0}
IsCalmNow ss (Some r) = IsCalmAt ss r.at

-- Up to a cost of n no load, store, copy or fill of a strand, that doesn't trap, overlaps the area of any; a copy also not by its source.
abbrev pub StrandsUntouched : Settings → StrandProgram → List (List Outcome) → ℕ → Type 0
StrandsUntouched s g oss n = (j : ℕ) → j < n → IsCalmNow g.strands (standing_now (BlockingStrands s g oss j).last)

-- each pause within a cost of n finds its activations at numbered calls
abbrev pub StrandsNumbered : Settings → List Bool → StrandProgram → List (List Outcome) → ℕ → Type 0
StrandsNumbered s which g oss n = All (λ (t : Told). PauseNumbered g.source s which t.note.stack t.note.pause) (BlockingStrands s g oss n).events

-- the ranges share no byte
abbrev pub AreApart : Area → Area → Type 0
AreApart a b = overlap a.at a.len b.at b.len ≡ false

-- The runs that are compared: each strand's plan fits the original and tells the listed imports; areas share no byte; outcomes are in
-- range, one list for each strand; no run touches an area.
pub record StrandsCompared (s : Settings) (g : StrandProgram) (oss : List (List Outcome)) (n : ℕ) : Type 0 where
  pub some : 0 < length g.strands
  pub fits : All (λ (x : Strand). Fits g.source (plan_of g x)) g.strands
  pub listed : g.listed ≡ Some (Listed g.source s)
  pub apart : (i j : ℕ) → i < length g.strands → j < length g.strands → (i ≡ j → ⊥) → AreApart (strand_at g i).area (strand_at g j).area
  pub wide : length oss ≡ length g.strands
  pub outcomes : All (λ (os : List Outcome). All OutcomeFits os) oss
  pub untouched : StrandsUntouched s g oss n

-- an event of a strand
pub record StrandEvent : Type 0 where
  pub strand : ℕ
  pub event : Event

-- the events of told notes, each with its strand
abbrev pub events_told : List Told → List StrandEvent
events_told ts = map (λ (t : Told). record { strand = t.strand; event = t.note.event }) ts

-- the store of the strand that goes on
abbrev pub store_woven : {S : Type 0} → (S → Store) → Option (Ready S) → Store
store_woven store None = no_store
store_woven store (Some r) = store r.at

-- a moment of the strands within a cost of n, at which these notes have been made
pub data StrandMoment (s : Settings) (g : StrandProgram) (oss : List (List Outcome)) (n : ℕ) : List Told → Store → Type 0 where
  at_cost : (j : ℕ) → j ≤ n → StrandMoment s g oss n (BlockingStrands s g oss j).events (store_woven strung_store (standing_now (BlockingStrands s g oss j).last))
  at_note : (before behind : List Told) → (x : Told) → (BlockingStrands s g oss n).events ≡ before ++ x ∷ behind → StrandMoment s g oss n (before ++ x ∷ []) x.note.store

-- this store agrees with that of the strand that goes on, if one does
abbrev pub AgreesNow : StrandProgram → Store → Option (Ready Held) → Type 0
AgreesNow g s None = Unit {0}
AgreesNow g s (Some r) = SameOff (global_space g.source) (areas_of g) s (store_held r.at)

-- The strands of the rewritten module p behave like those of its original, which this program has, for these outcomes and a cost.
pub record StrandsBehaveOn (s : Settings) (which : List Bool) (g : StrandProgram) (p : Module) (oss : List (List Outcome)) (n : ℕ) : Type 0 where
  -- they get as far, within the bound, which sums over the pauses of all
  pub reaches : IsPrefix (events_told (BlockingStrands s g oss n).events)
      (events_told (ProtocolStrands (with_source g p) oss (Bound g.source n (pause_stacks (notes_told (BlockingStrands s g oss n).events)))).events)
  -- each note has one beside it, and they are never the cheaper ones
  pub notes : (i : ℕ) (y : Told) → slice_get (ProtocolStrands (with_source g p) oss n).events i ≡ Some y
      → (x : Told) × (slice_get (BlockingStrands s g oss n).events i ≡ Some x) × SameTold s which g x y
  -- between events too the store is one that the original has at a moment with the same events
  pub moments : (ts : List Told) × (at : Store) × StrandMoment s g oss n ts at × (events_told ts ≡ events_told (ProtocolStrands (with_source g p) oss n).events)
      × AgreesNow g at (standing_now (ProtocolStrands (with_source g p) oss n).last)
  -- where no strand goes on any more, none of the original's does; and where none of those does, and these have told as many notes, none of these does
  pub over : standing_now (ProtocolStrands (with_source g p) oss n).last ≡ None → standing_now (BlockingStrands s g oss n).last ≡ None
  pub over_too : standing_now (BlockingStrands s g oss n).last ≡ None → length (BlockingStrands s g oss n).events ≡ length (ProtocolStrands (with_source g p) oss n).events
      → standing_now (ProtocolStrands (with_source g p) oss n).last ≡ None

-- For every program with strands, outcomes and cost at which each pause finds its activations at numbered calls, they do.
abbrev pub StrandsBehave : Module → Settings → Module → Type 0
StrandsBehave m s p =
    WellFormed m → (which : List Bool) → TellsMayPause m s which → (g : StrandProgram) → g.source ≡ m → (oss : List (List Outcome)) (n : ℕ)
    → StrandsCompared s g oss n → StrandsNumbered s which g oss n → StrandsBehaveOn s which g p oss n
