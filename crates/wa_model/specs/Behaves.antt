-- What a rewritten module owes its original: the headline's relation on runs.
use Rattle.std.specs.Prelude.{◌≡◌, ℕ, suc, ◌+◌, ◌≤◌, ◌<◌, ◌⊎◌, ◌++◌, List, [], ◌∷◌, map, take, Option, Some, None, Bool, true, All, Contains, slice_get}
use Rattle.std.specs.List.{filter_map}
use Rattle.wa_types.specs.declared.values.Value.TheVariants as V
use Rattle.wa_types.specs.Syntax.{Func, Module}
use Rattle.wa_types.specs.Modules.{imported, imported_global, defined_at}
use Rattle.wa_types.specs.Sizes.{WellFormed}
use Rattle.wa_types.specs.Pausing.{Settings, Listed, TellsMayPause, Numbered}
use Rattle.wa_types.specs.Frames.{Suspended, HoldsBytes, word, Image}
use Rattle.wa_types.specs.Bounds.{Bound}
use Rattle.wa_types.specs.Typing.{GlobalType}
use Rattle.wa_types.specs.Runtime.{global_space}
use Rattle.wa_model.specs.declared.answers.Area.{Area}
use Rattle.wa_model.specs.declared.events.End.TheVariants.{BytesOut, ElementsOut, HostLimit, UnwindTrap}
use Rattle.wa_model.specs.Outside.{Call, Event, called, paused, ended}
use Rattle.wa_model.specs.Store.{Store}
use Rattle.wa_model.specs.Plan.{AreLawful, EntryFits, Plan, Outcome, given, refused, OutcomeFits, Fits}
use Rattle.wa_model.specs.Blocking.{Note, events_of, Blocking, store_of}
use Rattle.wa_model.specs.Untouched.{Untouched}
use Rattle.wa_model.specs.Protocol.{Held, Protocol, busy, rewinds, store_held}
use Rattle.wa_model.specs.Step.{Next, asks, step}
use Rattle.wa_model.specs.Expected.{Expected, SameEnd}

-- the first list begins the second
abbrev pub IsPrefix : {X : Type 0} → List X → List X → Type 0
IsPrefix {X} xs ys = (rest : List X) × (ys ≡ xs ++ rest)

-- an activation stands at a numbered call of an instrumented function
pub record StandsNumbered (m : Module) (s : Settings) (which : List Bool) (a : Suspended) : Type 0 where
  pub instrumented : slice_get which a.func ≡ Some true
  pub numbered : (f : Func) × (defined_at m a.func ≡ Some f) × Contains (Numbered m s which f) a.place

-- at a pause every activation of the stack does
abbrev pub PauseNumbered : Module → Settings → List Bool → List Suspended → Option ℕ → Type 0
PauseNumbered m s which stack None = Unit {0}
PauseNumbered m s which stack (Some ticks) = All (StandsNumbered m s which) stack

-- at each pause every activation does
abbrev pub PausesNumbered : Module → Settings → List Bool → List Note → Type 0
PausesNumbered m s which notes = All (λ (x : Note). PauseNumbered m s which x.stack x.pause) notes

-- the stack of a call that pauses
abbrev pub stack_if : List Suspended → Option ℕ → Option (List Suspended)
stack_if stack None = None
stack_if stack (Some ticks) = Some stack

-- the stacks that the pauses of a run suspend
abbrev pub pause_stacks : List Note → List (List Suspended)
pause_stacks notes = filter_map (λ (x : Note). stack_if x.stack x.pause) notes

-- The runs that are compared: the plan fits and tells the listed imports, outcomes are in range, and up to a cost of n the blocking run doesn't touch the area.
pub record Compared (m : Module) (s : Settings) (plan : Plan) (os : List Outcome) (n : ℕ) : Type 0 where
  pub fits : Fits m plan
  pub listed : plan.listed ≡ Some (Listed m s)
  pub outcomes : All OutcomeFits os
  pub untouched : Untouched m plan os n

-- the notes of a run with blocking imports up to a cost of n, with its pauses shown
abbrev pub expected_notes : Module → Settings → Plan → List Outcome → ℕ → List Note
expected_notes m s plan os n = Expected m s.policy plan.area (Blocking m plan os n).events

-- the notes of a rewritten module under the protocol up to a cost of n
abbrev pub protocol_notes : Module → Plan → List Outcome → ℕ → List Note
protocol_notes p plan os n = (Protocol p plan os n).events

-- what has to hold at a pause, and only there
abbrev pub AtPaused : Event → Type 0 → Type 0
AtPaused (paused ticks used) T = T
AtPaused _ T = Unit {0}

-- what has to hold where the module may be called: at each event but the ends of an instantiation that fails and of an unwind
abbrev pub AtCalls : Event → Type 0 → Type 0
AtCalls (ended (ElementsOut n)) T = Unit {0}
AtCalls (ended (BytesOut n)) T = Unit {0}
AtCalls (ended (HostLimit entries found)) T = Unit {0}
AtCalls (ended (UnwindTrap trap used len)) T = Unit {0}
AtCalls _ T = T

-- since this store the location word has come back to the start of the frames, and every other byte of the area is as it was
pub record AreaKept (area : Area) (at_pause now : Store) : Type 0 where
  pub location : HoldsBytes now.memory area.at (word (area.at + 8))
  pub others : (x : ℕ) → area.at + 4 ≤ x → x < area.at + area.len → slice_get now.memory x ≡ slice_get at_pause.memory x

-- What a note of the rewritten module owes the expected note beside it, which shows the stack: one event; stores agree; at a pause the area
-- holds the stack's image; an answer behind a pause has read the frames, and has changed nothing else of the area; and where the module may be
-- called the state is 0.
pub record SameNote (m : Module) (s : Settings) (which : List Bool) (area : Area) (x y : Note) : Type 0 where
  pub event : x.event ≡ y.event
  pub ends : SameEnd (global_space m) area x.store y.store
  pub image : AtPaused y.event (Image m s which x.stack area.at area.len y.store.memory)
  pub kept : (at_pause : Store) → y.since ≡ Some at_pause → AreaKept area at_pause y.store
  pub state : AtCalls y.event (slice_get y.store.globals (global_space m) ≡ Some (V.I32 0))

-- an event that is neither a pause nor the trap of an unwind
abbrev pub unless_pause : Event → Option Event
unless_pause (paused ticks used) = None
unless_pause (ended (UnwindTrap trap used len)) = None
unless_pause e = Some e

-- without Paused and UnwindTrap
abbrev pub without_pauses : List Event → List Event
without_pauses events = filter_map unless_pause events

-- A moment of a run with blocking imports within a cost of n, with these events made: where it stands after some cost, or at an event.
abbrev pub IsMoment : Module → Plan → List Outcome → ℕ → List Event → Store → Type 0
IsMoment m plan os n events s =
    ((j : ℕ) × (j ≤ n) × (events ≡ events_of (Blocking m plan os j).events) × (s ≡ store_of (Blocking m plan os j).last))
    ⊎ ((i : ℕ) × (x : Note) × (slice_get (Blocking m plan os n).events i ≡ Some x) × (events ≡ events_of (take (suc i) (Blocking m plan os n).events)) × (s ≡ x.store))

-- the call of an import that is told last, once this event is told too
abbrev pub then_called : Option Call → Event → Option Call
then_called before (called c) = Some c
then_called before _ = before

-- the call of an import that these events tell last, else the one before them
abbrev pub last_called : Option Call → List Event → Option Call
last_called before [] = before
last_called before (e ∷ events) = last_called (then_called before e) events

-- a reduction that calls an import makes this call
abbrev pub MakesCall : Option Call → Next → Type 0
MakesCall told (asks k import args waits) = told ≡ Some (record { import = import; args = args })
MakesCall told _ = Unit {0}

-- where a rewound entry calls an import, it makes this call
abbrev pub RewindsTo : Module → Option Call → Held → Type 0
RewindsTo p told (busy (rewinds e i a at_pause) c l) = MakesCall told (step p c)
RewindsTo p told _ = Unit {0}

-- The rewritten p behaves like m, for one plan, outcomes and cost, where these notes are expected of m's run; `which` tells what may pause.
pub record BehavesOn (m : Module) (s : Settings) (p : Module) (plan : Plan) (os : List Outcome) (n : ℕ) (which : List Bool) (expected : List Note) : Type 0 where
  -- it gets as far, within the bound
  pub reaches : IsPrefix (events_of expected) (events_of (protocol_notes p plan os (Bound m n (pause_stacks (Blocking m plan os n).events))))
  -- it does nothing else, and is never the cheaper one: this follows from `notes`, and stands here for readers
  pub follows : IsPrefix (events_of (protocol_notes p plan os n)) (events_of expected)
  -- each of its notes has an expected one beside it: stores, images and what is kept of the area are right at each event
  pub notes : (i : ℕ) (y : Note) → slice_get (protocol_notes p plan os n) i ≡ Some y → (x : Note) × (slice_get expected i ≡ Some x) × SameNote m s which plan.area x y
  -- between events too the store is one that the original has at a moment with the same events
  pub moments : (events : List Event) × (at : Store) × IsMoment m plan os n events at × (events ≡ without_pauses (events_of (protocol_notes p plan os n)))
      × SameEnd (global_space m) plan.area at (store_held (Protocol p plan os n).last)
  -- where a rewound entry calls an import, it makes the call that was told last
  pub again : RewindsTo p (last_called None (events_of (protocol_notes p plan os n))) (Protocol p plan os n).last

-- For every plan, outcomes and cost at which each pause finds its activations at numbered calls, the rewritten module behaves like its
-- original, whose numbers lie in the ranges of their types: else what passes through a frame comes back changed.
abbrev pub Behaves : Module → Settings → Module → Type 0
Behaves m s p =
    WellFormed m → (which : List Bool) → TellsMayPause m s which → (plan : Plan) (os : List Outcome) (n : ℕ)
    → Compared m s plan os n → PausesNumbered m s which (Blocking m plan os n).events → BehavesOn m s p plan os n which (expected_notes m s plan os n)

-- ---- runs in which nothing pauses

-- an answer doesn't pause
abbrev pub NoTicks : Outcome → Type 0
NoTicks (given a) = a.ticks ≡ 0
NoTicks (refused e) = Unit {0}

-- A plan's values and entries fit the original; outcomes are in range, and none pauses. Of the area nothing is asked: it only bounds pokes.
pub record GivenUnpaused (m : Module) (plan : Plan) (os : List Outcome) : Type 0 where
  pub globals : AreLawful (map (λ (g : GlobalType). g.ty) (imported imported_global m)) plan.globals
  pub entries : All (EntryFits m) plan.entries
  pub outcomes : All OutcomeFits os
  pub unpaused : All NoTicks os

-- the original's globals, of which there are so many, and the whole memory are equal
pub record SameWhole (globals : ℕ) (s s' : Store) : Type 0 where
  pub globals_same : (x : ℕ) → x < globals → slice_get s.globals x ≡ slice_get s'.globals x
  pub memory : s.memory ≡ s'.memory

-- One event, and such stores; where the module may be called the state, the global behind the original's, is 0.
pub record SameAt (globals : ℕ) (x y : Note) : Type 0 where
  pub event : x.event ≡ y.event
  pub stores : SameWhole globals x.store y.store
  pub state : AtCalls y.event (slice_get y.store.globals globals ≡ Some (V.I32 0))

-- The rewritten module does what its original does with blocking imports, for one plan, outcomes and cost: fields as the first four of `BehavesOn`.
pub record RunsAlike (m p : Module) (plan : Plan) (os : List Outcome) (n : ℕ) : Type 0 where
  pub reaches : IsPrefix (events_of (Blocking m plan os n).events) (events_of (protocol_notes p plan os (Bound m n [])))
  pub follows : IsPrefix (events_of (protocol_notes p plan os n)) (events_of (Blocking m plan os n).events)
  pub notes : (i : ℕ) (y : Note) → slice_get (protocol_notes p plan os n) i ≡ Some y → (x : Note) × (slice_get (Blocking m plan os n).events i ≡ Some x) × SameAt (global_space m) x y
  pub moments : (events : List Event) × (at : Store) × IsMoment m plan os n events at × (events ≡ events_of (protocol_notes p plan os n))
      × SameWhole (global_space m) at (store_held (Protocol p plan os n).last)

-- Where nothing pauses it does so under any area, whatever the program touches. A module without a memory is compared over the page of `Base`.
abbrev pub BehavesUnpaused : Module → Module → Type 0
BehavesUnpaused m p = WellFormed m → (plan : Plan) (os : List Outcome) (n : ℕ) → GivenUnpaused m plan os → RunsAlike m p plan os n
