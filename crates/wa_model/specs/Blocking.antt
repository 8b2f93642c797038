-- Runs of a module whose imports block: each call of an import is answered at once.
use Rattle.std.specs.Prelude.{ℕ, zero, suc, ◌+◌, nat_lt, nat_le, not, ◌&&◌, if◌then◌else◌, List, [], ◌∷◌, ◌++◌, length, map, Option, Some, None, Bool, true, false, slice_get}
use Rattle.std.specs.List.{list_all}
use Rattle.std.specs.Option.{option_to_list}
use Rattle.wa_types.specs.declared.values.ValType.{ValType}
use Rattle.wa_types.specs.declared.values.Value.{Value}
use Rattle.wa_types.specs.declared.values.Trap.TheVariants.{Import}
use Rattle.wa_types.specs.Syntax.{Func, Module}
use Rattle.wa_types.specs.Memory.{overwritten}
use Rattle.wa_types.specs.Modules.{func_imports, func_type_at, defined_at}
use Rattle.wa_types.specs.Pausing.{is_told}
use Rattle.wa_types.specs.Frames.{Suspended}
use Rattle.wa_types.specs.Encoding.{same_type}
use Rattle.wa_types.specs.Typing.{type_of}
use Rattle.wa_model.specs.declared.answers.Area.{Area}
use Rattle.wa_model.specs.declared.answers.Said.{Said}
use Rattle.wa_model.specs.declared.answers.Said.TheVariants as S
use Rattle.wa_model.specs.declared.events.End.{End}
use Rattle.wa_model.specs.declared.events.End.TheVariants.{Done, Trapped, BadAnswer, BadPoke, PauseInStart, UnlistedPause}
use Rattle.wa_model.specs.Outside.{Poke, Answer, Event, called, answered, returned, ended}
use Rattle.wa_model.specs.Machine.{Turn, stops, goes, Ran, after, still, run}
use Rattle.wa_model.specs.Store.{Store, with_memory}
use Rattle.wa_model.specs.Configuration.{Configuration, running, stack_of}
use Rattle.wa_model.specs.Step.{Next, steps, asks, returns, traps, stuck, entered, step}
use Rattle.wa_model.specs.Plan.{Entry, Plan, Outcome, given, refused}
use Rattle.wa_types.specs.Base.{Base}
use Rattle.wa_model.specs.Instantiation.{Opening, fails_as, opens, opening}

-- An event and the store at it; of a call the stack just before it, and the ticks where it pauses; of an answer behind a pause that pause's store.
pub record Note : Type 0 where
  pub event : Event
  pub store : Store
  pub stack : List Suspended
  pub pause : Option ℕ
  pub since : Option Store

-- the note of an event that is no call
abbrev pub note : Event → Store → Note
note e s = record { event = e; store = s; stack = []; pause = None; since = None }

-- the note of a call, with the stack just before it, and the ticks where its answer pauses
abbrev pub call_note : ℕ → List Value → Store → List Suspended → Option ℕ → Note
call_note import args s stack pause = record { event = called (record { import = import; args = args }); store = s; stack = stack; pause = pause; since = None }

-- the events of notes
abbrev pub events_of : List Note → List Event
events_of notes = map (λ (x : Note). x.event) notes

-- ---- an answer and its tests

-- a value of a result type
abbrev pub answers : List ValType → Option Value → Bool
answers [] None = true
answers (t ∷ []) (Some v) = same_type t (type_of v)
answers _ _ = false

-- some bytes of the one range are bytes of the other
abbrev pub overlap : (at len at' len' : ℕ) → Bool
overlap at len at' len' = nat_lt 0 len && nat_lt 0 len' && nat_lt at (at' + len') && nat_lt at' (at + len)

-- a poke lies off an area
abbrev pub is_off : Poke → Area → Bool
is_off p area = not (overlap p.at (length p.bytes) area.at area.len)

-- a poke lies inside a memory of this size, and off the areas
abbrev pub poke_fits : (size : ℕ) → List Area → Poke → Bool
poke_fits size areas p = nat_le (p.at + length p.bytes) size && list_all (is_off p) areas

-- the first poke that doesn't
abbrev pub bad_poke : (size : ℕ) → List Area → List Poke → Option End
bad_poke size areas [] = None
bad_poke size areas (p ∷ ps) = if poke_fits size areas p then bad_poke size areas ps else Some (BadPoke p.at (length p.bytes))

-- an import is told as unlisted
abbrev pub is_unlisted : Option (List Bool) → ℕ → Bool
is_unlisted None import = false
is_unlisted (Some listed) import = not (is_told (slice_get listed import))

-- the end by a pause inside the start function, or of an import that isn't listed
abbrev pub bad_pause : (in_start unlisted : Bool) → (import ticks : ℕ) → Option End
bad_pause in_start unlisted import zero = None
bad_pause true unlisted import (suc ticks) = Some (PauseInStart import)
bad_pause false unlisted import (suc ticks) = if unlisted then Some (UnlistedPause import) else None

-- the first that is told
abbrev pub or_else : Option End → Option End → Option End
or_else None second = second
or_else (Some e) second = Some e

-- the end by a value of another type than the import's result; a trap is no value
abbrev pub bad_value : List ValType → (import : ℕ) → Said → Option End
bad_value results import (S.Value v) = if answers results v then None else Some (BadAnswer import v)
bad_value results import S.Trap = None

-- The first test that an answer fails: a trap or a value of the type; pokes inside the memory, off the areas; no pause in start, or of one told as unlisted.
abbrev pub fault_of : List ValType → (size : ℕ) → Plan → (in_start : Bool) → (import : ℕ) → Answer → Option End
fault_of results size plan in_start import a =
    or_else (bad_value results import a.said) (or_else (bad_poke size (plan.area ∷ plan.others) a.pokes) (bad_pause in_start (is_unlisted plan.listed import) import a.ticks))

-- the ticks of an answer that pauses
abbrev pub pause_of : (ticks : ℕ) → Option ℕ
pause_of zero = None
pause_of (suc ticks) = Some (suc ticks)

-- with the pokes applied in order
abbrev pub poked_memory : List ℕ → List Poke → List ℕ
poked_memory memory [] = memory
poked_memory memory (p ∷ ps) = poked_memory (overwritten memory p.at p.bytes) ps

-- a store with the pokes applied to its memory
abbrev pub poked : Store → List Poke → Store
poked s pokes = with_memory s (poked_memory s.memory pokes)

-- a configuration that waits goes on, with these results on its operands
abbrev pub resumed : Configuration → Store → List Value → Configuration
resumed c s results = running s c.here.func c.under c.here.locals (results ++ c.here.operands) c.here.code c.here.labels

-- ---- the machine

-- What the host has called: the start function or an entry.
pub data Task : Type 0 where
  the_start : Task
  an_entry : (entry : Entry) → Task

-- The number of the next entry, or of the one that runs, the entries from there on or behind it, and the outcomes left.
pub record Left : Type 0 where
  pub number : ℕ
  pub entries : List Entry
  pub outcomes : List Outcome

-- the same with these outcomes left
abbrev pub with_outcomes : Left → List Outcome → Left
with_outcomes l outcomes = record { number = l.number; entries = l.entries; outcomes = outcomes }

-- What waits for an answer: an activation, or the host, which has called an import as the start function.
pub data Asker : Type 0 where
  inside : (task : Task) → (config : Configuration) → Asker
  outermost : (store : Store) → Asker

-- the store of what waits
abbrev pub store_at : Asker → Store
store_at (inside task c) = c.store
store_at (outermost s) = s

-- the stack of what waits; the host has none
abbrev pub stack_at : Module → Asker → List Suspended
stack_at m (inside task c) = stack_of m c
stack_at m (outermost s) = []

-- it is the start function that was called
abbrev pub is_start : Task → Bool
is_start the_start = true
is_start (an_entry e) = false

-- a call is inside the start function, or is it
abbrev pub in_start : Asker → Bool
in_start (inside task c) = is_start task
in_start (outermost s) = true

-- Where a run stands: an entry is to be called, the start function is to be called, code runs, or all is over.
pub data State : Type 0 where
  between : (store : Store) → (left : Left) → State
  begins : (func : ℕ) → (store : Store) → (left : Left) → State
  runs : (task : Task) → (config : Configuration) → (left : Left) → State
  halts : (store : Store) → State

-- after the last entry comes Done
abbrev pub done_notes : Store → List Entry → List Note
done_notes s [] = note (ended Done) s ∷ []
done_notes s (e ∷ es) = []

-- behind an entry comes the next one, if there is one
abbrev pub on_to : Store → Left → List Entry → State
on_to s l [] = halts s
on_to s l (e ∷ es) = between s l

-- the value of at most one result
abbrev pub value_of_results : List Value → Option Value
value_of_results [] = None
value_of_results (v ∷ vs) = Some v

-- the next entry has the next number
abbrev pub next_entry : Left → Left
next_entry l = record { number = suc l.number; entries = l.entries; outcomes = l.outcomes }

-- the start function or an entry has returned
abbrev pub task_back : ℕ → Task → List Value → Store → Left → Turn State Note
task_back k the_start results s l = goes k (done_notes s l.entries) (on_to s l l.entries)
task_back k (an_entry e) results s l = goes k (note (returned l.number (value_of_results results)) s ∷ done_notes s l.entries) (on_to s (next_entry l) l.entries)

-- an import that traps is told as it is answered, and ends the program
abbrev pub import_traps : Store → List Note
import_traps s = note (answered S.Trap) s ∷ note (ended (Trapped Import)) s ∷ []

-- what is said is told, and a value given to what waits for it
abbrev pub go_on : ℕ → Note → Said → Store → Left → Asker → Turn State Note
go_on k x (S.Value v) s l (inside task c) = goes k (x ∷ note (answered (S.Value v)) s ∷ []) (runs task (resumed c s (option_to_list v)) l)
go_on k x (S.Value v) s l (outermost old) = goes k (x ∷ note (answered (S.Value v)) s ∷ done_notes s l.entries) (on_to s l l.entries)
go_on k x S.Trap s l w = goes k (x ∷ import_traps s) (halts s)

-- a call is told, and then the end
abbrev pub ends_at_call : ℕ → Note → End → Turn State Note
ends_at_call k x e = goes k (x ∷ note (ended e) x.store ∷ []) (halts x.store)

-- by the first test that the answer fails
abbrev pub tested : Module → ℕ → (import : ℕ) → List Value → Asker → Left → Answer → Option End → Turn State Note
tested m k import args w l a (Some e) = ends_at_call k (call_note import args (store_at w) (stack_at m w) None) e
tested m k import args w l a None = go_on k (call_note import args (store_at w) (stack_at m w) (pause_of a.ticks)) a.said (poked (store_at w) a.pokes) l w

-- A call of an import makes Called and takes the next outcome. Where none is left the run stands there.
abbrev pub asked : Module → Plan → ℕ → (import : ℕ) → List Value → Asker → Left → List Outcome → Turn State Note
asked m plan k import args w l [] = goes k (call_note import args (store_at w) (stack_at m w) None ∷ []) (halts (store_at w))
asked m plan k import args w l (refused e ∷ os) = ends_at_call k (call_note import args (store_at w) (stack_at m w) None) e
asked m plan k import args w l (given a ∷ os) = tested m k import args w (with_outcomes l os) a (fault_of (func_type_at m import).results (length (store_at w).memory) plan (in_start w) import a)

-- by the module's own reduction
abbrev pub by_step : Module → Plan → Task → Left → Next → Turn State Note
by_step m plan task l (steps k d) = goes k [] (runs task d l)
by_step m plan task l (asks k import args d) = asked m plan k import args (inside task d) l l.outcomes
by_step m plan task l (returns k results s) = task_back k task results s l
by_step m plan task l (traps k trap s) = goes k (note (ended (Trapped trap)) s ∷ []) (halts s)
by_step m plan task l stuck = stops

-- a call of an entry costs 1 and its parameters
abbrev pub enters : Entry → Store → Left → Option Func → Turn State Note
enters e s l None = stops
enters e s l (Some f) = goes (length e.args) [] (runs (an_entry e) (entered s [] e.args e.func f) l)

-- the next of these entries is called
abbrev pub enter_next : Module → Store → Left → List Entry → Turn State Note
enter_next m s l [] = stops
enter_next m s l (e ∷ es) = enters e s (record { number = l.number; entries = es; outcomes = l.outcomes }) (defined_at m e.func)

-- the start function's call costs 1; it may be an import
abbrev pub start_called : Module → Plan → ℕ → Store → Left → Option Func → Turn State Note
start_called m plan x s l (Some f) = goes 0 [] (runs the_start (entered s [] [] x f) l)
start_called m plan x s l None = if nat_lt x (func_imports m) then asked m plan 0 x [] (outermost s) l l.outcomes else stops

-- the machine of an instance whose imports block
abbrev pub blocking : Module → Plan → State → Turn State Note
blocking m plan (between s l) = enter_next m s l l.entries
blocking m plan (begins x s l) = start_called m plan x s l (defined_at m x)
blocking m plan (runs task c l) = by_step m plan task l (step m c)
blocking m plan (halts s) = stops

-- ---- whole runs

-- no instance
abbrev pub no_store : Store
no_store = record { globals = []; memory = []; table = [] }

-- all entries and outcomes are left
abbrev pub all_left : Plan → List Outcome → Left
all_left plan os = record { number = 0; entries = plan.entries; outcomes = os }

-- where a run stands behind instantiation: at the call of the start function, else at the first entry
abbrev pub started : Store → Left → Option ℕ → Ran State Note
started s l None = record { events = done_notes s l.entries; last = on_to s l l.entries }
started s l (Some x) = still (begins x s l)

-- what stands before the first move: instantiation costs nothing
abbrev pub begun : Option ℕ → Left → Opening → Ran State Note
begun start l (fails_as e) = record { events = note (ended e) no_store ∷ []; last = halts no_store }
begun start l (opens s) = started s l start

-- a run that goes on from where it stands, up to a cost of n
abbrev pub continued : Module → Plan → ℕ → Ran State Note → Ran State Note
continued m plan n r = after r.events (run (blocking m plan) n r.last)

-- the run of a module as it is
abbrev pub blocking_run : Module → Plan → List Outcome → ℕ → Ran State Note
blocking_run m plan os n = continued m plan n (begun m.start (all_left plan os) (opening m plan.globals))

-- The notes of a blocking run up to a cost of n, and where it stands: instantiation, start, then the entries in order; an import's call is one step.
abbrev pub Blocking : Module → Plan → List Outcome → ℕ → Ran State Note
Blocking m plan os n = blocking_run (Base m) plan os n

-- the store where a run stands
abbrev pub store_of : State → Store
store_of (between s l) = s
store_of (begins x s l) = s
store_of (runs task c l) = c.store
store_of (halts s) = s
