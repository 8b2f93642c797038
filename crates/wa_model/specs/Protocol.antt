-- Runs of a prepared module under the host's protocol: a pause unwinds the stack into the area through the five exports,
-- and the entry is called again to rewind it.
use Rattle.std.specs.Prelude.{ℕ, ◌+◌, ◌-◌, ◌%◌, ◌^◌, nat_lt, nat_eq, if◌then◌else◌, List, [], ◌∷◌, length, map, Option, Some, None, Bool, false, codes}
use Rattle.std.specs.Option.{option_to_list}
use Rattle.std.specs.List.{find}
use Rattle.wa_types.specs.declared.values.Value.{Value}
use Rattle.wa_types.specs.declared.values.Value.TheVariants as V
use Rattle.wa_types.specs.declared.values.Trap.{Trap}
use Rattle.wa_types.specs.declared.values.Trap.TheVariants.{Import}
use Rattle.wa_types.specs.declared.syntax.Export.{Export}
use Rattle.wa_types.specs.Syntax.{Func, Module}
use Rattle.wa_types.specs.Memory.{bytes_of, bytes_at, number_of_bytes, overwritten}
use Rattle.wa_types.specs.Modules.{func_imports, func_type_at, defined_at}
use Rattle.wa_types.specs.Validity.{same_name}
use Rattle.wa_model.specs.declared.answers.Area.{Area}
use Rattle.wa_model.specs.declared.answers.Said.{Said}
use Rattle.wa_model.specs.declared.answers.Said.TheVariants as S
use Rattle.wa_model.specs.declared.events.End.{End}
use Rattle.wa_model.specs.declared.events.End.TheVariants.{Trapped, UnwindTrap, RewindTrap, Broken}
use Rattle.wa_model.specs.Outside.{Answer, answered, paused, returned, ended}
use Rattle.wa_model.specs.Machine.{Turn, stops, goes, Ran, after, still, run}
use Rattle.wa_model.specs.Store.{Store, with_memory}
use Rattle.wa_model.specs.Configuration.{Configuration}
use Rattle.wa_model.specs.Step.{Next, steps, asks, returns, traps, stuck, zero_of, entered, step}
use Rattle.wa_model.specs.Plan.{Entry, Plan, Outcome, given, refused}
use Rattle.wa_model.specs.Instantiation.{Opening, fails_as, opens, opening}
use Rattle.wa_model.specs.Blocking.{Note, note, call_note, fault_of, pause_of, poked, resumed, Task, the_start, an_entry, Left, with_outcomes, Asker, inside, outermost, store_at, stack_at}
use Rattle.wa_model.specs.Blocking.{in_start, done_notes, import_traps, value_of_results, next_entry, no_store, all_left}

-- The five exports, by the indices of their functions.
pub record Exports : Type 0 where
  pub start_unwind : ℕ
  pub stop_unwind : ℕ
  pub start_rewind : ℕ
  pub stop_rewind : ℕ
  pub get_state : ℕ

-- the index of an export that is there, else 0
abbrev pub index_of : Option Export → ℕ
index_of None = 0
index_of (Some e) = e.index

-- the index that is exported under a name
abbrev pub exported_as : Module → List ℕ → ℕ
exported_as p name = index_of (find (λ (e : Export). same_name e.name name) p.exports)

-- the five exports of a prepared module
abbrev pub exports_of : Module → Exports
exports_of p = record {
  start_unwind = exported_as p (codes "asyncify_start_unwind");
  stop_unwind = exported_as p (codes "asyncify_stop_unwind");
  start_rewind = exported_as p (codes "asyncify_start_rewind");
  stop_rewind = exported_as p (codes "asyncify_stop_rewind");
  get_state = exported_as p (codes "asyncify_get_state");
}

-- A program runs, unwinds for an import's answer, or rewinds for it; then the store of the pause is told.
pub data Phase : Type 0 where
  is_running : (task : Task) → Phase
  unwinds : (entry : Entry) → (import : ℕ) → (answer : Answer) → Phase
  rewinds : (entry : Entry) → (import : ℕ) → (answer : Answer) → (at_pause : Store) → Phase

-- What the host does once an export has returned that it called.
pub data Then : Type 0 where
  give_zero : (waits : Configuration) → Then  -- after start_unwind the import's call is given a zero
  test_unwound : Then  -- after get_state, called once the entry has returned
  pause_there : Then  -- after stop_unwind the program is paused
  call_again : Then  -- after start_rewind the entry is called again
  test_rewound : (waits : Configuration) → Then  -- after get_state, called at the suspended import
  give_answer : (waits : Configuration) → Then  -- after stop_rewind the answer is given

-- Where a run under the protocol stands: `free` to call an entry, `starting`, `busy` in a phase, `calling` an export that runs `aside`, `entering` again, or `over`.
pub data Held : Type 0 where
  free : (store : Store) → (left : Left) → Held
  starting : (func : ℕ) → (store : Store) → (left : Left) → Held
  busy : (phase : Phase) → (config : Configuration) → (left : Left) → Held
  calling : (phase : Phase) → (store : Store) → (func : ℕ) → (args : List Value) → (next : Then) → (left : Left) → Held
  aside : (phase : Phase) → (config : Configuration) → (next : Then) → (left : Left) → Held
  entering : (phase : Phase) → (entry : Entry) → (store : Store) → (left : Left) → Held
  over : (store : Store) → Held

-- ---- the area

-- a 32-bit word written at a place
abbrev pub put_word : List ℕ → ℕ → ℕ → List ℕ
put_word memory at n = overwritten memory at (bytes_of 4 n)

-- the location word becomes that of an empty stack, the end word that of the area's end
abbrev pub with_words : Store → Area → Store
with_words s area = with_memory s (put_word (put_word s.memory area.at (area.at + 8)) (area.at + 4) (area.at + area.len))

-- the location word minus the area's first place, modulo 2^32
abbrev pub used_of : Store → Area → ℕ
used_of s area = (number_of_bytes (bytes_at s.memory area.at 4) + 2 ^ 32 - area.at) % 2 ^ 32

-- ---- the machine

-- the end of a module that broke this rule of the protocol
abbrev pub broken : ℕ → ℕ → Store → Turn Held Note
broken k rule s = goes k (note (ended (Broken rule)) s ∷ []) (over s)

-- behind an entry comes the next one, if there is one
abbrev pub held_on : Store → Left → List Entry → Held
held_on s l [] = over s
held_on s l (e ∷ es) = free s l

-- the start function or an entry has returned while the program runs
abbrev pub held_back : ℕ → Task → List Value → Store → Left → Turn Held Note
held_back k the_start results s l = goes k (done_notes s l.entries) (held_on s l l.entries)
held_back k (an_entry e) results s l = goes k (note (returned l.number (value_of_results results)) s ∷ done_notes s l.entries) (held_on s (next_entry l) l.entries)

-- what is said without a pause is told, and a value given at once
abbrev pub held_given : ℕ → Note → Said → Store → Left → Asker → Turn Held Note
held_given k x (S.Value v) s l (inside task c) = goes k (x ∷ note (answered (S.Value v)) s ∷ []) (busy (is_running task) (resumed c s (option_to_list v)) l)
held_given k x (S.Value v) s l (outermost old) = goes k (x ∷ note (answered (S.Value v)) s ∷ done_notes s l.entries) (held_on s l l.entries)
held_given k x S.Trap s l w = goes k (x ∷ import_traps s) (over s)

-- a call is told, and then the end
abbrev pub held_ends : ℕ → Note → End → Turn Held Note
held_ends k x e = goes k (x ∷ note (ended e) x.store ∷ []) (over x.store)

-- a pause: the words are written, and start_unwind is called; no answer that pauses is accepted inside the start function
abbrev pub held_pauses : Exports → Plan → ℕ → Note → (import : ℕ) → Answer → Left → Asker → Turn Held Note
held_pauses x plan k called import a l (inside (an_entry e) c) =
    goes k (called ∷ []) (calling (unwinds e import a) (with_words c.store plan.area) x.start_unwind (V.I32 plan.area.at ∷ []) (give_zero c) l)
held_pauses x plan k called import a l _ = stops

-- by the first test that the answer fails, else by whether it pauses
abbrev pub held_tested : Module → Exports → Plan → ℕ → (import : ℕ) → List Value → Asker → Left → Answer → Option End → Option ℕ → Turn Held Note
held_tested p x plan k import args w l a (Some e) pause = held_ends k (call_note import args (store_at w) (stack_at p w) None) e
held_tested p x plan k import args w l a None None = held_given k (call_note import args (store_at w) (stack_at p w) None) a.said (poked (store_at w) a.pokes) l w
held_tested p x plan k import args w l a None (Some ticks) = held_pauses x plan k (call_note import args (store_at w) (stack_at p w) (Some ticks)) import a l w

-- a call of an import while the program runs
abbrev pub held_asked : Module → Exports → Plan → ℕ → (import : ℕ) → List Value → Asker → Left → List Outcome → Turn Held Note
held_asked p x plan k import args w l [] = goes k (call_note import args (store_at w) (stack_at p w) None ∷ []) (over (store_at w))
held_asked p x plan k import args w l (refused e ∷ os) = held_ends k (call_note import args (store_at w) (stack_at p w) None) e
held_asked p x plan k import args w l (given a ∷ os) =
    held_tested p x plan k import args w (with_outcomes l os) a (fault_of (func_type_at p import).results (length (store_at w).memory) plan (in_start w) import a) (pause_of a.ticks)

-- the end of a trap, by the phase
abbrev pub trap_end : Area → Phase → Trap → Store → End
trap_end area (is_running task) trap s = Trapped trap
trap_end area (unwinds e i a) trap s = UnwindTrap trap (used_of s area) area.len
trap_end area (rewinds e i a at_pause) trap s = RewindTrap trap

-- the program's own reductions
abbrev pub busy_step : Module → Exports → Plan → Phase → Left → Next → Turn Held Note
busy_step p x plan ph l (steps k d) = goes k [] (busy ph d l)
busy_step p x plan (is_running task) l (asks k import args d) = held_asked p x plan k import args (inside task d) l l.outcomes
busy_step p x plan (unwinds e i a) l (asks k import args d) = broken k 1 d.store
busy_step p x plan (rewinds e i a sp) l (asks k import args d) = if nat_eq import i then goes k [] (calling (rewinds e i a sp) d.store x.get_state [] (test_rewound d) l) else broken k 3 d.store
busy_step p x plan (is_running task) l (returns k results s) = held_back k task results s l
busy_step p x plan (unwinds e i a) l (returns k results s) = goes k [] (calling (unwinds e i a) s x.get_state [] test_unwound l)
busy_step p x plan (rewinds e i a sp) l (returns k results s) = broken k 5 s
busy_step p x plan ph l (traps k trap s) = goes k (note (ended (trap_end plan.area ph trap s)) s ∷ []) (over s)
busy_step p x plan ph l stuck = stops

-- the results are this one state
abbrev pub is_state : ℕ → List Value → Bool
is_state n (V.I32 k ∷ []) = nat_eq k n
is_state n _ = false

-- a zero of each result type
abbrev pub zeros_of : Module → ℕ → List Value
zeros_of p import = map zero_of (func_type_at p import).results

-- an answer behind a pause tells the store of that pause
abbrev pub answer_note : Said → Store → Store → Note
answer_note said s at_pause = record { event = answered said; store = s; stack = []; pause = None; since = Some at_pause }

-- what is said behind a pause is told, and a value given to what waits for it
abbrev pub held_resumed : ℕ → Entry → Said → (at_pause : Store) → Configuration → Left → Store → Turn Held Note
held_resumed k e (S.Value v) sp c l s = goes k (answer_note (S.Value v) s sp ∷ []) (busy (is_running (an_entry e)) (resumed c s (option_to_list v)) l)
held_resumed k e S.Trap sp c l s = goes k (answer_note S.Trap s sp ∷ note (ended (Trapped Import)) s ∷ []) (over s)

-- an export that the host called has returned
abbrev pub aside_back : Module → Exports → Plan → ℕ → Phase → Then → Left → List Value → Store → Turn Held Note
aside_back p x plan k (unwinds e i a) (give_zero c) l results s = goes k [] (busy (unwinds e i a) (resumed c s (zeros_of p i)) l)
aside_back p x plan k (unwinds e i a) test_unwound l results s = if is_state 1 results then goes k [] (calling (unwinds e i a) s x.stop_unwind [] pause_there l) else broken k 2 s
aside_back p x plan k (unwinds e i a) pause_there l results s =
    goes k (note (paused a.ticks (used_of s plan.area)) s ∷ []) (calling (rewinds e i a s) s x.start_rewind (V.I32 plan.area.at ∷ []) call_again l)
aside_back p x plan k (rewinds e i a sp) call_again l results s = goes k [] (entering (rewinds e i a sp) e s l)
aside_back p x plan k (rewinds e i a sp) (test_rewound c) l results s = if is_state 2 results then goes k [] (calling (rewinds e i a sp) s x.stop_rewind [] (give_answer c) l) else broken k 4 s
aside_back p x plan k (rewinds e i a sp) (give_answer c) l results s = held_resumed k e a.said sp c l (poked s a.pokes)
aside_back p x plan k ph th l results s = stops

-- by the reduction of an export that runs; it may call no import
abbrev pub aside_step : Module → Exports → Plan → Phase → Then → Left → Next → Turn Held Note
aside_step p x plan ph th l (steps k d) = goes k [] (aside ph d th l)
aside_step p x plan ph th l (asks k import args d) = broken k 6 d.store
aside_step p x plan ph th l (returns k results s) = aside_back p x plan k ph th l results s
aside_step p x plan ph th l (traps k trap s) = goes k (note (ended (trap_end plan.area ph trap s)) s ∷ []) (over s)
aside_step p x plan ph th l stuck = stops

-- a host's call costs 1 and its parameters, of an entry or of an export, which has a fresh stack
abbrev pub busy_enters : Phase → Entry → Store → Left → Option Func → Turn Held Note
busy_enters ph e s l None = stops
busy_enters ph e s l (Some f) = goes (length e.args) [] (busy ph (entered s [] e.args e.func f) l)

-- the next of these entries is called
abbrev pub held_next : Module → Store → Left → List Entry → Turn Held Note
held_next p s l [] = stops
held_next p s l (e ∷ es) = busy_enters (is_running (an_entry e)) e s (record { number = l.number; entries = es; outcomes = l.outcomes }) (defined_at p e.func)

-- an export is called on a fresh stack
abbrev pub aside_called : Phase → Store → ℕ → List Value → Then → Left → Option Func → Turn Held Note
aside_called ph s f args th l None = stops
aside_called ph s f args th l (Some g) = goes (length args) [] (aside ph (entered s [] args f g) th l)

-- the start function is called, which may be an import
abbrev pub held_start : Module → Exports → Plan → ℕ → Store → Left → Option Func → Turn Held Note
held_start p x plan f s l (Some g) = goes 0 [] (busy (is_running the_start) (entered s [] [] f g) l)
held_start p x plan f s l None = if nat_lt f (func_imports p) then held_asked p x plan 0 f [] (outermost s) l l.outcomes else stops

-- the machine of an instance of a prepared module under the protocol
abbrev pub protocol : Module → Exports → Plan → Held → Turn Held Note
protocol p x plan (free s l) = held_next p s l l.entries
protocol p x plan (starting f s l) = held_start p x plan f s l (defined_at p f)
protocol p x plan (busy ph c l) = busy_step p x plan ph l (step p c)
protocol p x plan (calling ph s f args th l) = aside_called ph s f args th l (defined_at p f)
protocol p x plan (aside ph c th l) = aside_step p x plan ph th l (step p c)
protocol p x plan (entering ph e s l) = busy_enters ph e s l (defined_at p e.func)
protocol p x plan (over s) = stops

-- ---- whole runs

-- where a run stands behind instantiation: at the call of the start function, else at the first entry
abbrev pub held_started : Store → Left → Option ℕ → Ran Held Note
held_started s l None = record { events = done_notes s l.entries; last = held_on s l l.entries }
held_started s l (Some f) = still (starting f s l)

-- what stands before the first move: instantiation costs nothing
abbrev pub held_begun : Option ℕ → Left → Opening → Ran Held Note
held_begun start l (fails_as e) = record { events = note (ended e) no_store ∷ []; last = over no_store }
held_begun start l (opens s) = held_started s l start

-- a run that goes on from where it stands, up to a cost of n
abbrev pub held_continued : Module → Plan → ℕ → Ran Held Note → Ran Held Note
held_continued p plan n r = after r.events (run (protocol p (exports_of p) plan) n r.last)

-- The notes of a run of a prepared module under the protocol up to a total cost of n, and where it then stands.
abbrev pub Protocol : Module → Plan → List Outcome → ℕ → Ran Held Note
Protocol p plan os n = held_continued p plan n (held_begun p.start (all_left plan os) (opening p plan.globals))

-- the store where a run stands
abbrev pub store_held : Held → Store
store_held (free s l) = s
store_held (starting f s l) = s
store_held (busy ph c l) = c.store
store_held (calling ph s f args th l) = s
store_held (aside ph c th l) = c.store
store_held (entering ph e s l) = s
store_held (over s) = s
