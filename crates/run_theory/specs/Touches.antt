-- What a run does and touches, in order: its events, and its loads, stores, copies, fills and growths of the memory.
use Rattle.std.specs.Prelude.{ℕ, zero, suc, ◌-◌, List, [], ◌∷◌, ◌++◌, Bool, true, false, nat_lt, if◌then◌else◌, take, map}
use Rattle.wa_types.specs.declared.values.Value.{Value}
use Rattle.wa_types.specs.Syntax.{Basic, load, store, memory_grow, memory_copy, memory_fill, basic, Code, plain, Module}
use Rattle.wa_types.specs.Base.{Base}
use Rattle.wa_model.specs.Machine.{Turn, stops, goes}
use Rattle.wa_model.specs.Outside.{Event}
use Rattle.wa_model.specs.Store.{takes}
use Rattle.wa_model.specs.Configuration.{Configuration}
use Rattle.wa_model.specs.Plan.{Plan, Outcome}
use Rattle.wa_model.specs.Blocking.{Note, State, between, begins, runs, halts, blocking}
use Rattle.run_theory.specs.DeterminedRuns.{start_of}

-- ---- what is seen along a run

-- where the next move can be paid: what is seen before it, the events that it makes, and what is seen behind it
abbrev pub trace_turn : {S E X : Type 0} → (E → X) → (ℕ → S → List X) → ℕ → List X → Turn S E → List X
trace_turn shows on n here stops = []
trace_turn shows on n here (goes k es t) = if nat_lt k n then here ++ (map shows es ++ on (n - suc k) t) else []

-- within so many moves, of a total cost of at most n
abbrev pub trace_with : {S E X : Type 0} → (S → Turn S E) → (S → List X) → (E → X) → ℕ → ℕ → S → List X
trace_with next see shows zero n s = []
trace_with next see shows (suc moves) n s = trace_turn shows (trace_with next see shows moves) n (see s) (next s)

-- What is seen at each state that a run up to a total cost of n leaves by a move, and behind it the events of that move.
abbrev pub trace : {S E X : Type 0} → (S → Turn S E) → (S → List X) → (E → X) → ℕ → S → List X
trace next see shows n s = trace_with next see shows n n s

-- ---- loads, stores, copies, fills and growths

-- A load, a store, a copy, a fill or a growth of the memory, and its operands, the topmost first: the address, and of a store the
-- value above it; the length, and below it the source or the value, and the address; the pages. It may trap or fail.
pub record Touch : Type 0 where
  pub instr : Basic
  pub operands : List Value

-- the instruction is a load, a store, a copy, a fill or a growth of the memory
abbrev pub reaches_memory : Basic → Bool
reaches_memory (load op align offset) = true
reaches_memory (store op align offset) = true
reaches_memory memory_grow = true
reaches_memory memory_copy = true
reaches_memory memory_fill = true
reaches_memory _ = false

-- the touch that an instruction is, with its own operands, if it is one
abbrev pub touch_basic : Basic → List Value → List Touch
touch_basic b ops = if reaches_memory b then (record { instr = b; operands = take (takes b) ops }) ∷ [] else []

-- the touch that the instruction that stands next is, if it is one
abbrev pub touch_in : List Value → Code → List Touch
touch_in ops (plain (basic b) rest) = touch_basic b ops
touch_in ops _ = []

-- the one that the next reduction is, if it is one
abbrev pub next_touch : Configuration → List Touch
next_touch c = touch_in c.here.operands c.here.code

-- the same where a run stands
abbrev pub touch_of : State → List Touch
touch_of (between s l) = []
touch_of (begins x s l) = []
touch_of (runs task c l) = next_touch c
touch_of (halts s) = []

-- ---- both in one list

-- What is seen of a run: an event that it makes, or a touch of the memory.
pub data Seen : Type 0 where
  made : (event : Event) → Seen
  touched : (touch : Touch) → Seen

-- what is seen at a state before its move
abbrev pub seen_at : State → List Seen
seen_at t = map touched (touch_of t)

-- what is seen of a note: its event
abbrev pub seen_note : Note → Seen
seen_note x = made x.event

-- The events of a run with blocking imports up to a cost of n, and its loads, stores, copies, fills and growths of the memory, in order.
abbrev pub Touches : Module → Plan → List Outcome → ℕ → List Seen
Touches m plan os n = map seen_note (start_of m plan os).events ++ trace (blocking (Base m) plan) seen_at seen_note n (start_of m plan os).last
