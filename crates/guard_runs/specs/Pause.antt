-- A pause under the host's protocol, from the import's answer to where the program goes on.
use Rattle.frame_laws.specs.Suspended.{AllStandFor}
use Rattle.guard_form.specs.AssertedRuns.{is_stuck, Reach, stands_numbered}
use Rattle.wa_types.specs.Pausing.{Settings}
use Rattle.std.specs.List.{list_all}
use Rattle.std.specs.Prelude.{◌≡◌, ◌≢◌, ℕ, ◌+◌, ◌*◌, ◌^◌, ◌≤◌, ◌<◌, ◌⊎◌, List, [], ◌∷◌, length, map, Some, None, Bool, true, false, ◌++◌}
use Rattle.wa_types.specs.Frames.{word, HoldsBytes, Suspended}
use Rattle.wa_types.specs.Memory.{bytes_at}
use Rattle.wa_types.specs.Modules.{func_imports, declared_locals, defined_at}
use Rattle.wa_types.specs.Runtime.{start_code, stop_code, state_code, runtime_func}
use Rattle.wa_types.specs.Syntax.{Code, Func, Module}
use Rattle.wa_types.specs.declared.values.Trap.TheVariants.{Unreachable}
use Rattle.wa_types.specs.declared.values.Value.{Value}
use Rattle.wa_types.specs.declared.values.Value.TheVariants as V
use Rattle.wa_model.specs.Blocking.{note, Left, poked}
use Rattle.wa_model.specs.Configuration.{Activation, Configuration, waiting}
use Rattle.wa_model.specs.Machine.{goes}
use Rattle.wa_model.specs.Outside.{Answer, paused, ended}
use Rattle.wa_model.specs.Plan.{Entry, Plan}
use Rattle.wa_model.specs.Protocol.{Exports, unwinds, rewinds, give_zero, call_again, Held, busy, calling, over, with_words, held_resumed, protocol}
use Rattle.wa_model.specs.Step.{asks, traps, result_count, step}
use Rattle.wa_model.specs.Store.{Store, value_at}
use Rattle.wa_model.specs.declared.answers.Area.{Area}
use Rattle.wa_model.specs.declared.events.End.TheVariants.{UnwindTrap}
use Rattle.frame_laws.specs.FrameMemory.{Lowered}
use Rattle.frame_laws.specs.Function.{function_code}
use Rattle.guard_form.specs.Asserts.{assert_code}
use Rattle.frame_laws.specs.Stack.{Level, activation_of, unwinding_onto, waiting_above, AllFit, total_size, HoldsStack, unwinding_all, outer_of, fit_of, fitting, CallsTo, Chain, SameKept, AllCameBack, rewinding_all}
use Rattle.guard_runs.specs.UnseenMoves.{GoesUnseen}

-- The five exports of a module are those of the runtime.
pub record RuntimeAt (p : Module) (x : Exports) (st adr : ℕ) : Type 0 where
  pub sort : ℕ
  pub start_unwind : defined_at p x.start_unwind ≡ Some (runtime_func sort (start_code 1 st adr))
  pub start_rewind : defined_at p x.start_rewind ≡ Some (runtime_func sort (start_code 2 st adr))
  pub stop_sort : ℕ
  pub stop_unwind : defined_at p x.stop_unwind ≡ Some (runtime_func stop_sort (stop_code st adr))
  pub stop_rewind : defined_at p x.stop_rewind ≡ Some (runtime_func stop_sort (stop_code st adr))
  pub state_sort : ℕ
  pub get_state : defined_at p x.get_state ≡ Some (runtime_func state_sort (state_code st))
  pub tells : result_count p x.get_state ≡ 1

-- A store with both globals, and with room for an area.
pub record AreaReady (g st adr : ℕ) (area : Area) (s : Store) : Type 0 where
  pub state_above : g ≤ st
  pub address_above : g ≤ adr
  pub apart : adr ≢ st
  pub state_there : st < length s.globals
  pub address_there : adr < length s.globals
  pub least : 8 ≤ area.len
  pub inside : area.at + area.len ≤ length s.memory
  pub small : length s.memory < 2 ^ 32

-- Two stores that are the same but for both globals and the area; the state is 0.
pub record SameAround (st adr : ℕ) (area : Area) (s t : Store) : Type 0 where
  pub globals : (y : ℕ) → y ≢ st → y ≢ adr → value_at t.globals y ≡ value_at s.globals y
  pub count : length t.globals ≡ length s.globals
  pub state : value_at t.globals st ≡ V.I32 0
  pub address : value_at t.globals adr ≡ V.I32 area.at
  pub table : t.table ≡ s.table
  pub size : length t.memory ≡ length s.memory
  pub outside : (b w : ℕ) → (b + w ≤ area.at) ⊎ (area.at + area.len ≤ b) → bytes_at t.memory b w ≡ bytes_at s.memory b w

-- A stack is suspended in the area.
pub record SuspendedIn (area : Area) (t : Store) (stack : List Level) : Type 0 where
  pub frames : HoldsStack t.memory (area.at + 8) stack
  pub location : HoldsBytes t.memory area.at (word (area.at + 8 + total_size stack))
  pub limit : HoldsBytes t.memory (area.at + 4) (word (area.at + area.len))

-- the innermost activation waits for the import's results
abbrev pub at_import : Store → Level → List Level → Configuration
at_import s v vs = record { store = s; here = activation_of v; under = map activation_of vs }

-- ---- to the pause

-- Without an event up to the one move that tells the pause; the stack is suspended, and nothing else has changed.
pub record PausesAt (g st adr : ℕ) (p : Module) (x : Exports) (plan : Plan) (e : Entry) (i : ℕ) (a : Answer) (l : Left) (s : Store) (v : Level) (vs : List Level) : Type 0 where
  pub cost : ℕ
  pub within : cost ≤ 28 + unwinding_all v vs
  pub at : Held
  pub before : GoesUnseen g plan.area p x plan (calling (unwinds e i a) (with_words s plan.area) x.start_unwind (V.I32 plan.area.at ∷ []) (give_zero (at_import s v vs)) l) cost at
  pub store : Store
  pub tells : protocol p x plan at ≡ goes 0 (note (paused a.ticks (8 + total_size (v ∷ vs))) store ∷ []) (calling (rewinds e i a store) store x.start_rewind (V.I32 plan.area.at ∷ []) call_again l)
  pub around : SameAround st adr plan.area s store
  pub suspended : SuspendedIn plan.area store (v ∷ vs)

-- Where the stack fits in the area.
abbrev pub Pauses : Type 0
Pauses =
    (g st adr : ℕ) (p : Module) (x : Exports) (plan : Plan) (e : Entry) (i : ℕ) (a : Answer) (l : Left) (s : Store) (v : Level) (vs : List Level)
    → RuntimeAt p x st adr → AreaReady g st adr plan.area s → AllFit g plan.area p st adr (v ∷ vs) → 8 + total_size (v ∷ vs) ≤ plan.area.len
    → PausesAt g st adr p x plan e i a l s v vs

-- ---- to the trap

-- An unwind of these levels, from the innermost of those that wait, traps: the one move tells the trap, and how much of the area is in use:
-- the frames that fit stand there, and no other byte has changed.
pub record UnwindTraps (g : ℕ) (p : Module) (x : Exports) (plan : Plan) (e : Entry) (i : ℕ) (a : Answer) (l : Left) (s : Store) (waits : Configuration) (bound : ℕ) (stack : List Level) : Type 0 where
  pub cost : ℕ
  pub within : cost ≤ bound
  pub at : Held
  pub before : GoesUnseen g plan.area p x plan (calling (unwinds e i a) (with_words s plan.area) x.start_unwind (V.I32 plan.area.at ∷ []) (give_zero waits) l) cost at
  pub store : Store
  pub config : Configuration
  pub is : at ≡ busy (unwinds e i a) config l
  pub traps_there : step p config ≡ traps 0 Unreachable store
  pub frames : HoldsStack store.memory (plan.area.at + 8) (fitting plan.area.len 8 stack)
  pub location : HoldsBytes store.memory plan.area.at (word (plan.area.at + fit_of plan.area.len 8 stack))
  pub size : length store.memory ≡ length s.memory
  pub others : (b w : ℕ) → (b + w ≤ plan.area.at) ⊎ (plan.area.at + fit_of plan.area.len 8 stack ≤ b) → bytes_at store.memory b w ≡ bytes_at s.memory b w
  pub tells : protocol p x plan at ≡ goes 0 (note (ended (UnwindTrap Unreachable (fit_of plan.area.len 8 stack) plan.area.len)) store ∷ []) (over store)

-- Where the stack doesn't fit, its unwind traps so.
abbrev pub Overruns : (g : ℕ) → Module → Exports → Plan → Entry → (i : ℕ) → Answer → Left → Store → Level → List Level → Type 0
Overruns g p x plan e i a l s v vs = UnwindTraps g p x plan e i a l s (at_import s v vs) (14 + unwinding_all v vs) (v ∷ vs)

-- Where it doesn't.
abbrev pub TrapsThere : Type 0
TrapsThere =
    (g st adr : ℕ) (p : Module) (x : Exports) (plan : Plan) (e : Entry) (i : ℕ) (a : Answer) (l : Left) (s : Store) (v : Level) (vs : List Level)
    → RuntimeAt p x st adr → AreaReady g st adr plan.area s → AllFit g plan.area p st adr (v ∷ vs) → plan.area.len < 8 + total_size (v ∷ vs) → Overruns g p x plan e i a l s v vs

-- ---- to the test of an assert

-- Where the test stands behind the levels, the unwind traps there, if not at a frame before; so it does where there is no level.
abbrev pub HaltsThere : Type 0
HaltsThere =
    (g st adr : ℕ) (p : Module) (x : Exports) (plan : Plan) (e : Entry) (i : ℕ) (a : Answer) (l : Left) (s : Store) (inner : List Level) (b : Activation) (rest : List Activation)
    (code : Code) → RuntimeAt p x st adr → AreaReady g st adr plan.area s → AllFit g plan.area p st adr inner → b.code ≡ assert_code st code
    → UnwindTraps g p x plan e i a l s (waiting_above s inner b rest) (18 + unwinding_onto inner) inner

-- With these levels the innermost activations of a stack, which stand at numbered calls, above one that doesn't: its unwind ends in the
-- area, with as much of it in use as the frames that fit.
abbrev pub ReachesThere : Type 0
ReachesThere =
    (m : Module) (s : Settings) (which : List Bool) (inner : List Level) (front : List Suspended) (a : Suspended) (rest : List Suspended) (len : ℕ)
    → AllStandFor m s which inner front → list_all (stands_numbered m s which) front ≡ true → stands_numbered m s which a ≡ false
    → (Reach m s which len (front ++ a ∷ rest) ≡ fit_of len 8 inner) × (is_stuck m s which len (front ++ a ∷ rest) ≡ true)

-- ---- to the answer

-- the entry's function is the outermost one
pub record EntersEntry (p : Module) (st : ℕ) (e : Entry) (outer : Level) : Type 0 where
  pub is : e.func ≡ outer.func
  pub func : Func
  pub defined : defined_at p outer.func ≡ Some func
  pub body : func.body ≡ function_code outer.fn
  pub size : length e.args + length (declared_locals func.locals) ≡ length outer.locals

-- Without an event up to the one move that tells the answer; on the way the import is called, with all its arguments. The stack has come
-- back, the location is that of an empty stack, and nothing else has changed since the pause.
pub record AnswersAt (g st adr : ℕ) (p : Module) (x : Exports) (plan : Plan) (e : Entry) (i : ℕ) (a : Answer) (l : Left) (s : Store) (v : Level) (vs : List Level) : Type 0 where
  pub cost : ℕ
  pub within : cost ≤ 29 + length e.args + 2 * length v.site.slots + rewinding_all v vs
  pub at : Held
  pub before : GoesUnseen g plan.area p x plan (calling (rewinds e i a s) s x.start_rewind (V.I32 plan.area.at ∷ []) call_again l) cost at
  pub asking : Configuration
  pub reach : ℕ
  pub to_call : GoesUnseen g plan.area p x plan (calling (rewinds e i a s) s x.start_rewind (V.I32 plan.area.at ∷ []) call_again l) reach (busy (rewinds e i a s) asking l)
  pub count : ℕ
  pub args : List Value
  pub all_there : length args ≡ count
  pub under : List Activation
  pub came_back : AllCameBack vs under
  pub locals : List Value
  pub kept_same : SameKept v locals
  pub waits : Configuration
  pub asks_there : step p asking ≡ asks count i args waits
  pub waits_as : (waits.here ≡ waiting v.func locals [] v.taken v.site.behind v.site.again) × (waits.under ≡ under)
  pub store : Store
  pub tells : protocol p x plan at ≡ held_resumed 0 e a.said s waits l (poked store a.pokes)
  pub around : SameAround st adr plan.area s store
  pub lowered : Lowered plan.area (plan.area.at + 8) s.memory store.memory

-- With the stack suspended in the area, and the entry's function the outermost one.
abbrev pub Answers : Type 0
Answers =
    (g st adr : ℕ) (p : Module) (x : Exports) (plan : Plan) (e : Entry) (i params : ℕ) (a : Answer) (l : Left) (s : Store) (v : Level) (vs : List Level)
    → RuntimeAt p x st adr → AreaReady g st adr plan.area s → AllFit g plan.area p st adr (v ∷ vs) → Chain p st s.table v vs → length vs < 4096 → SuspendedIn plan.area s (v ∷ vs)
    → 8 + total_size (v ∷ vs) ≤ plan.area.len
    → EntersEntry p st e (outer_of v vs) → CallsTo p s.table v params i → defined_at p i ≡ None → i < func_imports p → AnswersAt g st adr p x plan e i a l s v vs
