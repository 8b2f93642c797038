-- Small runs that the definitions compute.
use Rattle.std.proofs.Common.{All, arith, ◌≡◌, ◌<◌, ◌≤◌, ◌+◌, ℕ, zero, suc, List, [], ◌∷◌, ◌++◌, take, Some, None, true, false, refl}
use Rattle.std.specs.Prelude.{Option, slice_get, replicate, codes}
use Rattle.wa_types.specs.declared.values.ValType.TheVariants.{I32, I64}
use Rattle.wa_types.specs.declared.values.Value.{Value}
use Rattle.wa_types.specs.declared.values.Value.TheVariants as V
use Rattle.wa_types.specs.declared.values.Trap.TheVariants.{DivideByZero, UndefinedElement, UninitializedElement, TypeMismatch, Unreachable, StackExhausted, OutOfBounds, Import as ByImport}
use Rattle.wa_types.specs.declared.operators.NumOp.TheVariants.{I32Add, I32Sub, I32Eq, I64DivU, I64ExtendI32U}
use Rattle.wa_types.specs.declared.syntax.Import.{Import}
use Rattle.wa_types.specs.declared.syntax.ImportKind.TheVariants as K
use Rattle.wa_types.specs.declared.syntax.Export.{Export}
use Rattle.wa_types.specs.declared.syntax.Space.TheVariants as Sp
use Rattle.wa_types.specs.Syntax.{Basic, drop, const, num, global_get, global_set, return, unreachable, load, store, memory_grow, memory_copy, memory_fill, basic, local_get, local_set, local_tee, br_if, br_table}
use Rattle.wa_types.specs.Syntax.{call, call_indirect, Code, done, plain, nest, branch, a_block, a_loop, FuncType, Func, Module}
use Rattle.wa_types.specs.Pruned.{pruned}
use Rattle.wa_types.specs.Base.{Base}
use Rattle.wa_types.specs.Pausing.{calls_of, every, save_all, save_live, Settings}
use Rattle.wa_types.specs.Bounds.{code_weight, Bound}
use Rattle.wa_types.specs.Points.{points, call_points}
use Rattle.wa_types.specs.Liveness.{behind_calls, live}
use Rattle.wa_types.specs.Runtime.{with_runtime}
use Rattle.wa_model.specs.declared.answers.Said.TheVariants as S
use Rattle.wa_model.specs.declared.events.End.TheVariants.{Done, Trapped, UnwindTrap, RewindTrap, BadAnswer, BadPoke, PauseInStart, Broken}
use Rattle.wa_model.specs.Outside.{Poke, Answer, Event, called, answered, paused, returned, ended}
use Rattle.wa_types.specs.Memory.{bytes_at}
use Rattle.wa_types.specs.Frames.{Suspended, Image}
use Rattle.std.proofs.lemmas.List.Elements.{All-cons, All-nil}
use Rattle.wa_model.specs.Store.{Range, Store, works, fails, act}
use Rattle.wa_model.specs.Configuration.{Activation, running, waiting}
use Rattle.wa_model.specs.Step.{Next, steps, traps, step}
use Rattle.wa_model.specs.declared.answers.Area.{Area}
use Rattle.wa_model.specs.Plan.{Entry, Plan, Outcome, given}
use Rattle.wa_model.specs.Untouched.{StaysOff, Untouched}
use Rattle.wa_model.specs.Blocking.{Note, no_store, events_of, Blocking, blocking_run}
use Rattle.wa_model.specs.Protocol.{Protocol}
use Rattle.wa_model.specs.Expected.{Expected}
use Rattle.wa_model.proofs.StayingOff.{is_off, nothing_off, one_off, both_off, range}
use Rattle.wa_model.specs.Behaves.{IsPrefix, expected_notes, protocol_notes, pause_stacks, without_pauses}

abbrev i32 : ℕ → Value
i32 n = V.I32 n

abbrev then : Basic → Code → Code
then b rest = plain (basic b) rest

-- [i32] -> [i32]
abbrev one_to_one : FuncType
one_to_one = record { params = I32 ∷ []; results = I32 ∷ [] }

abbrev import_of : ℕ → Import
import_of sort = record { «module» = codes "env"; base = codes "pause"; kind = K.Func sort }

abbrev export_of : ℕ → Export
export_of x = record { name = codes "run"; space = Sp.Func; index = x }

abbrev answer : Option Value → ℕ → Outcome
answer v ticks = given (record { said = S.Value v; pokes = []; ticks = ticks })

abbrev trap_with : List Poke → ℕ → Outcome
trap_with pokes ticks = given (record { said = S.Trap; pokes = pokes; ticks = ticks })

abbrev call_of : ℕ → List Value → Event
call_of i args = called (record { import = i; args = args })

-- an import of one_to_one as function 0, and a function of this type behind it
abbrev module_with : Func → Module
module_with f = record {
  types = one_to_one ∷ [];
  imports = import_of 0 ∷ [];
  funcs = f ∷ [];
  tables = [];
  memories = [];
  globals = [];
  exports = export_of 1 ∷ [];
  start = None;
  elems = [];
  segments = [];
  customs = [];
}

-- bytes of the memory at a note
abbrev bytes_of_note : Option Note → ℕ → ℕ → List ℕ
bytes_of_note None at len = []
bytes_of_note (Some x) at len = bytes_at x.store.memory at len

abbrev plan_of : ℕ → List Entry → Plan
plan_of len entries = record { globals = []; entries = entries; area = record { at = 0; len = len }; others = []; listed = Some (true ∷ []) }

abbrev entry : ℕ → List Value → Entry
entry x args = record { func = x; args = args }

-- ---- the selector: block (i32) 5; block (i32) 9; local.get 0; br_table [0] 1; end; add; end; call 0
abbrev selector : Module
selector = module_with (record {
  sort = 0;
  locals = [];
  body = nest a_block (Some I32) (then (const (i32 5)) (nest a_block (Some I32) (then (const (i32 9)) (plain (local_get 0) (plain (br_table (0 ∷ []) 1) done))) (then (num I32Add) done)))
      (plain (call 0) done);
})

abbrev both : List Entry
both = entry 1 (i32 0 ∷ []) ∷ entry 1 (i32 1 ∷ []) ∷ []

abbrev selected : ℕ → List Event
selected n = events_of (Blocking selector (plan_of 64 both) (answer (Some (i32 1)) 0 ∷ answer (Some (i32 2)) 0 ∷ []) n).events

-- 15 for the first entry and 13 for the second
selects : selected 28 ≡ call_of 0 (i32 14 ∷ []) ∷ answered (S.Value (Some (i32 1))) ∷ returned 0 (Some (i32 1)) ∷ call_of 0 (i32 9 ∷ []) ∷ answered (S.Value (Some (i32 2))) ∷ returned 1 (Some (i32 2)) ∷ ended Done ∷ []
unfolding Base
selects = refl

selects_not_within_27 : selected 27 ≡ call_of 0 (i32 14 ∷ []) ∷ answered (S.Value (Some (i32 1))) ∷ returned 0 (Some (i32 1)) ∷ call_of 0 (i32 9 ∷ []) ∷ answered (S.Value (Some (i32 2))) ∷ []
unfolding Base
selects_not_within_27 = refl

-- with pauses: each takes 28 bytes of the area
selects_paused : events_of (Expected selector save_all (record { at = 0; len = 64 }) (Blocking selector (plan_of 64 both)
    (answer (Some (i32 1)) 1 ∷ answer (Some (i32 2)) 1 ∷ []) 28).events) ≡ call_of 0 (i32 14 ∷ []) ∷ paused 1 28 ∷ answered (S.Value (Some (i32 1))) ∷ returned 0 (Some (i32 1))
    ∷ call_of 0 (i32 9 ∷ []) ∷ paused 1 28 ∷ answered (S.Value (Some (i32 2))) ∷ returned 1 (Some (i32 2)) ∷ ended Done ∷ []
unfolding pruned calls_of points Base
selects_paused = refl

-- ---- the countdown loop with one pause
abbrev countdown : Module
countdown = module_with (record {
  sort = 0;
  locals = record { count = 1; ty = I32 } ∷ [];
  body = nest a_loop None (plain (local_get 1) (then (const (i32 0)) (branch (Some I32) (then (const (i32 100)) done) (plain (local_get 0) (plain (call 0) done))
      (then (num I32Add) (plain (local_set 1) (plain (local_get 0) (then (const (i32 1)) (then (num I32Sub) (plain (local_tee 0) (plain (br_if 0) done))))))))))
      (plain (local_get 1) done);
})

abbrev tens : List Outcome
tens = answer (Some (i32 10)) 0 ∷ answer (Some (i32 20)) 4 ∷ answer (Some (i32 30)) 0 ∷ []

abbrev asked_thrice : ℕ → List Event
asked_thrice room = call_of 0 (i32 3 ∷ []) ∷ answered (S.Value (Some (i32 10))) ∷ call_of 0 (i32 2 ∷ []) ∷ paused 4 room ∷ answered (S.Value (Some (i32 20))) ∷ call_of 0 (i32 1 ∷ []) ∷ answered (S.Value (Some (i32 30))) ∷ []

abbrev counted : ℕ → List Event
counted room = asked_thrice room ++ returned 0 (Some (i32 60)) ∷ ended Done ∷ []

abbrev counting : ℕ → List Event
counting n = events_of (Expected countdown save_all (record { at = 0; len = 64 }) (Blocking countdown (plan_of 64 (entry 1 (i32 3 ∷ []) ∷ [])) tens n).events)

-- 14 for each turn of the loop, and 6 before and behind them
counts : counting 48 ≡ counted 28
unfolding pruned calls_of points Base
counts = refl

counts_not_within_47 : counting 47 ≡ asked_thrice 28
unfolding pruned calls_of points Base
counts_not_within_47 = refl

-- under policy `live`
counts_live : events_of (Expected countdown save_live (record { at = 0; len = 64 }) (Blocking countdown (plan_of 64 (entry 1 (i32 3 ∷ []) ∷ [])) tens 48).events) ≡ counted 24
unfolding pruned calls_of points call_points behind_calls live Base
counts_live = refl

-- in an area of 27 bytes the frame doesn't fit
short : events_of (Expected countdown save_all (record { at = 0; len = 27 }) (Blocking countdown (plan_of 27 (entry 1 (i32 3 ∷ []) ∷ [])) tens 100).events) ≡ call_of 0 (i32 3 ∷ [])
    ∷ answered (S.Value (Some (i32 10))) ∷ call_of 0 (i32 2 ∷ []) ∷ ended (UnwindTrap Unreachable 8 27) ∷ []
unfolding pruned calls_of points Base
short = refl

-- the second answer is a trap behind a pause: nothing follows, though an outcome and a cost are left
traps_behind_pause : events_of (Expected countdown save_all (record { at = 0; len = 64 }) (Blocking countdown (plan_of 64 (entry 1 (i32 3 ∷ []) ∷ []))
    (answer (Some (i32 10)) 0 ∷ trap_with [] 4 ∷ answer (Some (i32 30)) 0 ∷ []) 48).events) ≡ call_of 0 (i32 3 ∷ []) ∷ answered (S.Value (Some (i32 10))) ∷ call_of 0 (i32 2 ∷ [])
    ∷ paused 4 28 ∷ answered S.Trap ∷ ended (Trapped ByImport) ∷ []
unfolding pruned calls_of points Base
traps_behind_pause = refl

-- ---- division by zero after a pause
abbrev divides : Module
divides = record {
  types = one_to_one ∷ record { params = []; results = I64 ∷ [] } ∷ [];
  imports = import_of 0 ∷ [];
  funcs = record {
    sort = 1;
    locals = record { count = 1; ty = I64 } ∷ [];
    body = then (const (i32 1)) (then memory_grow (then drop (then (const (V.I64 5000000000))
        (plain (local_set 0) (plain (local_get 0) (then (const (i32 2)) (plain (call 0) (then (num I64ExtendI32U) (then (num I64DivU) done)))))))));
  } ∷ [];
  tables = [];
  memories = record { min = 1; max = None } ∷ [];
  globals = [];
  exports = export_of 1 ∷ [];
  start = None;
  elems = [];
  segments = [];
  customs = [];
}

divides_by : ℕ → List Event
divides_by n = events_of (Expected divides save_all (record { at = 0; len = 64 }) (Blocking divides (plan_of 64 (entry 1 [] ∷ [])) (answer (Some (i32 n)) 1 ∷ []) 40).events)

by_thousand : divides_by 1000 ≡ call_of 0 (i32 2 ∷ []) ∷ paused 1 44 ∷ answered (S.Value (Some (i32 1000))) ∷ returned 0 (Some (V.I64 5000000)) ∷ ended Done ∷ []
unfolding divides_by pruned calls_of points Base
by_thousand = refl

by_zero : divides_by 0 ≡ call_of 0 (i32 2 ∷ []) ∷ paused 1 44 ∷ answered (S.Value (Some (i32 0))) ∷ ended (Trapped DivideByZero) ∷ []
unfolding divides_by pruned calls_of points Base
by_zero = refl

-- ---- memory growth at its bound: past the declared maximum it gives -1, within it the old size
abbrev one_page_store : Store
one_page_store = record { globals = []; memory = replicate 65536 0; table = [] }

grows_not : act (Some 1) memory_grow one_page_store (i32 1 ∷ []) ≡ works one_page_store (i32 4294967295 ∷ [])
unfolding Base
grows_not = refl

grows : act (Some 2) memory_grow one_page_store (i32 1 ∷ []) ≡ works (record { globals = []; memory = replicate 131072 0; table = [] }) (i32 0x1 ∷ [])
unfolding Base
grows = refl

-- ---- the traps of call_indirect: past the table, no element, another type
abbrev indirect : ℕ → Module
indirect i = record {
  types = one_to_one ∷ record { params = []; results = I32 ∷ [] } ∷ [];
  imports = import_of 0 ∷ [];
  funcs = record { sort = 1; locals = []; body = then (const (i32 7)) (then (const (i32 i)) (plain (call_indirect 0) done)) } ∷ [];
  tables = record { min = 3; max = None } ∷ [];
  memories = [];
  globals = [];
  exports = export_of 1 ∷ [];
  start = None;
  elems = record { table = 0; offset = then (const (i32 1)) done; funcs = 0 ∷ 1 ∷ [] } ∷ [];
  segments = [];
  customs = [];
}

abbrev indirectly : ℕ → ℕ → List Event
indirectly i n = events_of (blocking_run (indirect i) (plan_of 64 (entry 1 [] ∷ [])) (answer (Some (i32 9)) 0 ∷ []) n).events

past_table : indirectly 3 20 ≡ ended (Trapped UndefinedElement) ∷ []
unfolding Base
past_table = refl

not_initialized : indirectly 0 20 ≡ ended (Trapped UninitializedElement) ∷ []
unfolding Base
not_initialized = refl

other_type : indirectly 2 20 ≡ ended (Trapped TypeMismatch) ∷ []
unfolding Base
other_type = refl

-- a call that traps pays its parameter: 1, 1, 1 and 2
pays_parameters : indirectly 2 4 ≡ []
unfolding Base
pays_parameters = refl

pays_no_more : indirectly 2 5 ≡ ended (Trapped TypeMismatch) ∷ []
unfolding Base
pays_no_more = refl

-- the table may hold the import itself
table_import : indirectly 1 20 ≡ call_of 0 (i32 7 ∷ []) ∷ answered (S.Value (Some (i32 9))) ∷ returned 0 (Some (i32 9)) ∷ ended Done ∷ []
unfolding Base
table_import = refl

-- ---- costs: a module that returns 7 takes 1 for the entry, 1 for the constant and 1 for the end
abbrev seven : Module
seven = record {
  types = record { params = []; results = I32 ∷ [] } ∷ [];
  imports = [];
  funcs = record { sort = 0; locals = []; body = then (const (i32 7)) done } ∷ [];
  tables = [];
  memories = [];
  globals = [];
  exports = export_of 0 ∷ [];
  start = None;
  elems = [];
  segments = [];
  customs = [];
}

abbrev sevens : ℕ → List Event
sevens n = events_of (blocking_run seven (plan_of 64 (entry 0 [] ∷ [])) [] n).events

within_three : sevens 3 ≡ returned 0 (Some (i32 7)) ∷ ended Done ∷ []
unfolding Base
within_three = refl

not_within_two : sevens 2 ≡ []
unfolding Base
not_within_two = refl

-- an if with a false condition and no else costs 2: 1 for the entry, 1 for the constant, 2, and 1 for the end
abbrev empty_arm : ℕ → List Event
empty_arm n = events_of (blocking_run (record seven {
  types = record { params = []; results = [] }
      ∷ [];
  funcs = record { sort = 0; locals = []; body = then (const (i32 0)) (branch None (then (const (i32 1)) (then drop done)) done done) } ∷ [];
})
    (plan_of 64 (entry 0 [] ∷ [])) [] n).events

arm_within_five : empty_arm 5 ≡ returned 0 None ∷ ended Done ∷ []
unfolding Base
arm_within_five = refl

arm_not_within_four : empty_arm 4 ≡ []
unfolding Base
arm_not_within_four = refl

-- ---- loads and stores in the area
abbrev touches : Code → Module
touches body = record seven { types = record { params = []; results = [] } ∷ []; memories = record { min = 1; max = None } ∷ []; funcs = record { sort = 0; locals = []; body = body } ∷ [] }

-- 64 bytes from here on, and a run with this area
abbrev bytes_from : ℕ → Area
bytes_from at = record { at = at; len = 64 }

abbrev area_from : ℕ → Plan
area_from at = record (plan_of 64 (entry 0 [] ∷ [])) { area = bytes_from at }

each_of_four : (P : ℕ → Type 0) → P 0 → P 1 → P 2 → P 3 → (j : ℕ) → j < 4 → P j
each_of_four P p q r s zero h = p
each_of_four P p q r s (suc zero) h = q
each_of_four P p q r s (suc (suc zero)) h = r
each_of_four P p q r s (suc (suc (suc zero))) h = s
each_of_four P p q r s (suc (suc (suc (suc j)))) h = absurd (omega arith)

-- 1 for the entry and 2 for the constants, and then a store of bytes 60 to 63
abbrev stores : Module
stores = touches (then (const (i32 60)) (then (const (i32 7)) (then (store 0x36 2 0) done)))

store_touches : Untouched stores (area_from 0) [] 4 → ⊥
unfolding Base
store_touches h = let e : true ≡ false = is_off (bytes_from 0) 65536 60 4 (h 3 (omega arith)) (omega arith) in cc

store_behind : Untouched stores (area_from 64) [] 4
unfolding Base
store_behind =
    let none = nothing_off (bytes_from 64) 65536 in
    each_of_four _ tt none none (one_off (bytes_from 64) 65536 60 4 (λ le. refl))

-- a load of byte 63
load_touches : Untouched (touches (then (const (i32 63)) (then (load 0x2D 0 0) (then drop done)))) (area_from 0) [] 3 → ⊥
unfolding Base
load_touches h = let e : true ≡ false = is_off (bytes_from 0) 65536 63 1 (h 2 (omega arith)) (omega arith) in cc

-- a load of bytes 65,534 to 65,537 traps, and touches none
trap_touches_none : Untouched (touches (then (const (i32 65534)) (then (load 0x28 2 0) (then drop done)))) (area_from 65472) [] 4
unfolding Base
trap_touches_none =
    each_of_four _ tt (nothing_off (bytes_from 65472) 65536) (one_off (bytes_from 65472) 65536 65534 4 (λ le. absurd (omega (arith, le)))) tt

-- of two ranges the second touches the area
abbrev InPage : Range → Type 0
InPage x = x.at + x.len ≤ 65536

second_touches : StaysOff (bytes_from 0) 65536 (range 100 8 ∷ range 60 8 ∷ []) → ⊥
second_touches h =
    let first : 100 + 8 ≤ 65536 = omega arith in
    let second : 60 + 8 ≤ 65536 = omega arith in
    let inside : All InPage (range 100 8 ∷ range 60 8 ∷ []) = All-cons InPage (range 100 8) (range 60 8 ∷ []) first (All-cons InPage (range 60 8) [] second (All-nil InPage)) in
    let e : true ≡ false = h inside 1 (range 0 0) (omega arith) in cc

-- where the first passes the end the second may touch it, and one of no byte touches none
first_past_end : StaysOff (bytes_from 0) 65536 (range 65530 8 ∷ range 60 8 ∷ [])
first_past_end = λ inside. absurd (let le : 65530 + 8 ≤ 65536 = inside 0 (range 0 0) (omega arith) in omega (arith, le))

no_byte_touches_none : StaysOff (bytes_from 0) 65536 (range 8 0 ∷ [])
no_byte_touches_none = one_off (bytes_from 0) 65536 8 0 (λ le. refl)

-- ---- copies and fills: what they reach, and what they cost
abbrev copies : (to from len : ℕ) → Module
copies to from len = touches (then (const (i32 to)) (then (const (i32 from)) (then (const (i32 len)) (then memory_copy done))))

each_of_five : (P : ℕ → Type 0) → P 0 → P 1 → P 2 → P 3 → P 4 → (j : ℕ) → j < 5 → P j
each_of_five P p q r s t zero h = p
each_of_five P p q r s t (suc j) h = each_of_four (λ i. P (suc i)) q r s t j (omega arith)

-- 1 for the entry and 3 for the constants, and then a copy of bytes 60 to 67, of which four are in the area
source_touches : Untouched (copies 100 60 8) (area_from 0) [] 5 → ⊥
unfolding Base
source_touches h = second_touches (h 4 (omega arith))

-- one of length 0 inside the area
empty_copy_touches_none : Untouched (copies 8 8 0) (area_from 0) [] 5
unfolding Base
empty_copy_touches_none =
    let none = nothing_off (bytes_from 0) 65536 in
    each_of_five _ tt none none none (both_off (bytes_from 0) 65536 (range 8 0) (range 8 0) refl refl)

-- one into the area whose source passes the end: it traps
trapping_copy_touches_none : Untouched (copies 65480 65534 4) (area_from 65472) [] 5
unfolding Base
trapping_copy_touches_none =
    let none = nothing_off (bytes_from 65472) 65536 in
    each_of_five _ tt none none none (λ inside. absurd (let le : 65534 + 4 ≤ 65536 = inside 1 (range 0 0) (omega arith) in omega (arith, le)))

abbrev copy_events : (to from len n : ℕ) → List Event
copy_events to from len n = events_of (blocking_run (copies to from len) (plan_of 64 (entry 0 [] ∷ [])) [] n).events

-- a copy of 8 bytes costs 9: 1 for the entry, 3 for the constants, 9, and 1 for the end
copy_within_fourteen : copy_events 100 60 8 14 ≡ returned 0 None ∷ ended Done ∷ []
unfolding Base
copy_within_fourteen = refl

copy_not_within_thirteen : copy_events 100 60 8 13 ≡ []
unfolding Base
copy_not_within_thirteen = refl

-- one that traps costs 1
trapping_copy_within_five : copy_events 65480 65534 4 5 ≡ ended (Trapped OutOfBounds) ∷ []
unfolding Base
trapping_copy_within_five = refl

trapping_copy_not_within_four : copy_events 65480 65534 4 4 ≡ []
unfolding Base
trapping_copy_not_within_four = refl

abbrev with_bytes : List ℕ → Store
with_bytes bytes = record { globals = []; memory = bytes; table = [] }

abbrev five_bytes : Store
five_bytes = with_bytes (1 ∷ 2 ∷ 3 ∷ 4 ∷ 5 ∷ [])

copies_up : act None memory_copy five_bytes (i32 3 ∷ i32 0 ∷ i32 1 ∷ []) ≡ works (with_bytes (1 ∷ 1 ∷ 2 ∷ 3 ∷ 5 ∷ [])) []
copies_up = refl

copies_down : act None memory_copy five_bytes (i32 3 ∷ i32 2 ∷ i32 0 ∷ []) ≡ works (with_bytes (3 ∷ 4 ∷ 5 ∷ 4 ∷ 5 ∷ [])) []
copies_down = refl

copies_none_at_end : act None memory_copy five_bytes (i32 0 ∷ i32 5 ∷ i32 5 ∷ []) ≡ works five_bytes []
copies_none_at_end = refl

copies_none_past_end : act None memory_copy five_bytes (i32 0 ∷ i32 6 ∷ i32 0 ∷ []) ≡ fails OutOfBounds
copies_none_past_end = refl

-- the low bits of the value
fills_with_low_bits : act None memory_fill five_bytes (i32 3 ∷ i32 0x1FE ∷ i32 2 ∷ []) ≡ works (with_bytes (1 ∷ 2 ∷ 0xFE ∷ 0xFE ∷ 0xFE ∷ [])) []
fills_with_low_bits = refl

fills_none_past_end : act None memory_fill five_bytes (i32 0 ∷ i32 7 ∷ i32 6 ∷ []) ≡ fails OutOfBounds
fills_none_past_end = refl

-- ---- answers that end a run
abbrev asks_once : Module
asks_once = module_with (record { sort = 0; locals = []; body = plain (local_get 0) (plain (call 0) done) })

abbrev asked_with : Answer → List Event
asked_with a = events_of (Blocking asks_once (plan_of 64 (entry 1 (i32 7 ∷ []) ∷ [])) (given a ∷ []) 20).events

-- of a wrong type
wrong_type : asked_with (record { said = S.Value (Some (V.I64 5)); pokes = []; ticks = 1 }) ≡ call_of 0 (i32 7 ∷ []) ∷ ended (BadAnswer 0 (Some (V.I64 5))) ∷ []
unfolding Base
wrong_type = refl

no_value : asked_with (record { said = S.Value None; pokes = []; ticks = 0 }) ≡ call_of 0 (i32 7 ∷ []) ∷ ended (BadAnswer 0 None) ∷ []
unfolding Base
no_value = refl

-- with a poke into the area, of which byte 63 is the last
pokes_area : asked_with (record { said = S.Value (Some (i32 5)); pokes = record { at = 64; bytes = 1 ∷ 2 ∷ [] } ∷ record { at = 63; bytes = 1 ∷ 2 ∷ [] } ∷ []; ticks = 0 }) ≡ call_of 0 (i32 7 ∷ [])
    ∷ ended (BadPoke 63 2) ∷ []
unfolding Base
pokes_area = refl

-- with a poke past the memory
pokes_past : asked_with (record { said = S.Value (Some (i32 5)); pokes = record { at = 65533; bytes = 1 ∷ 2 ∷ 3 ∷ 4 ∷ [] } ∷ []; ticks = 0 }) ≡ call_of 0 (i32 7 ∷ []) ∷ ended (BadPoke 65533 4) ∷ []
unfolding Base
pokes_past = refl

-- ---- an import that traps, in the first of two entries: its poke stays, no zero is returned, and no entry follows
abbrev trapped_with : List Poke → List Note
trapped_with pokes = (Blocking asks_once (plan_of 64 (entry 1 (i32 7 ∷ []) ∷ entry 1 (i32 8 ∷ []) ∷ [])) (trap_with pokes 0 ∷ answer (Some (i32 5)) 0 ∷ []) 20).events

abbrev trap_events : List Event
trap_events = call_of 0 (i32 7 ∷ []) ∷ answered S.Trap ∷ ended (Trapped ByImport) ∷ []

abbrev a_poke : List Poke
a_poke = record { at = 64; bytes = 1 ∷ 2 ∷ [] } ∷ []

import_traps_once : events_of (trapped_with a_poke) ≡ trap_events
unfolding Base
import_traps_once = refl

poke_stays : bytes_of_note (slice_get (trapped_with a_poke) 2) 63 4 ≡ 0 ∷ 1 ∷ 2 ∷ 0 ∷ []
unfolding Base
poke_stays = refl

-- its pokes are tested as any others
trap_pokes_area : events_of (trapped_with (record { at = 63; bytes = 1 ∷ 2 ∷ [] } ∷ [])) ≡ call_of 0 (i32 7 ∷ []) ∷ ended (BadPoke 63 2) ∷ []
unfolding Base
trap_pokes_area = refl

not_a_zero : trap_events ≡ call_of 0 (i32 7 ∷ []) ∷ answered S.Trap ∷ returned 0 (Some (i32 0)) ∷ ended Done ∷ [] → ⊥
not_a_zero e = cc

-- ---- a pause in start
abbrev starts : Module
starts = record {
  types = one_to_one ∷ record { params = []; results = [] } ∷ [];
  imports = import_of 0 ∷ [];
  funcs = record { sort = 1; locals = []; body = then (const (i32 0)) (plain (call 0) (then drop done)) } ∷ [];
  tables = [];
  memories = [];
  globals = [];
  exports = [];
  start = Some 1;
  elems = [];
  segments = [];
  customs = [];
}

abbrev start_paused : ℕ → List Event
start_paused ticks = events_of (Blocking starts (plan_of 64 []) (answer (Some (i32 1)) ticks ∷ []) 20).events

pause_in_start : start_paused 1 ≡ call_of 0 (i32 0 ∷ []) ∷ ended (PauseInStart 0) ∷ []
unfolding Base
pause_in_start = refl

no_pause_in_start : start_paused 0 ≡ call_of 0 (i32 0 ∷ []) ∷ answered (S.Value (Some (i32 1))) ∷ ended Done ∷ []
unfolding Base
no_pause_in_start = refl

abbrev start_trapped : ℕ → List Event
start_trapped ticks = events_of (Blocking starts (plan_of 64 []) (trap_with [] ticks ∷ []) 20).events

traps_in_start : start_trapped 0 ≡ call_of 0 (i32 0 ∷ []) ∷ answered S.Trap ∷ ended (Trapped ByImport) ∷ []
unfolding Base
traps_in_start = refl

no_trap_behind_pause_in_start : start_trapped 1 ≡ call_of 0 (i32 0 ∷ []) ∷ ended (PauseInStart 0) ∷ []
unfolding Base
no_trap_behind_pause_in_start = refl

-- ---- two calls in a row, of which none is instrumented: the second comes while the program unwinds
abbrev asks_twice : Module
asks_twice = module_with (record { sort = 0; locals = []; body = plain (local_get 0) (plain (call 0) (plain (call 0) done)) })

breaks_rule_one : events_of (Protocol (with_runtime asks_twice) (record (plan_of 64 (entry 1 (i32 7 ∷ []) ∷ [])) { listed = None }) (answer (Some (i32 1)) 1 ∷ []) 60).events
    ≡ call_of 0 (i32 7 ∷ []) ∷ ended (Broken 1) ∷ []
unfolding with_runtime Base
breaks_rule_one = refl

-- ---- a module rewritten by hand, whose run asks with its argument: it pauses, and goes on
-- code that runs where the state is this number
abbrev on_state : ℕ → Code → Code → Code
on_state n body rest = then (global_get 0) (then (const (i32 n)) (then (num I32Eq) (branch None body done rest)))

-- the location word
abbrev location : Code → Code
location rest = then (global_get 1) (then (load 0x28 2 0) rest)

abbrev by_hand : Module
by_hand = with_runtime (module_with (record {
  sort = 0;
  locals = record { count = 2; ty = I32 } ∷ [];
  body =
      on_state 2 (then (global_get 1) (location (then (const (i32 12)) (then (num I32Sub) (then (store 0x36 2 0)
      (location (then (load 0x28 2 0) (plain (local_set 0) (location (then (load 0x28 2 4) (plain (local_set 1) done)))))))))))
      (on_state 0 (plain (local_get 0) (plain (local_set 1) done))
      (plain (local_get 1) (plain (call 0) (plain (local_set 2)
      (on_state 1 (location (plain (local_get 0) (then (store 0x36 2 0) (location (plain (local_get 1) (then (store 0x36 2 4) (location (then (const (i32 0)) (then (store 0x36 2 8)
      (then (global_get 1) (location (then (const (i32 12)) (then (num I32Add) (then (store 0x36 2 0) done))))))))))))))
      (plain (local_get 2) done))))));
}))

abbrev by_hand_plan : Plan
by_hand_plan = record { globals = []; entries = entry 1 (i32 7 ∷ []) ∷ []; area = record { at = 1024; len = 64 }; others = []; listed = Some (true ∷ []) }

abbrev by_hand_events : ℕ → List Event
by_hand_events n = events_of (Protocol by_hand by_hand_plan (answer (Some (i32 42)) 5 ∷ []) n).events

pauses_and_goes_on : by_hand_events 200 ≡ call_of 0 (i32 7 ∷ []) ∷ paused 5 20 ∷ answered (S.Value (Some (i32 42))) ∷ returned 0 (Some (i32 42)) ∷ ended Done ∷ []
unfolding with_runtime Base
pauses_and_goes_on = refl

-- the note of the pause has the frame behind the two words: the argument, the slot and the number of the call
frame_at_pause : bytes_of_note (slice_get (Protocol by_hand by_hand_plan (answer (Some (i32 42)) 5 ∷ []) 200).events 1) 1024 20 ≡ 0x14 ∷ 4 ∷ 0 ∷ 0 ∷ 0x40 ∷ 4 ∷ 0 ∷ 0 ∷ 7 ∷ 0 ∷ 0 ∷ 0 ∷ 7 ∷ 0
    ∷ 0 ∷ 0 ∷ 0 ∷ 0 ∷ 0 ∷ 0 ∷ []
unfolding with_runtime Base
frame_at_pause = refl

-- and that of the answer the location at its start again
frame_at_answer : bytes_of_note (slice_get (Protocol by_hand by_hand_plan (answer (Some (i32 42)) 5 ∷ []) 200).events 2) 1024 20 ≡ 8 ∷ 4 ∷ 0 ∷ 0 ∷ 0x40 ∷ 4 ∷ 0 ∷ 0 ∷ 7 ∷ 0 ∷ 0 ∷ 0 ∷ 7 ∷ 0
    ∷ 0 ∷ 0 ∷ 0 ∷ 0 ∷ 0 ∷ 0 ∷ []
unfolding with_runtime Base
frame_at_answer = refl

-- a trap behind a pause is told once the module has rewound, with its poke
abbrev hand_trapped : List Note
hand_trapped = (Protocol by_hand by_hand_plan (trap_with a_poke 5 ∷ answer (Some (i32 42)) 0 ∷ []) 200).events

pauses_and_traps : events_of hand_trapped ≡ call_of 0 (i32 7 ∷ []) ∷ paused 5 20 ∷ answered S.Trap ∷ ended (Trapped ByImport) ∷ []
unfolding with_runtime Base
pauses_and_traps = refl

hand_poked : bytes_of_note (slice_get hand_trapped 3) 63 4 ≡ 0 ∷ 1 ∷ 2 ∷ 0 ∷ []
unfolding with_runtime Base
hand_poked = refl

-- ---- the stack at a call: the call in the second arm of an if is the second one of its function
abbrev calls_in_arms : Module
calls_in_arms = module_with (record {
  sort = 0;
  locals = record { count = 1; ty = I64 } ∷ [];
  body = then (const (i32 5)) (plain (local_get 0) (branch (Some I32) (then (const (i32 8)) (plain (call 0) done)) (then (const (i32 9)) (plain (call 0) done))
      (then (num I32Add) (plain (call 0) done))));
})

abbrev stack_of_note : Option Note → List Suspended
stack_of_note None = []
stack_of_note (Some x) = x.stack

abbrev stack_in_arms : ℕ → ℕ → List Suspended
stack_in_arms x i = stack_of_note (slice_get (Blocking calls_in_arms (plan_of 64 (entry 1 (i32 x ∷ []) ∷ [])) (answer (Some (i32 1)) 0 ∷ answer (Some (i32 2)) 0 ∷ []) 40).events i)

first_arm : stack_in_arms 3 0 ≡ record { func = 1; place = 0; locals = i32 3 ∷ V.I64 0 ∷ []; operands = i32 8 ∷ i32 5 ∷ [] } ∷ []
unfolding pruned calls_of Base
first_arm = refl

second_arm : stack_in_arms 0 0 ≡ record { func = 1; place = 1; locals = i32 0 ∷ V.I64 0 ∷ []; operands = i32 9 ∷ i32 5 ∷ [] } ∷ []
unfolding pruned calls_of Base
second_arm = refl

behind_arms : stack_in_arms 0 2 ≡ record { func = 1; place = 2; locals = i32 0 ∷ V.I64 0 ∷ []; operands = i32 6 ∷ [] } ∷ []
unfolding pruned calls_of Base
behind_arms = refl

-- ---- how a prepared module breaks the protocol, and traps in it
abbrev held_to : Module → List Event
held_to p = events_of (Protocol p (plan_of 64 (entry 1 (i32 7 ∷ []) ∷ [])) (answer (Some (i32 1)) 1 ∷ []) 200).events

abbrev state_to : ℕ → Code
state_to n = then (const (i32 n)) (then (global_set 0) done)

abbrev ask_then : Code → Code
ask_then rest = plain (local_get 0) (plain (call 0) rest)

abbrev prepared_by : Code → Module
prepared_by body = with_runtime (module_with (record { sort = 0; locals = []; body = body }))

-- the state isn't 1 once the entry has returned
breaks_rule_two : held_to (prepared_by (ask_then (then (const (i32 0)) (then (global_set 0) done)))) ≡ call_of 0 (i32 7 ∷ []) ∷ ended (Broken 2) ∷ []
unfolding with_runtime
breaks_rule_two = refl

-- another import is called while the program rewinds
breaks_rule_three : events_of (Protocol
    (with_runtime (record (module_with (record { sort = 0; locals = []; body = on_state 2 (plain (local_get 0) (plain (call 1) (then drop done))) (ask_then done) })) {
      imports = import_of 0
          ∷ import_of 0 ∷ [];
      exports = export_of 2 ∷ [];
    })) (plan_of 64 (entry 2 (i32 7 ∷ []) ∷ [])) (answer (Some (i32 1)) 1 ∷ []) 200).events ≡ call_of 0 (i32 7 ∷ []) ∷ paused 1 8
    ∷ ended (Broken 3) ∷ []
unfolding with_runtime
breaks_rule_three = refl

-- the state isn't 2 at the suspended import
breaks_rule_four : held_to (prepared_by (on_state 2 (state_to 0) (ask_then done))) ≡ call_of 0 (i32 7 ∷ []) ∷ paused 1 8 ∷ ended (Broken 4) ∷ []
unfolding with_runtime
breaks_rule_four = refl

-- the entry returns while the program rewinds
breaks_rule_five : held_to (prepared_by (on_state 2 (then (const (i32 3)) (plain return done)) (ask_then done))) ≡ call_of 0 (i32 7 ∷ []) ∷ paused 1 8 ∷ ended (Broken 5) ∷ []
unfolding with_runtime
breaks_rule_five = refl

-- a trap while the program unwinds, and one while it rewinds
traps_unwinding : held_to (prepared_by (ask_then (on_state 1 (plain unreachable done) done))) ≡ call_of 0 (i32 7 ∷ []) ∷ ended (UnwindTrap Unreachable 8 64) ∷ []
unfolding with_runtime
traps_unwinding = refl

traps_rewinding : held_to (prepared_by (on_state 2 (plain unreachable done) (ask_then done))) ≡ call_of 0 (i32 7 ∷ []) ∷ paused 1 8 ∷ ended (RewindTrap Unreachable) ∷ []
unfolding with_runtime
traps_rewinding = refl

-- an import is called inside an export
breaks_rule_six : held_to (record (prepared_by (ask_then done)) {
  funcs = take 5 (prepared_by (ask_then done)).funcs
      ++ (record { sort = 3; locals = []; body = then (const (i32 1)) (plain (call 0) done) }) ∷ [];
}) ≡ call_of 0 (i32 7 ∷ []) ∷ ended (Broken 6) ∷ []
unfolding with_runtime
breaks_rule_six = refl

-- ---- 4,096 activations: a call from the last one traps, one from the last but one doesn't
abbrev recursive : Module
recursive = module_with (record { sort = 0; locals = []; body = plain (local_get 0) (plain (call 1) done) })

abbrev waits : Activation
waits = waiting 1 [] [] [] done []

abbrev calls_under : ℕ → Next
calls_under n = step recursive (running no_store 1 (replicate n waits) (i32 3 ∷ []) (i32 3 ∷ []) (plain (call 1) done) [])

exhausted : calls_under 4095 ≡ traps 1 StackExhausted no_store
exhausted = refl

not_exhausted : calls_under 4094 ≡ steps 1 (running no_store 1 (waiting 1 (i32 3 ∷ []) [] (i32 3 ∷ []) done [] ∷ replicate 4094 waits) (i32 3 ∷ []) [] (plain (local_get 0) (plain (call 1) done)) [])
not_exhausted = refl

-- ---- the module rewritten by hand behaves like its original in this run
abbrev every_import : Settings
every_import = record { choice = every; ignore_indirect = false; policy = save_all }

abbrev hand_answers : List Outcome
hand_answers = answer (Some (i32 42)) 5 ∷ []

hand_reaches : IsPrefix (events_of (expected_notes asks_once every_import by_hand_plan hand_answers 6))
    (events_of (protocol_notes by_hand by_hand_plan hand_answers (Bound asks_once 6 (pause_stacks (Blocking asks_once by_hand_plan hand_answers 6).events))))
unfolding with_runtime pruned calls_of points Base code_weight
hand_reaches = ([], refl)

hand_follows : IsPrefix (events_of (protocol_notes by_hand by_hand_plan hand_answers 20)) (events_of (expected_notes asks_once every_import by_hand_plan hand_answers 20))
unfolding with_runtime pruned calls_of points Base
hand_follows = (paused 5 20 ∷ answered (S.Value (Some (i32 42))) ∷ returned 0 (Some (i32 42)) ∷ ended Done ∷ [], refl)

hand_image : Image asks_once every_import (false ∷ true ∷ []) (stack_of_note (slice_get (expected_notes asks_once every_import by_hand_plan hand_answers 6) 1)) 1024 64
    (bytes_of_note (slice_get (protocol_notes by_hand by_hand_plan hand_answers 200) 1) 0 65536)
unfolding with_runtime pruned calls_of points Base
hand_image = record { location = refl; limit = refl; frames = (((refl, (refl, tt)), refl), tt) }

hand_moment : events_of (Blocking asks_once by_hand_plan hand_answers 6).events ≡ without_pauses (by_hand_events 200)
unfolding with_runtime Base
hand_moment = refl
