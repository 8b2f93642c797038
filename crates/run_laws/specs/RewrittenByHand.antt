-- A module rewritten by hand, and wrong rewritings of it: what the definitions make of each.
use Rattle.std.specs.Prelude.{◌≡◌, ℕ, List, [], ◌∷◌, Option, Some, None, true, codes, slice_get}
use Rattle.wa_types.specs.declared.values.ValType.TheVariants.{I32}
use Rattle.wa_types.specs.declared.values.Value.{Value}
use Rattle.wa_types.specs.declared.values.Value.TheVariants as V
use Rattle.wa_types.specs.declared.values.Trap.TheVariants.{Unreachable}
use Rattle.wa_types.specs.declared.operators.NumOp.TheVariants.{I32Add, I32Sub, I32Eq, I32LtU}
use Rattle.wa_types.specs.declared.syntax.Import.{Import}
use Rattle.wa_types.specs.declared.syntax.ImportKind.TheVariants as K
use Rattle.wa_types.specs.declared.syntax.Export.{Export}
use Rattle.wa_types.specs.declared.syntax.Space.TheVariants as Sp
use Rattle.wa_types.specs.Syntax.{Basic, drop, const, num, global_get, unreachable, load, store, basic, local_get, local_set, local_tee, call, Code, done, plain, branch, FuncType, Func, Module}
use Rattle.wa_types.specs.Memory.{bytes_at}
use Rattle.wa_types.specs.Pausing.{save_all}
use Rattle.wa_types.specs.Runtime.{with_runtime}
use Rattle.wa_model.specs.declared.answers.Said.TheVariants as S
use Rattle.wa_model.specs.declared.events.End.TheVariants.{Done, UnwindTrap}
use Rattle.wa_model.specs.Outside.{Event, called, answered, paused, returned, ended}
use Rattle.wa_model.specs.Plan.{Entry, Plan, Outcome, given}
use Rattle.wa_model.specs.Blocking.{Note, events_of, Blocking}
use Rattle.wa_model.specs.Protocol.{Protocol}
use Rattle.wa_model.specs.Expected.{Expected}

-- an i32
abbrev pub i32 : ℕ → Value
i32 n = V.I32 n

-- an instruction in front of code
abbrev pub then : Basic → Code → Code
then b rest = plain (basic b) rest

-- [i32] -> [i32]
abbrev pub one_to_one : FuncType
one_to_one = record { params = I32 ∷ []; results = I32 ∷ [] }

-- the import `env.pause`, of the type of this index
abbrev pub import_of : ℕ → Import
import_of sort = record { «module» = codes "env"; base = codes "pause"; kind = K.Func sort }

-- this function, exported as `run`
abbrev pub export_of : ℕ → Export
export_of x = record { name = codes "run"; space = Sp.Func; index = x }

-- an answer of this value, with these ticks
abbrev pub answer : Option Value → ℕ → Outcome
answer v ticks = given (record { said = S.Value v; pokes = []; ticks = ticks })

-- the event of a call of an import
abbrev pub call_of : ℕ → List Value → Event
call_of i args = called (record { import = i; args = args })

-- an import of one_to_one as function 0, and a function of this type behind it
abbrev pub module_with : Func → Module
module_with f = record {
  types = one_to_one ∷ [];
  imports = import_of 0 ∷ [];
  funcs = f ∷ [];
  tables = [];
  memories = [];
  globals = [];
  exports = export_of 1 ∷ [];
  start = None;
  elems = [];
  segments = [];
  customs = [];
}

-- an entry of this function
abbrev pub entry : ℕ → List Value → Entry
entry x args = record { func = x; args = args }

-- code that runs where the state is this number
abbrev pub on_state : ℕ → Code → Code → Code
on_state n body rest = then (global_get 0) (then (const (i32 n)) (then (num I32Eq) (branch None body done rest)))

-- the location word
abbrev pub location : Code → Code
location rest = then (global_get 1) (then (load 0x28 2 0) rest)

-- run x = 5 + pause(x)
abbrev pub five_more : Module
five_more = module_with (record { sort = 0; locals = []; body = then (const (i32 5)) (plain (local_get 0) (plain (call 0) (then (num I32Add) done))) })

-- a plan that calls `run` with 7, with an area of this length
abbrev pub area_of : ℕ → Plan
area_of len = record { globals = []; entries = entry 1 (i32 7 ∷ []) ∷ []; area = record { at = 1024; len = len }; others = []; listed = Some (true ∷ []) }

-- a word of the area, this far behind the location, into a local
abbrev pub word_into : ℕ → ℕ → Code → Code
word_into x offset rest = location (then (load 0x28 2 offset) (plain (local_set x) rest))

-- a local into a word of the area
abbrev pub word_from : ℕ → ℕ → Code → Code
word_from x offset rest = location (plain (local_get x) (then (store 0x36 2 offset) rest))

-- the location moved back by 16 bytes
abbrev pub lowered : Code → Code
lowered rest = then (global_get 1) (location (then (const (i32 16)) (then (num I32Sub) (then (store 0x36 2 0) rest))))

-- the location moved on by 16 bytes
abbrev pub raised : Code → Code
raised rest = then (global_get 1) (location (then (const (i32 16)) (then (num I32Add) (then (store 0x36 2 0) rest))))

-- the number of the call, written into the frame
abbrev pub indexed : Code → Code
indexed rest = location (then (const (i32 0)) (then (store 0x36 2 12) rest))

-- end - location < 16: trap
abbrev pub tested : Code → Code
tested rest = then (global_get 1) (then (load 0x28 2 4) (location (then (num I32Sub) (then (const (i32 16)) (then (num I32LtU) (branch None (plain unreachable done) done rest))))))

-- locals: 0 parameter, 1 and 2 slots, 3 scratch. `back` restores, `out` saves, `after` is what follows the call
abbrev pub hand : Code → Code → (Code → Code) → Module
hand back out after = with_runtime (module_with (record {
  sort = 0;
  locals = record { count = 3; ty = I32 } ∷ [];
  body =
      on_state 2 (lowered back)
      (on_state 0 (then (const (i32 5)) (plain (local_set 1) (plain (local_get 0) (plain (local_set 2) done))))
      (plain (local_get 2) (plain (call 0) (after
      (on_state 1 out
      (plain (local_get 1) (plain (local_get 3) (then (num I32Add) done))))))));
}))

-- the parameter and both slots are restored
abbrev pub back_all : Code
back_all = word_into 0 0 (word_into 1 4 (word_into 2 8 done))

-- the first slot isn't restored
abbrev pub back_less : Code
back_less = word_into 0 0 (word_into 2 8 done)

-- the room is tested, then the parameter, both slots and the number of the call are saved
abbrev pub out_all : Code
out_all = tested (word_from 0 0 (word_from 1 4 (word_from 2 8 (indexed (raised done)))))

-- the frame is written before its room is tested
abbrev pub out_early : Code
out_early = word_from 0 0 (word_from 1 4 (word_from 2 8 (indexed (tested (raised done)))))

-- the location is moved before the test
abbrev pub out_moved : Code
out_moved = raised (tested (done))

-- the call's result goes to the scratch local
abbrev pub keeps_apart : Code → Code
keeps_apart rest = plain (local_set 3) rest

-- the dummy result goes to the slot at once
abbrev pub into_slot : Code → Code
into_slot rest = plain (local_tee 2) (plain (local_set 3) rest)

-- an answer of 42 behind a pause of 5 ticks
abbrev pub one_pause : List Outcome
one_pause = answer (Some (i32 42)) 5 ∷ []

-- what this module does under the protocol
abbrev pub held : Module → ℕ → List Event
held p len = events_of (Protocol p (area_of len) one_pause 400).events

-- what is expected of it, in an area of this length
abbrev pub wanted : ℕ → List Event
wanted len = events_of (Expected five_more save_all (record { at = 1024; len = len }) (Blocking five_more (area_of len) one_pause 40).events)

-- bytes of the memory at a note, where there is one
abbrev pub bytes_of_note : Option Note → ℕ → ℕ → List ℕ
bytes_of_note None at len = []
bytes_of_note (Some x) at len = bytes_at x.store.memory at len

-- the bytes of the memory at the note of this place
abbrev pub bytes_shown : Module → (len place at count : ℕ) → List ℕ
bytes_shown p len place at count = bytes_of_note (slice_get (Protocol p (area_of len) one_pause 400).events place) at count

-- the module that is right
abbrev pub right_one : Module
right_one = hand back_all out_all keeps_apart

-- The one that is right does what is expected, where the frame fits and where it doesn't; the frame holds the parameter and
-- both slots.
pub record RightIsExpected : Type 0 where
  pub fits : held right_one 64 ≡ wanted 64
  pub events : wanted 64 ≡ call_of 0 (i32 7 ∷ []) ∷ paused 5 24 ∷ answered (S.Value (Some (i32 42))) ∷ returned 0 (Some (i32 47)) ∷ ended Done ∷ []
  pub short : held right_one 20 ≡ wanted 20
  pub trap : wanted 20 ≡ call_of 0 (i32 7 ∷ []) ∷ ended (UnwindTrap Unreachable 8 20) ∷ []
  pub frame : bytes_shown right_one 64 1 1032 16 ≡ 7 ∷ 0 ∷ 0 ∷ 0 ∷ 5 ∷ 0 ∷ 0 ∷ 0 ∷ 7 ∷ 0 ∷ 0 ∷ 0 ∷ 0 ∷ 0 ∷ 0 ∷ 0 ∷ []

-- Each of these is told apart. Where an operand isn't restored, 42 is returned for 47.
abbrev pub OperandLost : Type 0
OperandLost =
    held (hand back_less out_all keeps_apart) 64 ≡ call_of 0 (i32 7 ∷ []) ∷ paused 5 24 ∷ answered (S.Value (Some (i32 42))) ∷ returned 0 (Some (i32 42)) ∷ ended Done ∷ []

-- Where the frame is written before its room is tested, the events are right, but bytes behind the area are written, which
-- are 0 in the other run.
pub record WrittenBehind : Type 0 where
  pub events : held (hand back_all out_early keeps_apart) 12 ≡ wanted 12
  pub bytes : bytes_shown (hand back_all out_early keeps_apart) 12 1 1036 4 ≡ 5 ∷ 0 ∷ 0 ∷ 0 ∷ []
  pub right : bytes_shown right_one 12 1 1036 4 ≡ 0 ∷ 0 ∷ 0 ∷ 0 ∷ []

-- Where the location is raised before the test, 24 bytes are in use at the trap for 8.
abbrev pub RaisedEarly : Type 0
RaisedEarly = held (hand back_all out_moved keeps_apart) 20 ≡ call_of 0 (i32 7 ∷ []) ∷ ended (UnwindTrap Unreachable 24 20) ∷ []

-- Where the zero that the import gives while it unwinds is stored, the events are right, but the argument's slot holds 0 for 7.
pub record DummyStored : Type 0 where
  pub events : held (hand back_all out_all into_slot) 64 ≡ wanted 64
  pub frame : bytes_shown (hand back_all out_all into_slot) 64 1 1032 16 ≡ 7 ∷ 0 ∷ 0 ∷ 0 ∷ 5 ∷ 0 ∷ 0 ∷ 0 ∷ 0 ∷ 0 ∷ 0 ∷ 0 ∷ 0 ∷ 0 ∷ 0 ∷ 0 ∷ []

-- ---- why originals are well-formed

-- a constant that is no number of 32 bits, held over a pause
abbrev pub too_big : ℕ
too_big = 4294967301

-- a module that holds it over its call
abbrev pub keeps_big : Module
keeps_big = module_with (record { sort = 0; locals = []; body = then (const (i32 too_big)) (plain (local_get 0) (plain (call 0) (then drop done))) })

-- that module, rewritten by hand
abbrev pub hand_big : Module
hand_big = with_runtime (module_with (record {
  sort = 0;
  locals = record { count = 3; ty = I32 } ∷ [];
  body =
      on_state 2 (lowered back_all)
      (on_state 0 (then (const (i32 too_big)) (plain (local_set 1) (plain (local_get 0) (plain (local_set 2) done))))
      (plain (local_get 2) (plain (call 0) (keeps_apart
      (on_state 1 out_all
      (plain (local_get 1) done))))));
}))

-- A number that is none of 32 bits passes a frame as another one: it comes back as 5.
pub record FramesCutNumbers : Type 0 where
  pub blocking : events_of (Blocking keeps_big (area_of 64) one_pause 40).events ≡ call_of 0 (i32 7 ∷ []) ∷ answered (S.Value (Some (i32 42))) ∷ returned 0 (Some (i32 too_big)) ∷ ended Done ∷ []
  pub protocol : held hand_big 64 ≡ call_of 0 (i32 7 ∷ []) ∷ paused 5 24 ∷ answered (S.Value (Some (i32 42))) ∷ returned 0 (Some (i32 5)) ∷ ended Done ∷ []
