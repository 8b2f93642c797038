-- Scripts of strands, and the lines of their worlds.
use Rattle.std.specs.Prelude.{◌≡◌, ℕ, List, [], ◌∷◌, Some, None, true, codes}
use Rattle.wa_types.specs.declared.values.ValType.TheVariants.{I32, I64}
use Rattle.wa_types.specs.declared.values.Value.{Value}
use Rattle.wa_types.specs.declared.values.Value.TheVariants as V
use Rattle.wa_types.specs.declared.values.Trap.TheVariants.{DivideByZero, Import, Unreachable}
use Rattle.wa_types.specs.declared.operators.NumOp.TheVariants.{I32Add, I64DivU, I64ExtendI32U}
use Rattle.wa_types.specs.declared.syntax.ImportKind.TheVariants as K
use Rattle.wa_types.specs.declared.syntax.Space.TheVariants as Sp
use Rattle.wa_types.specs.Syntax.{Basic, Code, Func, FuncType, Module, basic, call, const, done, drop, global_get, global_set, local_get, local_set, memory_grow, num, plain}
use Rattle.wa_types.specs.Bounds.{Bound}
use Rattle.wa_types.specs.Pausing.{Policy, save_all, save_live}
use Rattle.wa_model.specs.declared.answers.Said.{Said}
use Rattle.wa_model.specs.declared.answers.Said.TheVariants as S
use Rattle.wa_model.specs.declared.events.End.TheVariants.{Done, Trapped, UnwindTrap}
use Rattle.wa_model.specs.Behaves.{pause_stacks}
use Rattle.wa_model.specs.Outside.{AnswerLine, Event, answered, called, ended, paused, returned, shown}
use Rattle.wa_model.specs.Plan.{Outcome}
use Rattle.emitted_form.specs.EmittedAs.{EmittedAs}
use Rattle.image_laws.specs.Example.{may_pause, sample, saving}
use Rattle.strand_laws.specs.Example.{notes_of_three, of_strand, outcomes_of_three, said_after, three_strands, told_of_three, used_by}
use Rattle.strand_laws.specs.Strands.{BlockingStrands, Strand, StrandEvent, StrandProgram, events_told, with_source}
use Rattle.strand_laws.specs.StrandWorld.{BlockingStrandWorld, HeldStrands, ProtocolStrandWorld, StrandLine, StrandOriginal, StrandsInWorld}
use Rattle.strand_laws.specs.Woven.{Told, notes_told}

-- ---- two modules

-- a basic instruction before the rest
abbrev pub first_of : Basic → Code → Code
first_of b rest = plain (basic b) rest

-- the parameter, and what the import answers it
abbrev pub asked_before : Code → Code
asked_before rest = plain (local_get 0) (plain (call 0) rest)

-- the import `env.pause`, a memory of one page, and a function, exported as `run`
abbrev pub one_function : List FuncType → Func → Module
one_function types f = record {
  types = types;
  imports = record { «module» = codes "env"; base = codes "pause"; kind = K.Func 0 } ∷ [];
  funcs = f ∷ [];
  tables = [];
  memories = record { min = 1; max = None } ∷ [];
  globals = [];
  exports = record { name = codes "run"; space = Sp.Func; index = 1 } ∷ [];
  start = None;
  elems = [];
  segments = [];
  customs = [];
}

-- a number for a number
abbrev pub one_to_one : FuncType
one_to_one = record { params = I32 ∷ []; results = I32 ∷ [] }

-- What the import answers is added to a global, which begins at 0, and the sum is returned.
abbrev pub summing : Module
summing = record (one_function (one_to_one ∷ []) (record {
  sort = 0;
  locals = [];
  body = asked_before (first_of (global_get 0) (first_of (num I32Add) (first_of (global_set 0) (first_of (global_get 0) done))));
})) { globals = record { ty = I32; mutable = true; init = first_of (const (V.I32 0)) done } ∷ [] }

-- The memory grows by a page; then 5000000000 is divided by what the import answers.
abbrev pub dividing : Module
dividing = one_function (one_to_one ∷ record { params = []; results = I64 ∷ [] } ∷ []) (record {
  sort = 1;
  locals = record { count = 1; ty = I64 } ∷ [];
  body = first_of (const (V.I32 1)) (first_of memory_grow (first_of drop (first_of (const (V.I64 5000000000)) (plain (local_set 0) (plain (local_get 0)
      (first_of (const (V.I32 2)) (plain (call 0) (first_of (num I64ExtendI32U) (first_of (num I64DivU) done)))))))));
})

-- ---- programs

-- the module's entry with these arguments, and so many bytes from here on as the area
abbrev pub enters_with : (at len : ℕ) → List Value → Strand
enters_with at len args = record { area = record { at = at; len = len }; entries = record { func = 1; args = args } ∷ [] }

-- a module with two strands
abbrev pub two_strands : Module → Strand → Strand → StrandProgram
two_strands m one other = record { source = m; globals = []; listed = Some (true ∷ []); strands = one ∷ other ∷ [] }

-- an answer line for the import
abbrev pub answers_with : (number ticks : ℕ) → AnswerLine
answers_with n ticks = record { import = codes "env.pause"; answer = record { said = S.Value (Some (V.I32 n)); pokes = []; ticks = ticks } }

-- the outcome that it gives
abbrev pub gives_number : (number ticks : ℕ) → List Outcome
gives_number n ticks = said_after ticks (S.Value (Some (V.I32 n)))

-- such a program, with an answer line for each strand, over no devices; a byte of its memory is shown
abbrev pub alone_in_world : StrandProgram → AnswerLine → AnswerLine → StrandOriginal
alone_in_world g one other = record {
  program = record { program = g; steps = 100; answers = (one ∷ []) ∷ (other ∷ []) ∷ []; binds = None ∷ []; looks = record { at = 0; len = 1 } ∷ [] };
  settings = saving save_all;
}

-- ---- lines

-- a line of the only program
abbrev pub line_of : (tick strand : ℕ) → Event → StrandLine
line_of tick i e = record { tick = tick; program = 0; strand = i; event = e }

-- the import is called
abbrev pub asks_for : List Value → Event
asks_for args = called (record { import = 0; args = args })

-- it has answered this number
abbrev pub answers_number : ℕ → Event
answers_number n = answered (S.Value (Some (V.I32 n)))

-- a byte of the memory is shown, which is 0
abbrev pub shows_zero : Event
shows_zero = shown 0 (Some (0 ∷ []))

-- ---- a store that all strands share

-- `run` is entered with 1 and with 2; the first is answered 10 after 2 ticks, the second 100 after 1.
abbrev pub summing_strands : StrandProgram
summing_strands = two_strands summing (enters_with 0 64 (V.I32 1 ∷ [])) (enters_with 64 64 (V.I32 2 ∷ []))

-- The second strand's answer is due first, and the first one adds to what that has left. What is shown stands behind the last end.
abbrev pub lines_of_summing : List StrandLine
lines_of_summing =
    line_of 0 0 (asks_for (V.I32 1 ∷ [])) ∷ line_of 0 0 (paused 2 24) ∷ line_of 0 1 (asks_for (V.I32 2 ∷ [])) ∷ line_of 0 1 (paused 1 24)
    ∷ line_of 1 1 (answers_number 100) ∷ line_of 1 1 (returned 0 (Some (V.I32 100))) ∷ line_of 1 1 (ended Done)
    ∷ line_of 2 0 (answers_number 10) ∷ line_of 2 0 (returned 0 (Some (V.I32 110))) ∷ line_of 2 0 (ended Done) ∷ line_of 2 0 shows_zero ∷ []

-- its world has these lines
abbrev pub SummingTellsItsLines : Type 0
SummingTellsItsLines = BlockingStrandWorld (alone_in_world summing_strands (answers_with 10 2) (answers_with 100 1) ∷ []) [] [] lines_of_summing []

-- ---- a trap ends its strand alone

-- The first strand is answered 0 after a tick, the second 1000 after 2.
abbrev pub dividing_strands : StrandProgram
dividing_strands = two_strands dividing (enters_with 0 64 []) (enters_with 64 64 [])

-- The first divides by zero, and the second goes on.
abbrev pub lines_of_dividing : List StrandLine
lines_of_dividing =
    line_of 0 0 (asks_for (V.I32 2 ∷ [])) ∷ line_of 0 0 (paused 1 44) ∷ line_of 0 1 (asks_for (V.I32 2 ∷ [])) ∷ line_of 0 1 (paused 2 44)
    ∷ line_of 1 0 (answers_number 0) ∷ line_of 1 0 (ended (Trapped DivideByZero))
    ∷ line_of 2 1 (answers_number 1000) ∷ line_of 2 1 (returned 0 (Some (V.I64 5000000))) ∷ line_of 2 1 (ended Done) ∷ line_of 2 0 shows_zero ∷ []

-- its world has these lines
abbrev pub DividingTellsItsLines : Type 0
DividingTellsItsLines = BlockingStrandWorld (alone_in_world dividing_strands (answers_with 0 1) (answers_with 1000 2) ∷ []) [] [] lines_of_dividing []

-- ---- an unwind that traps ends the program

-- the second strand's area has no room for its frame
abbrev pub narrow_strands : StrandProgram
narrow_strands = two_strands summing (enters_with 0 64 (V.I32 1 ∷ [])) (enters_with 64 20 (V.I32 2 ∷ []))

-- The first strand, which waits, tells nothing more; the line of what is shown is its.
abbrev pub lines_of_narrow : List StrandLine
lines_of_narrow =
    line_of 0 0 (asks_for (V.I32 1 ∷ [])) ∷ line_of 0 0 (paused 2 24) ∷ line_of 0 1 (asks_for (V.I32 2 ∷ [])) ∷ line_of 0 1 (ended (UnwindTrap Unreachable 8 20))
    ∷ line_of 0 0 shows_zero ∷ []

-- its world has these lines
abbrev pub NarrowTellsItsLines : Type 0
NarrowTellsItsLines = BlockingStrandWorld (alone_in_world narrow_strands (answers_with 10 2) (answers_with 100 1) ∷ []) [] [] lines_of_narrow []

-- ---- wrong readings

-- what the strands of such a program tell
abbrev pub told_by_two : StrandProgram → (one other : List Outcome) → List StrandEvent
told_by_two g one other = events_told (BlockingStrands (saving save_all) g (one ∷ other ∷ []) 100).events

-- the first strand's answer comes behind the second's end, and it returns this
abbrev pub told_of_summing : (sum : ℕ) → List StrandEvent
told_of_summing sum =
    of_strand 0 (asks_for (V.I32 1 ∷ [])) ∷ of_strand 0 (paused 2 24) ∷ of_strand 1 (asks_for (V.I32 2 ∷ [])) ∷ of_strand 1 (paused 1 24)
    ∷ of_strand 1 (answers_number 100) ∷ of_strand 1 (returned 0 (Some (V.I32 100))) ∷ of_strand 1 (ended Done)
    ∷ of_strand 0 (answers_number 10) ∷ of_strand 0 (returned 0 (Some (V.I32 sum))) ∷ of_strand 0 (ended Done) ∷ []

-- both pause, and then the first strand divides by zero
abbrev pub told_up_to_trap : List StrandEvent
told_up_to_trap =
    of_strand 0 (asks_for (V.I32 2 ∷ [])) ∷ of_strand 0 (paused 1 44) ∷ of_strand 1 (asks_for (V.I32 2 ∷ [])) ∷ of_strand 1 (paused 2 44)
    ∷ of_strand 0 (answers_number 0) ∷ of_strand 0 (ended (Trapped DivideByZero)) ∷ []

-- What the strands of these programs tell, and what they don't: a first strand that goes on over the globals of its pause; a trap that
-- ends the program.
pub record StrandReadings : Type 0 where
  pub shared : told_by_two summing_strands (gives_number 10 2) (gives_number 100 1) ≡ told_of_summing 110
  pub globals_of_pause : told_by_two summing_strands (gives_number 10 2) (gives_number 100 1) ≡ told_of_summing 10 → ⊥
  pub trap_for_all : told_by_two dividing_strands (gives_number 0 1) (gives_number 1000 2) ≡ told_up_to_trap → ⊥

-- ---- strands of what is emitted

-- an answer line for the import
abbrev pub says_after : (ticks : ℕ) → Said → List AnswerLine
says_after ticks said = record { import = codes "env.pause"; answer = record { said = said; pokes = []; ticks = ticks } } ∷ []

-- 42 after 5 ticks, 1 after 3, and a trap after 4
abbrev pub answer_lines_of_three : List (List AnswerLine)
answer_lines_of_three = says_after 5 (S.Value (Some (V.I32 42))) ∷ says_after 3 (S.Value (Some (V.I32 1))) ∷ says_after 4 S.Trap ∷ []

-- the three strands over this module, with as many steps as the bound of a cost of 40
abbrev pub three_over : Policy → Module → StrandsInWorld
three_over policy q =
    record { program = with_source three_strands q; steps = Bound sample 40 (pause_stacks (notes_told (notes_of_three policy))); answers = answer_lines_of_three; binds = None ∷ []; looks = [] }

-- Over whatever is emitted of the small module they tell all that its own strands tell, to their ends.
abbrev pub ThreeTellAll : Type 0
ThreeTellAll =
    (policy : Policy) (q : Module) (ts : List Told) → EmittedAs sample (saving policy) may_pause q → HeldStrands (three_over policy q) outcomes_of_three ts
    → events_told ts ≡ told_of_three (used_by policy)

-- what they tell, where a pause uses so much: each calls and pauses at tick 0, and goes on when it is due
abbrev pub lines_of_three : (used : ℕ) → List StrandLine
lines_of_three used =
    line_of 0 0 (asks_for (V.I32 8 ∷ [])) ∷ line_of 0 0 (paused 5 used) ∷ line_of 0 1 (asks_for (V.I32 10 ∷ [])) ∷ line_of 0 1 (paused 3 used)
    ∷ line_of 0 2 (asks_for (V.I32 2 ∷ [])) ∷ line_of 0 2 (paused 4 used)
    ∷ line_of 3 1 (answers_number 1) ∷ line_of 3 1 (returned 0 (Some (V.I32 6))) ∷ line_of 3 1 (ended Done)
    ∷ line_of 4 2 (answered S.Trap) ∷ line_of 4 2 (ended (Trapped Import))
    ∷ line_of 5 0 (answers_number 42) ∷ line_of 5 0 (returned 0 (Some (V.I32 47))) ∷ line_of 5 0 (ended Done) ∷ []

-- The protocol world over whatever is emitted, by the policy that saves what is live, has these lines.
abbrev pub EmittedTellsItsLines : Type 0
EmittedTellsItsLines =
    (q : Module) → EmittedAs sample (saving save_live) may_pause q → ProtocolStrandWorld (three_over save_live q ∷ []) [] [] (lines_of_three (used_by save_live)) []
