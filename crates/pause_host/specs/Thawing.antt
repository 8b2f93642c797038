-- Which parts and memories a program of a plan can be put back with, and where it then stands.
use Rattle.std.specs.Prelude.{◌≡◌, ◌≤◌, ◌<◌, ◌*◌, ◌-◌, ℕ, suc, List, [], length, map, drop, Bool, Option, false, Some, None, Result, Ok, Err, slice_get}
use Rattle.std.specs.Option.{option_map}
use Rattle.wa_types.specs.declared.values.Value.{Value}
use Rattle.wa_types.specs.Memory.{page_size}
use Rattle.wa_types.specs.Modules.{all_globals, func_type_at}
use Rattle.wa_types.specs.Syntax.{Module}
use Rattle.wa_types.specs.Typing.{GlobalType}
use Rattle.wa_types.specs.View.{module_of}
use Rattle.wa_model.specs.Blocking.{fault_of}
use Rattle.wa_model.specs.Instantiation.{opening, opens}
use Rattle.wa_model.specs.Outside.{AnswerLine}
use Rattle.wa_model.specs.Plan as P
use Rattle.wa_model.specs.Protocol.{exports_of}
use Rattle.wa_model.specs.Store.{Store}
use Rattle.wa_model.specs.View.{answer_line_of}
use Rattle.world_model.specs.World as W
use Rattle.world_model.specs.World.{Halt, Look, at_pause, import_names}
use Rattle.run_theory.specs.Fitting.{types_of, global_types}
use Rattle.interp.specs.Restoring.{PagesFit}
use Rattle.snapshot_store.specs.Snapshots.{PausedParts}
use Rattle.host_setup.specs.SetUp.{set_up}
use Rattle.pause_host.specs.declared.faults.ThawFault.{ThawFault}
use Rattle.pause_host.specs.declared.faults.ThawFault.TheVariants.{Memory, Unfit}
use Rattle.pause_host.specs.declared.plan.Plan.{Plan}
use Rattle.pause_host.specs.declared.program.Program.{Program}
use Rattle.pause_host.specs.Parting.{parts_in}
use Rattle.pause_host.specs.Programs.{BindsAs, Follows, RunsCode, lines_left, named_entries, place_of, source_of, world_program}
use Rattle.pause_host.specs.Settings.{MakesSetting, calls_of}
use Rattle.pause_host.specs.Views.{paused_at}

-- ---- globals

-- which globals are mutable, by index
abbrev pub mutables_of : Module → List Bool
mutables_of m = map (λ (g : GlobalType). g.mutable) (all_globals m)

-- each constant global has the same value in both
abbrev pub SameConstants : (mutables : List Bool) → (before now : List Value) → Type 0
SameConstants mutables before now = (i : ℕ) → slice_get mutables i ≡ Some false → slice_get now i ≡ slice_get before i

-- The values can be the globals of a paused program, which had these imported ones: they are as many and of the types of its module's; instantiation
-- doesn't end the program, and each constant global has its value of then.
pub record GlobalsSuit (m : Module) (imports values : List Value) : Type 0 where
  pub typed : types_of values ≡ global_types (all_globals m)
  pub opened : Store
  pub is_opened : opening m imports ≡ opens opened
  pub constants : SameConstants (mutables_of m) opened.globals values

-- ---- the answer

-- the answer lines of a plan
abbrev pub lines_of : Plan → List AnswerLine
lines_of x = map answer_line_of x.answers.items

-- what tests of answers ask of a plan
abbrev pub tested_plan : Plan → P.Plan
tested_plan x = record { globals = x.globals.items; entries = []; area = x.area; others = []; listed = option_map (λ l. l.items) x.listed }

-- The last answer taken pauses, names the import that waits, and passes its tests on the memory; so that import is listed.
pub record LastAnswer (x : Plan) (parts : PausedParts) : Type 0 where
  pub some : 1 ≤ parts.answers
  pub line : AnswerLine
  pub there : slice_get (lines_of x) (parts.answers - 1) ≡ Some line
  pub pauses : 1 ≤ line.answer.ticks
  pub names : slice_get (import_names (source_of x)) parts.import ≡ Some line.import
  pub passes : fault_of (func_type_at (source_of x) parts.import).results (parts.pages * page_size) (tested_plan x) false parts.import line.answer ≡ None

-- ---- all of it

-- The parts of a pause fit a plan.
pub record PartsSuit (x : Plan) (parts : PausedParts) : Type 0 where
  pub steps : parts.steps_used ≤ x.steps
  pub entry : parts.entry < length x.entries.items
  pub globals : GlobalsSuit (source_of x) x.globals.items parts.globals
  pub pages : PagesFit (source_of x) parts.pages
  pub answer : LastAnswer x parts

-- the plan is one of which a program is made
abbrev pub IsAccepted : Plan → Type 0
IsAccepted x = (funcs : List ℕ) × (set_up (source_of x) x.area (named_entries x) ≡ Ok funcs)

-- The program stands at the pause of these parts and this memory: its table is that of instantiation; the entries behind the one that runs, the answers
-- behind those taken and the steps that aren't used are left.
pub record StandsThawed (x : Plan) (parts : PausedParts) (memory : List ℕ) (suits : PartsSuit x parts) (program : Program) : Type 0 where
  pub funcs : List ℕ
  pub is_set_up : set_up (source_of x) x.area (named_entries x) ≡ Ok funcs
  pub source : module_of program.valid.now ≡ source_of x
  pub setting : MakesSetting (source_of x) x.listed x.binds x.area x.steps program.setting
  pub globals : program.globals ≡ x.globals
  pub given : program.given ≡ length x.answers.items
  pub entry : P.Entry
  pub entry_is : slice_get (calls_of (named_entries x) funcs) parts.entry ≡ Some entry
  pub place : place_of program program.state ≡ paused_at (exports_of (source_of x)) x.area
      (record { number = parts.entry; entries = drop (suc parts.entry) (calls_of (named_entries x) funcs); outcomes = [] }) entry parts.import suits.answer.line.answer
      (record { globals = parts.globals; memory = memory; table = suits.globals.opened.table })
  pub lines : lines_left program ≡ drop parts.answers (lines_of x)
  pub steps : program.steps_left ≡ x.steps - parts.steps_used
  pub code : RunsCode (source_of x) program.state
  pub awake : program.receive ≡ None
  pub parts_are : parts_in program ≡ Some parts

-- the pause of these parts, with this memory, from which a program of a world goes on that is due at this tick
abbrev pub halt_of : (x : Plan) (parts : PausedParts) (memory : List ℕ) → PartsSuit x parts → (due : ℕ) → Halt
halt_of x parts memory suits due = record {
  due = due;
  used = parts.steps_used;
  taken = parts.answers;
  entry = parts.entry;
  import = parts.import;
  answer = suits.answer.line.answer;
  store = record { globals = parts.globals; memory = memory; table = suits.globals.opened.table };
}

-- the program of a world that a plan is, from this pause on
abbrev pub halted_program : (x : Plan) → Halt → List ℕ → List Look → List (Option (List ℕ)) → W.Program
halted_program x halt funcs looks binds = record (world_program x funcs looks binds) { origin = at_pause halt }

-- The program goes on as one of a world that begins at the pause, whenever that is due: it has told nothing of it yet. (The answer lines that it has left
-- are those behind the ones taken.)
abbrev pub GoesOnFrom : (x : Plan) (parts : PausedParts) (memory : List ℕ) → PartsSuit x parts → (funcs : List ℕ) → Program → Type 0
GoesOnFrom x parts memory suits funcs program =
    (due : ℕ) (looks : List Look) (binds : List (Option (List ℕ))) → BindsAs x binds → Follows (halted_program x (halt_of x parts memory suits due) funcs looks binds) [] [] program

-- What thawing answers: the program, where the parts fit the plan, else that they don't; want of memory may come always.
abbrev pub Thaws : Plan → PausedParts → (memory : List ℕ) → Result Program ThawFault → Type 0
Thaws x parts memory (Ok program) =
    (suits : PartsSuit x parts) × (stands : StandsThawed x parts memory suits program) × GoesOnFrom x parts memory suits stands.funcs program
Thaws x parts memory (Err Unfit) = PartsSuit x parts → ⊥
Thaws x parts memory (Err Memory) = Unit {0}
