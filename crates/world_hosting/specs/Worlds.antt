-- What is told of the programs of a script, which share a list of devices.
use Rattle.std.specs.Prelude.{◌≡◌, ◌⊎◌, ◌≤◌, ◌<◌, ◌^◌, ◌++◌, ℕ, List, [], length, map, take, Option, Some, Bool, All}
use Rattle.wa_types.specs.Modules.{func_imports}
use Rattle.wa_types.specs.Sizes.{value_fits}
use Rattle.wa_types.specs.Syntax.{Module}
use Rattle.wa_model.specs.declared.answers.Detach.{Detach}
use Rattle.wa_model.specs.Outside.{AnswerLine, Line}
use Rattle.wa_model.specs.Plan.{AnswerFits, Outcome}
use Rattle.script_model.specs.Script.{EntryText, GlobalText, ProgramText, ShowText, StrandText}
use Rattle.script_model.specs.Transcript.{Names, Transcript, event_lines}
use Rattle.world_model.specs.World.{Device, Look, Program, ProtocolWorldFrom, at_start, ends_turn}
use Rattle.event_order.specs.Left.{Counted}
use Rattle.pause_host.specs.Moves.{HasShortPokes}
use Rattle.pause_host.specs.Settings.{calls_of}
use Rattle.script_setup.specs.SetUpRules.{SetUp, entries_in, named_entry, program_names}
use Rattle.many_host.specs.Calls.{AreLeft, devices_of}
use Rattle.many_host.specs.Turns.{behind as number_behind}
use Rattle.vault_port.specs.declared.whole.PutFault.{PutFault}
use Rattle.vault_port.specs.declared.whole.PutFault.TheVariants.{Fault, Memory}
use Rattle.vault_port.specs.Taken.{Appends, AppendsPast}
use Rattle.vault_port.specs.Told.{Becomes}
use Rattle.script_setup.specs.Bindings.{bindings}
use Rattle.world_hosting.specs.Counts.{AreMet, Took, ended_in}

-- ---- what is asked of a program

-- Entries of a further strand are numbered in 32 bits; its pokes are short.
pub record FitsStrand (s : StrandText) : Type 0 where
  pub entries : length s.entries < 2 ^ 32
  pub pokes : All HasShortPokes s.answers

-- There is a step, and no more than 1,000,000,000; entries are numbered in 32 bits, in all strands together too; pokes are short; there are
-- at most 15 further strands.
pub record FitsPlan (t : ProgramText) : Type 0 where
  pub some_steps : 1 ≤ t.steps
  pub few_steps : t.steps ≤ 1000000000
  pub entries : length t.entries < 2 ^ 32
  pub pokes : All HasShortPokes t.answers
  pub few : length t.strands ≤ 15
  pub all : length (entries_in t) < 2 ^ 32
  pub strands : All FitsStrand t.strands

-- Values of a further strand, and the numbers of its answers, lie in the ranges of their types.
pub record HasStrandRanges (s : StrandText) : Type 0 where
  pub entries : All (λ (e : EntryText). All value_fits e.args) s.entries
  pub answers : All (λ (l : AnswerLine). AnswerFits l.answer) s.answers

-- Values, and the numbers of answers, lie in the ranges of their types.
pub record HasRanges (t : ProgramText) : Type 0 where
  pub globals : All (λ (g : GlobalText). value_fits g.value) t.globals
  pub entries : All (λ (e : EntryText). All value_fits e.args) t.entries
  pub answers : All (λ (l : AnswerLine). AnswerFits l.answer) t.answers
  pub strands : All HasStrandRanges t.strands

-- Where it is told which function imports are listed, it is told of each.
abbrev pub IsListing : Module → Option (List Bool) → Type 0
IsListing p listed = (l : List Bool) → listed ≡ Some l → length l ≡ func_imports p

-- ---- the programs of a world

-- A program of a script: its module, which function imports are listed where that is told, its text, and what it is given by the
-- set-up rules.
pub record Part : Type 0 where
  pub source : Module
  pub listed : Option (List Bool)
  pub text : ProgramText
  pub given : SetUp

-- a program of a script by these
abbrev pub part : Module → Option (List Bool) → ProgramText → SetUp → Part
part p listed t s = record { source = p; listed = listed; text = t; given = s }

-- the memory that a line of a script shows
abbrev pub look_at : ShowText → Look
look_at s = record { at = s.at; len = s.len }

-- the program of a world that it is, from its start on
abbrev pub world_program : Part → Program
world_program x = record {
  source = x.source;
  plan = record { globals = x.given.globals; entries = calls_of (map named_entry x.text.entries) x.given.funcs; area = x.text.area; others = []; listed = x.listed };
  steps = x.text.steps;
  answers = x.text.answers;
  binds = bindings x.source x.text.binds;
  looks = map look_at x.text.shows;
  origin = at_start;
}

-- the names of its lines
abbrev pub part_names : Part → Names
part_names x = program_names x.source x.text

-- the programs of a world
abbrev pub world_programs : List Part → List Program
world_programs parts = map world_program parts

-- ---- what is printed

-- how many turns end in these lines
abbrev pub turn_count : List Line → ℕ
turn_count = ended_in ends_turn

-- The text tells a whole run of the protocol world of these programs, behind so many earlier events, from these devices to those: its
-- lines, and the last line, which counts all events. What its calls met is what was taken of the devices.
pub record AreToldFrom (earlier : ℕ) (programs : List Program) (parts : List Part) (detaches : List Detach) (old new : List Counted) (text : List ℕ) : Type 0 where
  pub lines : List Line
  pub met : List (List Outcome)
  pub world : ProtocolWorldFrom earlier programs detaches (devices_of old) lines (devices_of new)
  pub meets : AreMet lines met world.actors
  pub took : Took programs detaches earlier earlier lines met old (number_behind earlier (turn_count lines)) new
  pub text_is : text ≡ Transcript (map part_names parts) (length parts) (number_behind earlier (turn_count lines)) lines

-- the same of programs of a script from their start
abbrev pub AreTold : List Part → List Detach → (old new : List Counted) → List ℕ → Type 0
AreTold parts = AreToldFrom 0 (world_programs parts) parts

-- What is left behind first lines: where the sink failed, the devices and their counts that these leave; where memory was wanting, these
-- devices, or those that are left when the next event begins, of whose counts one may have risen.
abbrev pub IsLeft : PutFault → (begun : ℕ) → List Detach → (there new : List Counted) → Type 0
IsLeft Fault begun detaches there new = new ≡ there
IsLeft Memory begun detaches there new = AreLeft begun detaches there new

-- It tells the first lines of one, up to some event, and leaves the devices that are left behind these. So many of its bytes are those
-- of the lines before the last one, or of all: each line is printed before the next event begins.
pub record AreBegunFrom (fault : PutFault) (earlier : ℕ) (programs : List Program) (parts : List Part) (detaches : List Detach) (old new : List Counted) (least : ℕ) (text : List ℕ) : Type 0 where
  pub lines : List Line
  pub more : List Line
  pub met : List (List Outcome)
  pub last : List Device
  pub world : ProtocolWorldFrom earlier programs detaches (devices_of old) (lines ++ more) last
  pub meets : AreMet lines met world.actors
  pub begun : ℕ
  pub there : List Counted
  pub took : Took programs detaches earlier earlier lines met old begun there
  pub left : IsLeft fault begun detaches there new
  pub text_is : text ≡ event_lines (map part_names parts) lines
  pub before : List Line
  pub behind : List Line
  pub one : length behind ≤ 1
  pub lines_are : lines ≡ before ++ behind
  pub least_is : least ≡ length (event_lines (map part_names parts) before)

-- the same of programs of a script from their start
abbrev pub AreBegun : PutFault → List Part → List Detach → (old new : List Counted) → (least : ℕ) → List ℕ → Type 0
AreBegun fault parts = AreBegunFrom fault 0 (world_programs parts) parts

-- It tells a whole run, and so many of its bytes are those of its lines, without the last line of all.
pub record AreEndedFrom (earlier : ℕ) (programs : List Program) (parts : List Part) (detaches : List Detach) (old new : List Counted) (least : ℕ) (text : List ℕ) : Type 0 where
  pub told : AreToldFrom earlier programs parts detaches old new text
  pub least_is : least ≡ length (event_lines (map part_names parts) told.lines)

-- the same of programs of a script from their start
abbrev pub AreEnded : List Part → List Detach → (old new : List Counted) → (least : ℕ) → List ℕ → Type 0
AreEnded parts = AreEndedFrom 0 (world_programs parts) parts

-- A whole such text came behind what was printed.
abbrev pub TellsWorldFrom : (earlier : ℕ) → List Program → List Part → List Detach → (cs cs' : List Counted) → (old new : Option (List ℕ)) → Type 0
TellsWorldFrom earlier programs parts detaches cs cs' old new = (text : List ℕ) × AreToldFrom earlier programs parts detaches cs cs' text × Becomes old new (Appends text)

-- the same of programs of a script from their start
abbrev pub Tells : List Part → List Detach → (cs cs' : List Counted) → (old new : Option (List ℕ)) → Type 0
Tells parts = TellsWorldFrom 0 (world_programs parts) parts

-- So many first bytes of a text at least were printed, and not all of them where the sink failed.
abbrev pub PrintsPart : PutFault → (least : ℕ) → (text old new : List ℕ) → Type 0
PrintsPart Fault least text old new = AppendsPast least text old new
PrintsPart Memory least text old new = (n : ℕ) × (least ≤ n) × (new ≡ old ++ take n text)

-- A beginning of a whole such text came behind what was printed.
abbrev pub TellsPartFrom : PutFault → (earlier : ℕ) → List Program → List Part → List Detach → (cs cs' : List Counted) → (old new : Option (List ℕ)) → Type 0
TellsPartFrom fault earlier programs parts detaches cs cs' old new =
    (least : ℕ) × (text : List ℕ) × (AreBegunFrom fault earlier programs parts detaches cs cs' least text ⊎ AreEndedFrom earlier programs parts detaches cs cs' least text)
    × Becomes old new (PrintsPart fault least text)

-- the same of programs of a script from their start
abbrev pub TellsPart : PutFault → List Part → List Detach → (cs cs' : List Counted) → (old new : Option (List ℕ)) → Type 0
TellsPart fault parts = TellsPartFrom fault 0 (world_programs parts) parts
