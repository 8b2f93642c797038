-- What is told of programs with strands, which share a list of devices.
use Rattle.std.specs.Prelude.{◌≡◌, ◌⊎◌, ◌≤◌, ◌++◌, ℕ, List, length, map, Option}
use Rattle.wa_model.specs.declared.answers.Detach.{Detach}
use Rattle.wa_model.specs.Plan.{Outcome}
use Rattle.script_model.specs.Transcript.{Names}
use Rattle.world_model.specs.World.{Device}
use Rattle.event_order.specs.Left.{Counted}
use Rattle.many_host.specs.Calls.{devices_of}
use Rattle.vault_port.specs.declared.whole.PutFault.{PutFault}
use Rattle.vault_port.specs.Taken.{Appends}
use Rattle.vault_port.specs.Told.{Becomes}
use Rattle.strand_laws.specs.StrandWorld.{ProtocolStrandWorld, StrandLine, StrandsInWorld}
use Rattle.world_hosting.specs.Worlds.{IsLeft, PrintsPart}
use Rattle.script_command.specs.StrandCounts.{AreStrandsMet, TookStrands, strand_turn_count}
use Rattle.script_command.specs.StrandTranscripts.{StrandTranscript, strand_event_lines}

-- A program with strands as a world has it, and the names of each strand's lines.
pub record NamedStrands : Type 0 where
  pub world : StrandsInWorld
  pub names : List Names

-- the programs of a world
abbrev pub strand_worlds : List NamedStrands → List StrandsInWorld
strand_worlds programs = map (λ (x : NamedStrands). x.world) programs

-- the names of each program's strands
abbrev pub all_strand_names : List NamedStrands → List (List Names)
all_strand_names programs = map (λ (x : NamedStrands). x.names) programs

-- The text tells a whole run of the protocol world of these programs with strands, from these devices to those: its lines, and the last
-- line, which counts all events. What its calls met is what was taken of the devices.
pub record AreStrandsTold (programs : List NamedStrands) (detaches : List Detach) (old new : List Counted) (text : List ℕ) : Type 0 where
  pub lines : List StrandLine
  pub met : List (List Outcome)
  pub world : ProtocolStrandWorld (strand_worlds programs) detaches (devices_of old) lines (devices_of new)
  pub meets : AreStrandsMet lines met world.staged
  pub took : TookStrands (strand_worlds programs) detaches 0 0 lines met old (strand_turn_count lines) new
  pub text_is : text ≡ StrandTranscript (all_strand_names programs) (length programs) (strand_turn_count lines) lines

-- It tells the first lines of one, up to some event, and leaves the devices that are left behind these. So many of its bytes are those
-- of the lines before the last one, or of all: each line is printed before the next event begins.
pub record AreStrandsBegun (fault : PutFault) (programs : List NamedStrands) (detaches : List Detach) (old new : List Counted) (least : ℕ) (text : List ℕ) : Type 0 where
  pub lines : List StrandLine
  pub more : List StrandLine
  pub met : List (List Outcome)
  pub last : List Device
  pub world : ProtocolStrandWorld (strand_worlds programs) detaches (devices_of old) (lines ++ more) last
  pub meets : AreStrandsMet lines met world.staged
  pub begun : ℕ
  pub there : List Counted
  pub took : TookStrands (strand_worlds programs) detaches 0 0 lines met old begun there
  pub left : IsLeft fault begun detaches there new
  pub text_is : text ≡ strand_event_lines (all_strand_names programs) lines
  pub before : List StrandLine
  pub behind : List StrandLine
  pub one : length behind ≤ 1
  pub lines_are : lines ≡ before ++ behind
  pub least_is : least ≡ length (strand_event_lines (all_strand_names programs) before)

-- It tells a whole run, and so many of its bytes are those of its lines, without the last line of all.
pub record AreStrandsEnded (programs : List NamedStrands) (detaches : List Detach) (old new : List Counted) (least : ℕ) (text : List ℕ) : Type 0 where
  pub told : AreStrandsTold programs detaches old new text
  pub least_is : least ≡ length (strand_event_lines (all_strand_names programs) told.lines)

-- A whole such text came behind what was printed.
abbrev pub PrintsStrands : List NamedStrands → List Detach → (cs cs' : List Counted) → (old new : Option (List ℕ)) → Type 0
PrintsStrands programs detaches cs cs' old new = (text : List ℕ) × AreStrandsTold programs detaches cs cs' text × Becomes old new (Appends text)

-- A beginning of a whole such text came behind what was printed.
abbrev pub PrintsStrandsPart : PutFault → List NamedStrands → List Detach → (cs cs' : List Counted) → (old new : Option (List ℕ)) → Type 0
PrintsStrandsPart fault programs detaches cs cs' old new =
    (least : ℕ) × (text : List ℕ) × (AreStrandsBegun fault programs detaches cs cs' least text ⊎ AreStrandsEnded programs detaches cs cs' least text)
    × Becomes old new (PrintsPart fault least text)
