-- What is told of the programs of a script, which share a list of devices and mailboxes.
use Rattle.std.specs.Prelude.{◌≡◌, ◌⊎◌, ◌≤◌, ◌++◌, ℕ, List, length, map, Option}
use Rattle.wa_model.specs.declared.answers.Detach.{Detach}
use Rattle.wa_model.specs.Outside.{Line}
use Rattle.wa_model.specs.Plan.{Outcome}
use Rattle.script_model.specs.Transcript.{Transcript, event_lines}
use Rattle.world_model.specs.World.{Device}
use Rattle.event_order.specs.Left.{Counted}
use Rattle.mail_laws.specs.MailWorld.{ProtocolWorld}
use Rattle.many_host.specs.Calls.{devices_of}
use Rattle.vault_port.specs.declared.whole.PutFault.{PutFault}
use Rattle.vault_port.specs.Taken.{Appends}
use Rattle.vault_port.specs.Told.{Becomes}
use Rattle.world_hosting.specs.MailCounts.{AreMet, TookBeside, event_count}
use Rattle.world_hosting.specs.Worlds.{IsLeft, Part, PrintsPart, part_names, world_programs}

-- The text tells a whole run of the protocol world of these programs with mailboxes of these names, from these devices to those: its lines, and
-- the last line, which counts all events. What its calls met is what was taken of the devices, or what the mailboxes answered, be it later.
pub record AreMailTold (parts : List Part) (detaches : List Detach) (boxes : List (List ℕ)) (old new : List Counted) (text : List ℕ) : Type 0 where
  pub lines : List Line
  pub met : List (List Outcome)
  pub world : ProtocolWorld (world_programs parts) detaches boxes (devices_of old) lines (devices_of new)
  pub meets : AreMet lines met world.actors
  pub took : TookBeside boxes (world_programs parts) detaches 0 0 lines met old (event_count lines) new
  pub text_is : text ≡ Transcript (map part_names parts) (length parts) (event_count lines) lines

-- It tells the first lines of one, up to some event, and leaves the devices that are left behind these. So many of its bytes are those
-- of the lines before the last one, or of all: each line is printed before the next event begins.
pub record AreMailBegun (fault : PutFault) (parts : List Part) (detaches : List Detach) (boxes : List (List ℕ)) (old new : List Counted) (least : ℕ) (text : List ℕ) : Type 0 where
  pub lines : List Line
  pub more : List Line
  pub met : List (List Outcome)
  pub last : List Device
  pub world : ProtocolWorld (world_programs parts) detaches boxes (devices_of old) (lines ++ more) last
  pub meets : AreMet lines met world.actors
  pub begun : ℕ
  pub there : List Counted
  pub took : TookBeside boxes (world_programs parts) detaches 0 0 lines met old begun there
  pub left : IsLeft fault begun detaches there new
  pub text_is : text ≡ event_lines (map part_names parts) lines
  pub before : List Line
  pub behind : List Line
  pub one : length behind ≤ 1
  pub lines_are : lines ≡ before ++ behind
  pub least_is : least ≡ length (event_lines (map part_names parts) before)

-- It tells a whole run, and so many of its bytes are those of its lines, without the last line of all.
pub record AreMailEnded (parts : List Part) (detaches : List Detach) (boxes : List (List ℕ)) (old new : List Counted) (least : ℕ) (text : List ℕ) : Type 0 where
  pub told : AreMailTold parts detaches boxes old new text
  pub least_is : least ≡ length (event_lines (map part_names parts) told.lines)

-- A whole such text came behind what was printed.
abbrev pub TellsMail : List Part → List Detach → (boxes : List (List ℕ)) → (cs cs' : List Counted) → (old new : Option (List ℕ)) → Type 0
TellsMail parts detaches boxes cs cs' old new = (text : List ℕ) × AreMailTold parts detaches boxes cs cs' text × Becomes old new (Appends text)

-- A beginning of a whole such text came behind what was printed.
abbrev pub TellsMailPart : PutFault → List Part → List Detach → (boxes : List (List ℕ)) → (cs cs' : List Counted) → (old new : Option (List ℕ)) → Type 0
TellsMailPart fault parts detaches boxes cs cs' old new =
    (least : ℕ) × (text : List ℕ) × (AreMailBegun fault parts detaches boxes cs cs' least text ⊎ AreMailEnded parts detaches boxes cs cs' least text)
    × Becomes old new (PrintsPart fault least text)
