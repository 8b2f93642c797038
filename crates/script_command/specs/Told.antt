-- What is told of a played script: by its lines programs share mailboxes, or have further strands, or neither.
use Rattle.std.specs.Prelude.{ℕ, List, [], ◌∷◌, Option, Some, None}
use Rattle.vault_port.specs.Files.{Files}
use Rattle.vault_port.specs.declared.whole.PutFault.{PutFault}
use Rattle.script_model.specs.Script.{MailboxText, strand_line}
use Rattle.event_order.specs.Left.{Counted}
use Rattle.script_command.specs.declared.way.Way.{Way}
use Rattle.script_command.specs.MailTold.{IsMailBeginning, IsMailToldOf}
use Rattle.script_command.specs.OfOriginals.{IsToldOf}
use Rattle.script_command.specs.Playing.{Play}
use Rattle.script_command.specs.StrandTold.{IsStrandBeginning, IsStrandToldOf}
use Rattle.script_command.specs.Transcripts.{IsBeginning}

-- the one where no mailbox is declared, and the other where one is
abbrev pub ByMail : List MailboxText → (without with : Type 0) → Type 0
ByMail [] without with = without
ByMail (m ∷ ms) without with = with

-- the one where no `strand` line is told, and the other where one is
abbrev pub ByStrands : Option ℕ → (without with : Type 0) → Type 0
ByStrands None without with = without
ByStrands (Some line) without with = with

-- what is printed tells all that is played
abbrev pub IsTold : {way : Way} {files : Option Files} {name : List ℕ} → Play way files name → (old new : List Counted) → List ℕ → Type 0
IsTold play old new text = ByStrands (strand_line play.whole) (ByMail play.whole.mailboxes (IsToldOf play old new text) (IsMailToldOf play old new text)) (IsStrandToldOf play old new text)

-- .. or its beginning
abbrev pub IsBegun : PutFault → {way : Way} {files : Option Files} {name : List ℕ} → Play way files name → (old new : List Counted) → (least : ℕ) → List ℕ → Type 0
IsBegun fault play old new least text =
    ByStrands (strand_line play.whole) (ByMail play.whole.mailboxes (IsBeginning fault play old new least text) (IsMailBeginning fault play old new least text)) (IsStrandBeginning fault play old new least text)
