-- Mailboxes as the program has them, and their names kept in order.
use Rattle.std.specs.Prelude.{String, ◌≡◌, ℕ, List}
use Rattle.std.specs.declared.alloc.Global.{Global}
use Rattle.std.specs.BTreeSet.{BTreeSet, contains_text}
use Rattle.script_model.specs.Script as T
use Rattle.script_reader.specs.declared.script.MailboxText.{MailboxText}
use Rattle.script_reader.specs.Drafts.{is_declared}

-- a mailbox
abbrev pub mailbox_of : MailboxText → T.MailboxText
mailbox_of m = record { line = m.line; name = m.name }

-- they are the names of these mailboxes
abbrev pub TellsNames : BTreeSet (String Global) → List T.MailboxText → Type 0
TellsNames names boxes = (name : List ℕ) → contains_text names name ≡ is_declared name boxes
