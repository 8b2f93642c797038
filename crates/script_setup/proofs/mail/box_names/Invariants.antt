use Rattle.std.proofs.Common.{◌≡◌, ℕ, List, map, take}
use Rattle.std.specs.List.{list_any}
use Rattle.std.specs.Str.{bytes_eq}
use Rattle.script_reader.specs.Views.{mailbox_of}
use Rattle.script_setup.specs.MailNames.{has_name}
use Rattle.script_setup.specs.SetUpRules.{box_names}
use Rattle.script_setup.proofs.mail.box_names.Given as goal

abbrev pub invariant-loop-mailbox : goal.invariant-loop-mailbox
invariant-loop-mailbox l = (name : List ℕ) → has_name l.names name ≡ list_any (bytes_eq name) (box_names (map mailbox_of (take l.mailbox-index l.mailboxes)))
