use Rattle.std.proofs.Common.{◌≡◌, ◌++◌, map}
use Rattle.mailbox_device.specs.Mail.{empty_box, names_of}
use Rattle.mailbox_device.specs.Places.{TellsPlaces}
use Rattle.mailbox_device.proofs.mailboxes.Mailboxes.new.Given as goal

abbrev pub invariant-loop-name : goal.invariant-loop-name
invariant-loop-name l = (l.boxes.items ++ map empty_box l.name-iterator.rest.items ≡ map empty_box l.fn.names.items) × TellsPlaces l.places (names_of l.boxes.items)
