use Rattle.mailbox_device.specs.Mail.{is_box}
use Rattle.mailbox_device.proofs.Named.{found, changed}
use Rattle.mailbox_device.proofs.laws.places_are_of_names.Goals as goal

pub returns : goal.returns
returns c = record { found = λ name boxes. found (is_box name) boxes; changed = changed }
