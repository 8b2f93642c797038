use Rattle.mail_laws.proofs.NoneWaits.{none_waits}
use Rattle.mail_laws.proofs.bare_laws.none_waits_without_boxes.Goals as goal

pub returns : goal.returns
returns c = none_waits
