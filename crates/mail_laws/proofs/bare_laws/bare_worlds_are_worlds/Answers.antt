use Rattle.mail_laws.proofs.BareBlocking.{blocking_without_boxes}
use Rattle.mail_laws.proofs.BareWorlds.{worlds_without_boxes}
use Rattle.mail_laws.proofs.bare_laws.bare_worlds_are_worlds.Goals as goal

pub returns-clause-protocol : goal.returns-clause-protocol
returns-clause-protocol c = worlds_without_boxes

pub returns-clause-blocking : goal.returns-clause-blocking
returns-clause-blocking c = blocking_without_boxes
