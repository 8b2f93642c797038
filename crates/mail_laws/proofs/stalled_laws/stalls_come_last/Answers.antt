use Rattle.mail_laws.proofs.PlayedAreTold.{worlds_stall_last}
use Rattle.mail_laws.proofs.Stalling.{stalls_last}
use Rattle.mail_laws.proofs.StallsMet.{blocking_worlds_stall_last}
use Rattle.mail_laws.proofs.stalled_laws.stalls_come_last.Goals as goal

pub returns-clause-event : goal.returns-clause-event
returns-clause-event c = stalls_last

pub returns-clause-world : goal.returns-clause-world
returns-clause-world c = worlds_stall_last

pub returns-clause-blocking : goal.returns-clause-blocking
returns-clause-blocking c = blocking_worlds_stall_last
