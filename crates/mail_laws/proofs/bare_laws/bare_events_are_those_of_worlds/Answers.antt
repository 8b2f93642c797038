use Rattle.mail_laws.proofs.WithoutBoxes.{events_are_unboxed, unboxed_events_are}
use Rattle.mail_laws.proofs.bare_laws.bare_events_are_those_of_worlds.Goals as goal

pub returns-clause-forth : goal.returns-clause-forth
returns-clause-forth c = events_are_unboxed

pub returns-clause-back : goal.returns-clause-back
returns-clause-back c = unboxed_events_are
