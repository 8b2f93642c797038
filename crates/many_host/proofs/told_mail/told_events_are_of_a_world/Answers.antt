use Rattle.many_host.proofs.MailWorlds.{mail_begun_begins, mail_told_begins, mail_told_whole}
use Rattle.many_host.proofs.told_mail.told_events_are_of_a_world.Goals as goal

pub returns-clause-events : goal.returns-clause-events
returns-clause-events c = mail_told_begins

pub returns-clause-begun : goal.returns-clause-begun
returns-clause-begun c = mail_begun_begins

pub returns-clause-whole : goal.returns-clause-whole
returns-clause-whole c = mail_told_whole
