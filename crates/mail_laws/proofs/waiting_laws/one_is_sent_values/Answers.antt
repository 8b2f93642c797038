use Rattle.mail_laws.proofs.SendingRun.{sends_and_receives}
use Rattle.mail_laws.proofs.waiting_laws.one_is_sent_values.Goals as goal

pub returns : goal.returns
returns c = sends_and_receives
