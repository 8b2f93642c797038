use Rattle.mail_laws.proofs.WaitingRun.{waits_for_good}
use Rattle.mail_laws.proofs.waiting_laws.one_waits_for_good.Goals as goal

pub returns : goal.returns
returns c = waits_for_good
