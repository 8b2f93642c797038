use Rattle.event_order.proofs.Leasts.{ended_over}
use Rattle.event_order.proofs.laws.none_is_over.Goals as goal

pub returns : goal.returns
returns c = ended_over
