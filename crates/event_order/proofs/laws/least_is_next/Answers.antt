use Rattle.event_order.proofs.Leasts.{least_next}
use Rattle.event_order.proofs.laws.least_is_next.Goals as goal

pub returns : goal.returns
returns c = least_next
