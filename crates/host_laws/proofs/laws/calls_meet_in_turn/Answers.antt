use Rattle.host_laws.proofs.Tellings.{one_more_met}
use Rattle.host_laws.proofs.laws.calls_meet_in_turn.Goals as goal

pub returns : goal.returns
returns c = one_more_met
