use Rattle.pause_host.proofs.MetSoFar.{nothing_met_yet, one_more_met}
use Rattle.pause_host.proofs.laws.calls_meet_as_in_worlds.Goals as goal

pub returns : goal.returns
returns c = record { first = nothing_met_yet; more = one_more_met }
