use Rattle.strand_host.proofs.StandingLed.{last_move_leads}
use Rattle.strand_host.proofs.standings.last_moves_lead.Goals as goal

pub returns : goal.returns
returns c = last_move_leads
