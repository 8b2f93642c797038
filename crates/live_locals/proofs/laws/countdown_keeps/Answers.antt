use Rattle.live_locals.proofs.CountdownCase.{countdown_case}
use Rattle.live_locals.proofs.laws.countdown_keeps.Goals as goal

pub returns : goal.returns
returns c = countdown_case
