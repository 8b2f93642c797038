use Rattle.run_laws.proofs.Silence.{calm_is_calm}
use Rattle.run_laws.proofs.stretch_laws.calm_stays_off.Goals as goal

pub returns : goal.returns
returns c = calm_is_calm
