use Rattle.host_laws.proofs.Stretches.{compose}
use Rattle.host_laws.proofs.laws.stretches_compose.Goals as goal

pub returns : goal.returns
returns c = compose
