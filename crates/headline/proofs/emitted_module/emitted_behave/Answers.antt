use Rattle.headline.proofs.PauseCosts.{emitted_behave}
use Rattle.headline.proofs.emitted_module.emitted_behave.Goals as goal

pub returns : goal.returns
returns c = emitted_behave
