use Rattle.headline.proofs.Staying.{staying_behave}
use Rattle.headline.proofs.emitted_module.staying_behave.Goals as goal

pub returns : goal.returns
returns c = staying_behave
