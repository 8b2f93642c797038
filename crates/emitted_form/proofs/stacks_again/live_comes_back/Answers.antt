use Rattle.emitted_form.proofs.BackAgain.{comes_back}
use Rattle.emitted_form.proofs.stacks_again.live_comes_back.Goals as goal

pub returns : goal.returns
returns c = comes_back
