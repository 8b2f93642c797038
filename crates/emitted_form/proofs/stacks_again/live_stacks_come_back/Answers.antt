use Rattle.emitted_form.proofs.StacksAgain.{stacks_come_back}
use Rattle.emitted_form.proofs.stacks_again.live_stacks_come_back.Goals as goal

pub returns : goal.returns
returns c = stacks_come_back
