use Rattle.headline.proofs.QuietRewritten.{quiet_rewritten}
use Rattle.headline.proofs.rewritten_modules.quiet_modules_are_rewritten.Goals as goal

pub returns : goal.returns
returns c = quiet_rewritten
