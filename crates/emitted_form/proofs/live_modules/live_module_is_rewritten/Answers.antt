use Rattle.emitted_form.proofs.LiveModules.{rewritten_law}
use Rattle.emitted_form.proofs.live_modules.live_module_is_rewritten.Goals as goal

pub returns : goal.returns
returns c = rewritten_law
