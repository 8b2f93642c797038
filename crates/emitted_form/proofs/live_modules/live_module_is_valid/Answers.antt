use Rattle.emitted_form.proofs.LiveModules.{valid_law}
use Rattle.emitted_form.proofs.live_modules.live_module_is_valid.Goals as goal

pub returns : goal.returns
returns c = valid_law
