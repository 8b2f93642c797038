use Rattle.emitted_form.proofs.LiveModules.{sizes_law}
use Rattle.emitted_form.proofs.live_modules.live_module_keeps_sizes.Goals as goal

pub returns : goal.returns
returns c = sizes_law
