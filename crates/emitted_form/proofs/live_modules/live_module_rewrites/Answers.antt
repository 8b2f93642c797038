use Rattle.emitted_form.proofs.LiveModules.{rewrites_law}
use Rattle.emitted_form.proofs.live_modules.live_module_rewrites.Goals as goal

pub returns : goal.returns
returns c = rewrites_law
