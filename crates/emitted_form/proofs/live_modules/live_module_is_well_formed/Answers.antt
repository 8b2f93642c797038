use Rattle.emitted_form.proofs.LiveModules.{well_formed_law}
use Rattle.emitted_form.proofs.live_modules.live_module_is_well_formed.Goals as goal

pub returns : goal.returns
returns c = well_formed_law
