use Rattle.emitted_form.proofs.EmittedSizes.{sizes_law}
use Rattle.emitted_form.proofs.emitted_module.emitted_module_keeps_sizes.Goals as goal

pub returns : goal.returns
returns c = sizes_law
