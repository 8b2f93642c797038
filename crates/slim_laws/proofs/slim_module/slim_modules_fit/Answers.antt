use Rattle.slim_laws.proofs.SlimModules.{fit_law, plain_slim}
use Rattle.slim_laws.proofs.slim_module.slim_modules_fit.Goals as goal

pub returns-clause-fit : goal.returns-clause-fit
returns-clause-fit c = fit_law

pub returns-clause-plain : goal.returns-clause-plain
returns-clause-plain c = plain_slim
