use Rattle.headline.proofs.TrapStores.{trap_keeps}
use Rattle.headline.proofs.three_modules.traps_keep_stores.Goals as goal

pub returns : goal.returns
returns c = trap_keeps
