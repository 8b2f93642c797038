use Rattle.image_laws.proofs.Entries.{entry_is_numbered}
use Rattle.image_laws.proofs.held_pauses.entry_is_numbered.Goals as goal

pub returns : goal.returns
returns c = entry_is_numbered
