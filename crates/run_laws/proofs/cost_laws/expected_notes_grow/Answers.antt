use Rattle.run_laws.proofs.Growing.{expected_grow}
use Rattle.run_laws.proofs.cost_laws.expected_notes_grow.Goals as goal

pub returns : goal.returns
returns c = expected_grow
