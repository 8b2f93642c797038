use Rattle.world_hosting.proofs.Alone.{alone_text_told, unbound_without_lines}
use Rattle.world_hosting.proofs.told_alone.unbound_programs_are_told_alone.Goals as goal

pub returns-clause-text : goal.returns-clause-text
returns-clause-text c = alone_text_told

pub returns-clause-unbound : goal.returns-clause-unbound
returns-clause-unbound c = unbound_without_lines
