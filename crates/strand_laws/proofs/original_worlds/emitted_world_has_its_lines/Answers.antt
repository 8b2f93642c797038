use Rattle.strand_laws.proofs.ThreeToTheEnd.{emitted_tells}
use Rattle.strand_laws.proofs.original_worlds.emitted_world_has_its_lines.Goals as goal

pub returns : goal.returns
returns c = emitted_tells
