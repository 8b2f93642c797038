use Rattle.joined_worlds.proofs.JoinedLaw.{joined_law}
use Rattle.joined_worlds.proofs.joined_laws.joined_worlds_are_of_originals.Goals as goal

pub returns : goal.returns
returns c = joined_law
