use Rattle.strand_laws.proofs.StrandsMet.{stories_of_met}
use Rattle.strand_laws.proofs.original_worlds.strand_stories_are_of_met.Goals as goal

pub returns : goal.returns
returns c = stories_of_met
