use Rattle.strand_laws.proofs.StrandStories.{stories_of_originals}
use Rattle.strand_laws.proofs.original_worlds.strand_stories_are_of_originals.Goals as goal

pub returns : goal.returns
returns c = stories_of_originals
