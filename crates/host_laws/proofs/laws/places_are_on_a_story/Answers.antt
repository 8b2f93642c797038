use Rattle.host_laws.proofs.Tellings.{place_begins, place_whole}
use Rattle.host_laws.proofs.laws.places_are_on_a_story.Goals as goal

pub returns-clause-begins : goal.returns-clause-begins
returns-clause-begins c = place_begins

pub returns-clause-whole : goal.returns-clause-whole
returns-clause-whole c = place_whole
