use Rattle.host_laws.proofs.Tellings.{told_begins, told_whole}
use Rattle.host_laws.proofs.laws.told_events_are_a_story.Goals as goal

pub returns-clause-begins : goal.returns-clause-begins
returns-clause-begins c = told_begins

pub returns-clause-whole : goal.returns-clause-whole
returns-clause-whole c = told_whole
