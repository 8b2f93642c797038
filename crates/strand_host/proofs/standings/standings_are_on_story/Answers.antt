use Rattle.strand_host.proofs.StandingStories.{between_is_on_story, turn_is_on_story, whole_is_on_story}
use Rattle.strand_host.proofs.standings.standings_are_on_story.Goals as goal

pub returns-clause-turn : goal.returns-clause-turn
returns-clause-turn c = turn_is_on_story

pub returns-clause-between : goal.returns-clause-between
returns-clause-between c = between_is_on_story

pub returns-clause-whole : goal.returns-clause-whole
returns-clause-whole c = whole_is_on_story
