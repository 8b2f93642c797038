use Rattle.mail_laws.proofs.CutStories.{cut_stories, cut_untold}
use Rattle.mail_laws.proofs.original_laws.cut_stories_are_of_originals.Goals as goal

pub returns-clause-told : goal.returns-clause-told
returns-clause-told c = cut_stories

pub returns-clause-untold : goal.returns-clause-untold
returns-clause-untold c = cut_untold
