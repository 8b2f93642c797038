use Rattle.many_host.proofs.MailStories.{held_stories}
use Rattle.many_host.proofs.told_mail.held_programs_have_stories.Goals as goal

pub returns : goal.returns
returns c = held_stories
