use Rattle.world_hosting.proofs.MailOriginals.{mail_told_ends}
use Rattle.world_hosting.proofs.originals_told.told_with_mail_end_as_originals.Goals as goal

pub returns : goal.returns
returns c = mail_told_ends
