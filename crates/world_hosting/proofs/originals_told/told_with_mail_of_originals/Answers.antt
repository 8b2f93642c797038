use Rattle.world_hosting.proofs.MailOriginals.{mail_told_of_originals}
use Rattle.world_hosting.proofs.originals_told.told_with_mail_of_originals.Goals as goal

pub returns : goal.returns
returns c = mail_told_of_originals
