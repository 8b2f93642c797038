use Rattle.mail_laws.proofs.MailOriginals.{mail_worlds_of_originals, mail_worlds_untold}
use Rattle.mail_laws.proofs.original_laws.worlds_with_mail_are_of_originals.Goals as goal

pub returns-clause-told : goal.returns-clause-told
returns-clause-told c = mail_worlds_of_originals

pub returns-clause-untold : goal.returns-clause-untold
returns-clause-untold c = mail_worlds_untold
