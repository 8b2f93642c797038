use Rattle.many_host.proofs.MailNotes.{mail_stalls, mail_turn_awake, mail_turn_begins, mail_turn_ends, mail_turn_goes_on, nothing_mail_told}
use Rattle.many_host.proofs.told_mail.notes_with_mail_are_told.Goals as goal

pub returns-clause-nothing : goal.returns-clause-nothing
returns-clause-nothing c = nothing_mail_told

pub returns-clause-begins : goal.returns-clause-begins
returns-clause-begins c = mail_turn_begins

pub returns-clause-goes_on : goal.returns-clause-goes_on
returns-clause-goes_on c = mail_turn_goes_on

pub returns-clause-awake : goal.returns-clause-awake
returns-clause-awake c = mail_turn_awake

pub returns-clause-ends : goal.returns-clause-ends
returns-clause-ends c = mail_turn_ends

pub returns-clause-stalls : goal.returns-clause-stalls
returns-clause-stalls c = mail_stalls
