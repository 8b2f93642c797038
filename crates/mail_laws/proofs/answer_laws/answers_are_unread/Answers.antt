use Rattle.mail_laws.proofs.UnreadAnswers.{unread_answers}
use Rattle.mail_laws.proofs.answer_laws.answers_are_unread.Goals as goal

pub returns : goal.returns
returns c = unread_answers
