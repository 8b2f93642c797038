use Rattle.std.proofs.lemmas.Result.{IfOk-weaker}
use Rattle.many_host.proofs.MailFew.{few_mail_turns}
use Rattle.many_host.proofs.MailWorlds.{host_tells_next, same_mail_host}
use Rattle.many_host.specs.Standing.{held_of}
use Rattle.many_host.proofs.host.Host.next.Goals as goal

pub returns-clause-told : goal.returns-clause-told
returns-clause-told g c = λ begun programs detaches boxes ds lines told.
    IfOk-weaker c.next_with_mail.result _ _
    (λ r t. host_tells_next begun programs detaches boxes ds lines told.tellers _ _ _ _ (record { turns = c.next_with_mail.new.self }) _ _ r t)
    (c.next_with_mail.ensures.told begun programs detaches boxes ds lines told)

pub returns-clause-left : goal.returns-clause-left
returns-clause-left g c = λ begun programs detaches boxes ds lines told. c.next_with_mail.ensures.left begun programs detaches boxes ds lines told

pub next_with_mail-requires-clause-tells : goal.next_with_mail-requires-clause-tells
next_with_mail-requires-clause-tells g c = c.requires.tells

pub next_with_mail-requires-clause-turns : goal.next_with_mail-requires-clause-turns
next_with_mail-requires-clause-turns g c = few_mail_turns (held_of c.args.self.now.turns) _ _ _ c.args.self.now.turns.stage c.requires.tells c.requires.range.few

pub returns-clause-same : goal.returns-clause-same
returns-clause-same g c = IfOk-weaker c.next_with_mail.result _ _ (λ r h. same_mail_host c.next_with_mail.new.self c.args.self.now.turns _ _ r h) c.next_with_mail.ensures.same
