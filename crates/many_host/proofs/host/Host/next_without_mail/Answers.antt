use Rattle.std.proofs.lemmas.Result.{IfOk-weaker}
use Rattle.many_host.proofs.FewTurns.{few_turns}
use Rattle.many_host.specs.Standing.{held_of}
use Rattle.many_host.proofs.Worlds.{host_next, same_host}
use Rattle.many_host.proofs.host.Host.next_without_mail.Goals as goal

pub returns-clause-told : goal.returns-clause-told
returns-clause-told g c = λ programs detaches ds lines told.
    IfOk-weaker c.next.result _ _ (λ r t. host_next 0 programs detaches ds lines told.tellers _ _ _ (record { turns = c.next.new.self }) _ r t) (c.next.ensures.told 0 programs detaches ds lines told)

pub returns-clause-told_from : goal.returns-clause-told_from
returns-clause-told_from g c = λ begun programs detaches ds lines told.
    IfOk-weaker c.next.result _ _ (λ r t. host_next begun programs detaches ds lines told.tellers _ _ _ (record { turns = c.next.new.self }) _ r t) (c.next.ensures.told begun programs detaches ds lines told)

pub returns-clause-left : goal.returns-clause-left
returns-clause-left g c = λ programs detaches ds lines told. c.next.ensures.left 0 programs detaches ds lines told

pub next-requires-clause-tells : goal.next-requires-clause-tells
next-requires-clause-tells g c = c.requires.tells

pub next-requires-clause-turns : goal.next-requires-clause-turns
next-requires-clause-turns g c = few_turns (held_of c.args.self.now.turns) _ c.args.self.now.turns.stage c.requires.tells c.requires.range.few

pub returns-clause-same : goal.returns-clause-same
returns-clause-same g c = IfOk-weaker c.next.result _ _ (λ r h. same_host c.next.new.self c.args.self.now.turns r h) c.next.ensures.same
