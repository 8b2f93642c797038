use Rattle.std.proofs.lemmas.Result.{IfOk-weaker}
use Rattle.strand_host.proofs.StrandLines.{host_next, same_host}
use Rattle.strand_host.proofs.host.StrandHost.next.Goals as goal

pub returns-clause-told : goal.returns-clause-told
returns-clause-told g c = λ gs detaches ds lines told.
    IfOk-weaker c.next.result _ _ (λ r t. host_next gs detaches ds lines told.tellers _ _ _ (record { turns = c.next.new.self }) _ r t) (c.next.ensures.told gs detaches ds lines told)

pub returns-clause-left : goal.returns-clause-left
returns-clause-left g c = λ gs detaches ds lines told. c.next.ensures.left gs detaches ds lines told

pub next-requires-clause-tells : goal.next-requires-clause-tells
next-requires-clause-tells g c = c.requires.tells

pub returns-clause-same : goal.returns-clause-same
returns-clause-same g c = IfOk-weaker c.next.result _ _ (λ r h. same_host c.next.new.self c.args.self.now.turns r h) c.next.ensures.same
