use Rattle.std.proofs.lemmas.Result.{IfOk-weaker}
use Rattle.pause_host.proofs.Advancing.{on_its_way_by}
use Rattle.many_host.proofs.Tellings.{none_is, tells_note}
use Rattle.many_host.proofs.hosted.HostedTeller.advance.Goals as goal

pub returns-clause-told : goal.returns-clause-told
returns-clause-told g c = λ w notes os answers f runs.
    IfOk-weaker c.advance_without_mail.result _ _
    (λ event a. tells_note w notes os answers c.args.self.now.program (record { program = c.advance_without_mail.new.self }) event _ _ _ _ f.1 a)
    (c.advance_without_mail.ensures.next w notes os f.0 (none_is _ runs))

pub advance_without_mail-requires-clause-goes : goal.advance_without_mail-requires-clause-goes
advance_without_mail-requires-clause-goes g c = let h = c.requires.goes in on_its_way_by h.0 h.1 h.2 c.args.self.now.program h.4.0
