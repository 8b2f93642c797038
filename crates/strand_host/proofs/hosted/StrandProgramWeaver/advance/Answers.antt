use Rattle.std.proofs.lemmas.Result.{IfOk-weaker}
use Rattle.wa_model.specs.View.{event_of}
use Rattle.strand_host.proofs.HostedStrands.{note_so}
use Rattle.strand_host.proofs.hosted.StrandProgramWeaver.advance.Goals as goal

pub returns-clause-told : goal.returns-clause-told
returns-clause-told g c = λ gs t f live.
    IfOk-weaker c.advance.result _ _ (λ told n. note_so gs t c.advance.new.self _ told.strand (event_of told.event) _ _ _ _ n) (c.advance.ensures.told gs t f.0 live)
