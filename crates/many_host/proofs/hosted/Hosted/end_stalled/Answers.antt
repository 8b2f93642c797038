use Rattle.std.proofs.Common.{◌∙◌, ap}
use Rattle.std.proofs.lemmas.Result.{IfOk-weaker}
use Rattle.wa_model.specs.declared.events.End.TheVariants.{Stalled}
use Rattle.pause_host.specs.Programs.{memory_in}
use Rattle.pause_host.specs.declared.program.Program.{Program}
use Rattle.many_host.specs.Hosts.{has_ended}
use Rattle.many_host.proofs.MailHeld.{ended_behind, memory_behind}
use Rattle.many_host.proofs.hosted.Hosted.end_stalled.Goals as goal

pub returns-clause-ends : goal.returns-clause-ends
returns-clause-ends g c = λ r is.
    let mid = c.stall.new.self in
    let how = Stalled r.import in
    let due = c.stall.ensures.ending r is in
    IfOk-weaker c.advance.result _ _
    (λ event h. (
      h.0,
      ap (λ (z : Program). has_ended (record { program = z })) h.1 ∙ ended_behind mid how mid.state due,
      ap memory_in h.1 ∙ memory_behind how mid.state ∙ c.stall.ensures.kept.0,
      h.2,
      h.3,
    ))
    (c.advance.ensures.ending how due)
