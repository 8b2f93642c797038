use Rattle.std.proofs.Common.{sym, ap, ◌∙◌}
use Rattle.wa_model.specs.View.{event_of}
use Rattle.mail_laws.specs.MailWorld.{told_pause}
use Rattle.pause_host.specs.Mailing.{await_in, awaits_in}
use Rattle.pause_host.proofs.program.told_event.Goals as goal

pub returns-in-Some : goal.returns-in-Some
returns-in-Some c = λ x. c.told_parked.ensures (await_in x c.in-Some.field-0) ∙ ap (λ r. told_pause (awaits_in x r) (event_of c.args.event)) (sym c.in-Some.is)
