use Rattle.std.proofs.Common.{ap, ◌∙◌}
use Rattle.mail_laws.specs.MailWorld.{told_pause}
use Rattle.pause_host.specs.Mailing.{awaits_in}
use Rattle.pause_host.proofs.Advancing.{told_end}
use Rattle.wa_model.specs.View.{event_of}
use Rattle.world_model.specs.World.{call_in}
use Rattle.pause_host.proofs.Stopping.{no_call_parked}
use Rattle.pause_host.proofs.program.Program.advance.Goals as goal

pub returns-clause-next : goal.returns-clause-next
returns-clause-next g c = λ w notes os f none.
    record { noted = c.in_ok-event.event; advances = c.in_ok-event.ensures.next w notes os f none; event_is = c.told_event.ensures c.step.new.self.setting }

pub returns-clause-again : goal.returns-clause-again
returns-clause-again g c = λ how told.
    let h = c.in_ok-event.ensures.again how told in
    let r = awaits_in c.step.new.self.setting c.step.new.self.receive in
    (c.told_event.ensures c.step.new.self.setting ∙ ap (told_pause r) h.0 ∙ told_end r how, h.1, h.2, h.3)

pub returns-clause-ending : goal.returns-clause-ending
returns-clause-ending g c = λ how told.
    let h = c.in_ok-event.ensures.ending how told in
    let r = awaits_in c.step.new.self.setting c.step.new.self.receive in
    (c.told_event.ensures c.step.new.self.setting ∙ ap (told_pause r) h.0 ∙ told_end r how, h.1, h.2, h.3)

pub returns-clause-stops : goal.returns-clause-stops
returns-clause-stops g c = λ stops.
    let h = c.in_ok-event.ensures.stops stops c.requires.awake in
    let r = awaits_in c.step.new.self.setting c.step.new.self.receive in
    (h.0, λ a is. ap call_in (c.told_event.ensures c.step.new.self.setting) ∙ no_call_parked r (event_of c.in_ok-event.event) ∙ h.1 a is)
