use Rattle.std.proofs.Common.{◌≡◌, inl, refl, subst, sym}
use Rattle.std.specs.Prelude.{IfOk}
use Rattle.wa_model.specs.View.{line_of}
use Rattle.many_host.proofs.Counts.{are_left, left_kept}
use Rattle.many_host.specs.declared.turn_taking.Stage.{Stage}
use Rattle.many_host.specs.Calls.{BegunBy, BegunNext}
use Rattle.many_host.specs.Standing.{LooksOut, held_of}
use Rattle.many_host.proofs.MailBegins.{line_from}
use Rattle.many_host.proofs.MailStages.{mail_standing}
use Rattle.many_host.proofs.mail_turns.Turns+Hosted.next_with_mail.Goals as goal

pub returns-in-Between-clause-told : goal.returns-in-Between-clause-told
returns-in-Between-clause-told g c = λ begun programs detaches boxes ds lines s.
    c.begin_event.ensures.told begun programs detaches boxes ds lines
    (mail_standing begun programs detaches boxes ds lines (held_of c.args.self.now) _ _ _ c.args.self.now.stage _ c.in-Between.is s)

pub returns-in-Between-clause-left : goal.returns-in-Between-clause-left
returns-in-Between-clause-left g c = λ begun programs detaches boxes ds lines s.
    c.begin_event.ensures.left begun programs detaches boxes ds lines
    (mail_standing begun programs detaches boxes ds lines (held_of c.args.self.now) _ _ _ c.args.self.now.stage _ c.in-Between.is s)

pub returns-in-Showing-clause-told : goal.returns-in-Showing-clause-told
returns-in-Showing-clause-told g c = λ begun programs detaches boxes ds lines s.
    c.show_next.ensures.told begun programs detaches boxes ds lines
    (mail_standing begun programs detaches boxes ds lines (held_of c.args.self.now) _ _ _ c.args.self.now.stage _ c.in-Showing.is s)

pub returns-in-Showing-clause-left : goal.returns-in-Showing-clause-left
returns-in-Showing-clause-left g c = λ begun programs detaches boxes ds lines s.
    c.show_next.ensures.left begun programs detaches boxes ds lines
    (mail_standing begun programs detaches boxes ds lines (held_of c.args.self.now) _ _ _ c.args.self.now.stage _ c.in-Showing.is s)

pub returns-in_ok-tell_event-in-Telling-clause-told : goal.returns-in_ok-tell_event-in-Telling-clause-told
returns-in_ok-tell_event-in-Telling-clause-told g c = λ begun programs detaches boxes ds lines s.
    line_from (left_kept c.args.self.now.begun c.tell_event.new.self.begun detaches _ c.tell_event.ensures.begun)
    (c.in_ok-tell_event-in-Telling.ensures.told begun programs detaches boxes ds lines
    (mail_standing begun programs detaches boxes ds lines (held_of c.args.self.now) _ _ _ c.args.self.now.stage _ c.in-Telling.is s))

pub returns-in_err-tell_event-in-Telling-clause-left : goal.returns-in_err-tell_event-in-Telling-clause-left
returns-in_err-tell_event-in-Telling-clause-left g c = λ begun programs detaches boxes ds lines s e.
    are_left (λ z. (goal.Device-dyn g z).seen z.1) (λ z. (goal.Device-dyn g z).faults z.1) c.args.self.now.begun detaches _ c.args.devices.now c.tell_event.new.devices (inl refl)
    (c.in_err-tell_event-in-Telling.ensures.kept begun programs detaches boxes ds lines
    (mail_standing begun programs detaches boxes ds lines (held_of c.args.self.now) _ _ _ c.args.self.now.stage _ c.in-Telling.is s) refl) (c.in_err-tell_event-in-Telling.ensures.once refl)

pub returns-in-Between-clause-begun : goal.returns-in-Between-clause-begun
returns-in-Between-clause-begun g c =
    subst (λ (stage : Stage). IfOk c.begin_event.result (λ r. BegunNext stage c.args.self.now.begun c.begin_event.new.self.begun r)) (sym c.in-Between.is) c.begin_event.ensures.begun

pub returns-in_ok-tell_event-in-Telling-clause-begun : goal.returns-in_ok-tell_event-in-Telling-clause-begun
returns-in_ok-tell_event-in-Telling-clause-begun g c =
    subst (λ (stage : Stage). BegunBy stage c.args.self.now.begun c.tell_event.new.self.begun (line_of c.in_ok-tell_event-in-Telling.field-0).event) (sym c.in-Telling.is) c.tell_event.ensures.begun

pub returns-in-Showing-clause-begun : goal.returns-in-Showing-clause-begun
returns-in-Showing-clause-begun g c =
    subst (λ (stage : Stage). IfOk c.show_next.result (λ r. BegunNext stage c.args.self.now.begun c.show_next.new.self.begun r)) (sym c.in-Showing.is) c.show_next.ensures.begun

pub begin_event-requires-clause-tells : goal.begin_event-requires-clause-tells
begin_event-requires-clause-tells g c =
    let t = c.requires.tells in
    record {
      begun = t.begun;
      programs = t.programs;
      detaches = t.detaches;
      boxes = t.boxes;
      devices = t.devices;
      lines = t.lines;
      stands = mail_standing t.begun t.programs t.detaches t.boxes t.devices t.lines (held_of c.args.self.now) _ _ _ c.args.self.now.stage _ c.in-Between.is t.stands;
    }

pub tell_event-requires-clause-tells : goal.tell_event-requires-clause-tells
tell_event-requires-clause-tells g c =
    let t = c.requires.tells in
    record {
      begun = t.begun;
      programs = t.programs;
      detaches = t.detaches;
      boxes = t.boxes;
      devices = t.devices;
      lines = t.lines;
      stands = mail_standing t.begun t.programs t.detaches t.boxes t.devices t.lines (held_of c.args.self.now) _ _ _ c.args.self.now.stage _ c.in-Telling.is t.stands;
    }

pub show_next-requires-clause-tells : goal.show_next-requires-clause-tells
show_next-requires-clause-tells g c =
    let t = c.requires.tells in
    record {
      begun = t.begun;
      programs = t.programs;
      detaches = t.detaches;
      boxes = t.boxes;
      devices = t.devices;
      lines = t.lines;
      stands = mail_standing t.begun t.programs t.detaches t.boxes t.devices t.lines (held_of c.args.self.now) _ _ _ c.args.self.now.stage _ c.in-Showing.is t.stands;
    }

pub returns-in-Between-clause-goes_on : goal.returns-in-Between-clause-goes_on
returns-in-Between-clause-goes_on g c = λ left. absurd (left (subst (λ (stage : Stage). LooksOut c.args.self.now.shows.items stage) (sym c.in-Between.is) tt))

pub returns-in-Showing-clause-goes_on : goal.returns-in-Showing-clause-goes_on
returns-in-Showing-clause-goes_on g c =
    subst (λ (stage : Stage). (LooksOut c.args.self.now.shows.items stage → ⊥) → c.show_next.new.self.begun ≡ c.args.self.now.begun) (sym c.in-Showing.is) c.show_next.ensures.goes_on
