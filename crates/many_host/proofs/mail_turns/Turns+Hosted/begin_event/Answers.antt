use Rattle.std.proofs.Common.{◌+◌, arith, ap, inr, refl, sym, ◌∙◌, subst, length, List, Option, ℕ}
use Rattle.event_order.specs.Dues.{HaveEnded, IsLeast}
use Rattle.many_host.specs.Standing.{held_of, latest}
use Rattle.many_host.proofs.DueTicks.{due_at, dues_later}
use Rattle.many_host.proofs.Counts.{are_left, left_began, left_when_begun}
use Rattle.many_host.proofs.Beginning.{due_within}
use Rattle.many_host.proofs.MailBegins.{begun_at, line_from}
use Rattle.many_host.proofs.mail_turns.Turns+Hosted.begin_event.Goals as goal

pub stall_first-requires-clause-none : goal.stall_first-requires-clause-none
stall_first-requires-clause-none g c = subst (λ (l : List (Option ℕ)). HaveEnded l) c.deref.ensures.value c.in_default.ensures

pub tell_event-requires-clause-place : goal.tell_event-requires-clause-place
tell_event-requires-clause-place g c =
    due_within c.deref.result.now _ c.in-Some.turn.program c.in-Some.turn.due (ap (λ (l : List (Option ℕ)). length l) c.deref.ensures.value ∙ c.requires.range.wide) c.in-Some.ensures

pub returns-clause-told : goal.returns-clause-told
returns-clause-told g c = λ begun programs detaches boxes ds lines s.
    line_from
    (left_began c.args.self.now.begun (c.args.self.now.begun + 1) c.tell_event.new.self.begun c.deref-2.result.now detaches _ _ refl c.tell_event.ensures.begun
    (c.deref-2.ensures.value ∙ s.detaches_are) c.detach_before.ensures.counts)
    (c.in_ok-tell_event.ensures.told begun programs detaches boxes ds lines
    (begun_at begun programs detaches boxes ds lines (held_of c.args.self.now) c.args.self.now.last _ c.args.mail.now s c.in-Some.turn (subst (λ (l : List (Option ℕ)). IsLeast l c.in-Some.turn.program c.in-Some.turn.due) c.deref.ensures.value c.in-Some.ensures) (c.args.self.now.begun + 1) c.deref-2.result.now _ refl c.deref-2.ensures.value c.detach_before.ensures.devices))

pub returns-clause-none : goal.returns-clause-none
returns-clause-none g c = λ over. subst (λ (l : List (Option ℕ)). HaveEnded l) (sym c.deref.ensures.value) over.0 c.in-Some.turn.program c.in-Some.turn.due c.in-Some.ensures.there

pub returns-clause-begun : goal.returns-clause-begun
returns-clause-begun g c = c.tell_event.ensures.begun

pub tell_event-requires-clause-tells : goal.tell_event-requires-clause-tells
tell_event-requires-clause-tells g c =
    let t = c.requires.tells in
    record {
      begun = t.begun;
      programs = t.programs;
      detaches = t.detaches;
      boxes = t.boxes;
      devices = t.devices;
      lines = t.lines;
      stands = begun_at t.begun t.programs t.detaches t.boxes t.devices t.lines (held_of c.args.self.now) c.args.self.now.last _ c.args.mail.now t.stands c.in-Some.turn (subst (λ (l : List (Option ℕ)). IsLeast l c.in-Some.turn.program c.in-Some.turn.due) c.deref.ensures.value c.in-Some.ensures) (c.args.self.now.begun + 1) c.deref-2.result.now _ refl c.deref-2.ensures.value c.detach_before.ensures.devices;
    }

pub returns-in_err-tell_event-clause-left : goal.returns-in_err-tell_event-clause-left
returns-in_err-tell_event-clause-left g c = λ begun programs detaches boxes ds lines s e.
    are_left (λ z. (goal.Device-dyn g z).seen z.1) (λ z. (goal.Device-dyn g z).faults z.1) c.args.self.now.begun detaches _ c.detach_before.new.devices c.tell_event.new.devices
    (inr (left_when_begun c.args.self.now.begun (c.args.self.now.begun + 1) c.deref-2.result.now detaches _ _ refl (c.deref-2.ensures.value ∙ s.detaches_are) c.detach_before.ensures.counts))
    (c.in_err-tell_event.ensures.kept begun programs detaches boxes ds lines
    (begun_at begun programs detaches boxes ds lines (held_of c.args.self.now) c.args.self.now.last _ c.args.mail.now s c.in-Some.turn (subst (λ (l : List (Option ℕ)). IsLeast l c.in-Some.turn.program c.in-Some.turn.due) c.deref.ensures.value c.in-Some.ensures) (c.args.self.now.begun + 1) c.deref-2.result.now _ refl c.deref-2.ensures.value c.detach_before.ensures.devices) refl)
    (c.in_err-tell_event.ensures.once refl)

pub tell_event-requires-clause-dues : goal.tell_event-requires-clause-dues
tell_event-requires-clause-dues g c =
    let e = c.args.self.now.earlier in
    let b = c.args.self.now.begun in
    dues_later (latest e b) (latest e (b + 1)) c.args.self.now.dues.items (omega arith) c.requires.range.dues

pub tell_event-requires-clause-due : goal.tell_event-requires-clause-due
tell_event-requires-clause-due g c =
    let there = (subst (λ (l : List (Option ℕ)). IsLeast l c.in-Some.turn.program c.in-Some.turn.due) c.deref.ensures.value c.in-Some.ensures) in
    let due = due_at (latest c.args.self.now.earlier c.args.self.now.begun) c.args.self.now.dues.items c.in-Some.turn.program c.in-Some.turn.due there.there c.requires.range.dues in
    let order = c.requires.range.in_order in
    omega (arith, due, order)
