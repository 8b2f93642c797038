use Rattle.std.proofs.Common.{arith, ◌≡◌, ◌+◌, All, List, None, ap, inr, length-set, refl, sym, ◌∙◌, subst}
use Rattle.std.specs.Prelude.{IsSome, is_some}
use Rattle.std.proofs.lemmas.Option.{same_Some, slice_get_within}
use Rattle.wa_model.specs.View.{event_of}
use Rattle.device_port.specs.Listed.{of_all}
use Rattle.pause_host.specs.Programs.{parked_in, receive_in}
use Rattle.many_host.specs.Hosts.{memory_of}
use Rattle.many_host.specs.MailStanding.{IsFirstParked}
use Rattle.many_host.specs.Standing.{held_of, latest}
use Rattle.many_host.specs.declared.hosted.Hosted.{Hosted}
use Rattle.many_host.proofs.DueTicks.{dues_later}
use Rattle.many_host.proofs.Counts.{are_left, left_began, left_when_begun}
use Rattle.many_host.proofs.MailBegins.{all_ended, free_at, r, receive_now, stalled_line}
use Rattle.many_host.proofs.TurnPlaces.{stands_at}
use Rattle.many_host.proofs.mail_turns.Turns+Hosted.stall_first.Goals as goal

pub index_mut-requires : goal.index_mut-requires
index_mut-requires g c =
    omega (arith, slice_get_within c.deref.result.now c.in-Some.parked c.in-Some.ensures.x c.in-Some.ensures.there, c.deref.ensures.len)

pub end_stalled-requires-clause-parked : goal.end_stalled-requires-clause-parked
end_stalled-requires-clause-parked g c =
    let xs = c.args.self.now.programs.items in
    let first = subst (λ (l : List Hosted). IsFirstParked l c.in-Some.parked) c.deref.ensures.value c.in-Some.ensures in
    let within = slice_get_within xs c.in-Some.parked first.x first.there in
    let there = stands_at xs c.in-Some.parked c.index_mut.result.now within c.index_mut.ensures.value in
    subst (λ (v : Hosted). IsSome (parked_in v.program)) (same_Some first.x c.index_mut.result.now (sym first.there ∙ there)) first.parked

pub overflow_cast-result : goal.overflow_cast-result
overflow_cast-result g c =
    let first = subst (λ (l : List Hosted). IsFirstParked l c.in-Some.parked) c.deref.ensures.value c.in-Some.ensures in
    let within = slice_get_within c.args.self.now.programs.items c.in-Some.parked first.x first.there in
    omega (arith, within, c.requires.range.few)

pub returns-in_default-clause-told : goal.returns-in_default-clause-told
returns-in_default-clause-told g c = λ begun programs detaches boxes ds lines s. record {
  stands = s;
  tellers_are = refl;
  have_ended = all_ended begun programs detaches boxes ds lines (held_of c.args.self.now) c.args.self.now.last _ c.args.mail.now s c.requires.none
      (subst (All (λ (x : Hosted). parked_in x.program ≡ None)) c.deref.ensures.value c.in_default.ensures);
  kept = refl;
}

pub returns-in_err-event-clause-left : goal.returns-in_err-event-clause-left
returns-in_err-event-clause-left g c = λ begun programs detaches boxes ds lines s e.
    are_left (λ z. (goal.Device-dyn g z).seen z.1) (λ z. (goal.Device-dyn g z).faults z.1) c.args.self.now.begun detaches _ c.detach_before.new.devices c.end_stalled.new.devices
    (inr (left_when_begun c.args.self.now.begun (c.args.self.now.begun + 1) c.deref-2.result.now detaches _ _ refl (c.deref-2.ensures.value ∙ s.detaches_are) c.detach_before.ensures.counts))
    (c.in_err-event.ensures.kept refl) (c.in_err-event.ensures.once refl)

pub returns-clause-none : goal.returns-clause-none
returns-clause-none g c = λ over.
    let first = subst (λ (l : List Hosted). IsFirstParked l c.in-Some.parked) c.deref.ensures.value c.in-Some.ensures in
    let free = free_at c.args.self.now.programs.items c.in-Some.parked first.x over.1 first.there in
    let never = sym (ap is_some free) ∙ first.parked in
    absurd cc

pub returns-clause-range : goal.returns-clause-range
returns-clause-range g c =
    let x = c.args.self.now in
    let first = subst (λ (l : List Hosted). IsFirstParked l c.in-Some.parked) c.deref.ensures.value c.in-Some.ensures in
    let within = slice_get_within x.programs.items c.in-Some.parked first.x first.there in
    let many = length-set x.programs.items c.in-Some.parked c.end_stalled.new.self in
    record {
      few = omega (arith, many, c.requires.range.few);
      wide = c.requires.range.wide ∙ sym many;
      place = omega (arith, many, within);
      few_earlier = c.requires.range.few_earlier;
      in_order = omega (arith, c.requires.range.in_order);
      dues = dues_later (latest x.earlier x.begun) (latest x.earlier (x.begun + 1)) x.dues.items (omega arith) c.requires.range.dues;
      turn = tt;
    }

pub returns-clause-told : goal.returns-clause-told
returns-clause-told g c = λ begun programs detaches boxes ds lines s.
    let x = c.args.self.now in
    let i = c.in-Some.parked in
    let first = subst (λ (l : List Hosted). IsFirstParked l i) c.deref.ensures.value c.in-Some.ensures in
    let within = slice_get_within x.programs.items i first.x first.there in
    let there = stands_at x.programs.items i c.index_mut.result.now within c.index_mut.ensures.value in
    let same = same_Some first.x c.index_mut.result.now (sym first.there ∙ there) in
    let await = r begun programs detaches boxes ds lines (held_of x) x.last _ c.args.mail.now s c.requires.none i first in
    let receive = receive_now begun programs detaches boxes ds lines (held_of x) x.last _ c.args.mail.now s c.requires.none i first in
    let ends = c.in_ok-event.ensures.ends await (ap (λ (v : Hosted). receive_in v.program) (sym same) ∙ receive) in
    let left = left_began x.begun (x.begun + 1) (x.begun + 1) c.deref-2.result.now detaches _ _ refl refl (c.deref-2.ensures.value ∙ s.detaches_are) c.detach_before.ensures.counts in
    stalled_line begun programs detaches boxes ds lines (held_of x) x.last _ c.args.mail.now s c.requires.none i first c.end_stalled.new.self (event_of c.in_ok-event.event)
    (x.begun + 1) c.deref-2.result.now _ refl c.deref-2.ensures.value c.detach_before.ensures.devices ends.0 ends.1 (ends.2 ∙ ap memory_of (sym same)) _ _ _ left
    (ap (of_all (λ z. record { device = (goal.Device-dyn g z).seen z.1; faults = (goal.Device-dyn g z).faults z.1 })) ends.3) _ (ap (of_all (λ z. (goal.Device-dyn g z).seen z.1)) ends.3) _ ends.4
