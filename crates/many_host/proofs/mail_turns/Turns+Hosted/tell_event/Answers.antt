use Rattle.std.proofs.Common.{arith, ◌≡◌, ◌+◌, [], All, List, Option, ℕ, inl, length, length-set, refl, slice_set, sym, ap, ◌∙◌, subst}
use Rattle.std.specs.Prelude.{is_some}
use Rattle.std.proofs.lemmas.List.Elements.{All-set}
use Rattle.std.proofs.lemmas.Option.{same_Some}
use Rattle.world_model.specs.World.{line_at}
use Rattle.wa_model.specs.View.{event_of}
use Rattle.world_laws.proofs.Places.{set_here}
use Rattle.mailbox_device.specs.declared.mailbox.Settled.{Settled}
use Rattle.mailbox_device.specs.Mail.{Mail}
use Rattle.device_port.specs.Listed.{of_all}
use Rattle.host_laws.specs.Supplies.{RisesAtMostOne}
use Rattle.pause_host.specs.Programs.{parked_in}
use Rattle.many_host.specs.Standing.{InRange, IsDueBy, PlaceFits, TurnIsDue, held_of, latest}
use Rattle.many_host.specs.MailStanding.{AreParked, HaveGot, TellsLineFrom, due_behind, dues_settled, stage_behind, with_waiting}
use Rattle.many_host.specs.declared.hosted.Hosted.{Hosted}
use Rattle.many_host.specs.declared.turn_taking.Turns.{Turns}
use Rattle.many_host.proofs.Counts.{counted_devices, counted_faults}
use Rattle.many_host.proofs.DueTicks.{due_next}
use Rattle.many_host.proofs.MailGot.{many_held}
use Rattle.many_host.proofs.MailHeld.{some_mapped}
use Rattle.many_host.proofs.MailLines as L
use Rattle.many_host.proofs.MailTells as T
use Rattle.many_host.proofs.TurnPlaces.{stands_at}
use Rattle.many_host.proofs.mail_turns.Turns+Hosted.tell_event.Goals as goal

pub advance-requires-clause-goes : goal.advance-requires-clause-goes
advance-requires-clause-goes g c = λ none.
    let z = c.requires.tells in
    let there = stands_at c.args.self.now.programs.items c.args.turn.program c.index_mut.result.now c.requires.place c.index_mut.ensures.value in
    let f = T.held z.begun z.programs z.detaches z.boxes z.devices z.lines (held_of c.args.self.now) c.args.self.now.last _ c.args.mail.now c.args.turn z.stands c.index_mut.result.now there in
    record { program = _; notes = _; outcomes = _; at = f.follow.0.at; code = f.follow.0.code }

pub advance-requires-clause-awake : goal.advance-requires-clause-awake
advance-requires-clause-awake g c =
    let z = c.requires.tells in
    let there = stands_at c.args.self.now.programs.items c.args.turn.program c.index_mut.result.now c.requires.place c.index_mut.ensures.value in
    T.awake z.begun z.programs z.detaches z.boxes z.devices z.lines (held_of c.args.self.now) c.args.self.now.last _ c.args.mail.now c.args.turn z.stands c.index_mut.result.now there

pub wait_where_parked-requires : goal.wait_where_parked-requires
wait_where_parked-requires g c = λ name is.
    let z = c.requires.tells in
    let x = c.args.self.now in
    let i = c.args.turn.program in
    let there = stands_at x.programs.items i c.index_mut.result.now c.requires.place c.index_mut.ensures.value in
    let x' : Hosted = record { program = c.advance.new.self } in
    let long = length-set x.programs.items i x' in
    let now = stands_at (slice_set x.programs.items i x') i c.index.result.now (omega (arith, long, c.requires.place)) c.index.ensures in
    let here = same_Some x' c.index.result.now (sym (set_here x.programs.items i x' c.index_mut.result.now there) ∙ now) in
    let is_parked = c.parked_at-parked_at.ensures ∙ ap (λ (v : Hosted). parked_in v.program) (sym here) in
    let h = T.held z.begun z.programs z.detaches z.boxes z.devices z.lines (held_of x) x.last _ c.args.mail.now c.args.turn z.stands c.index_mut.result.now there in
    let n = c.in_ok-event.ensures.next _ _ _ h.follow.0 (T.runs z.begun z.programs z.detaches z.boxes z.devices z.lines (held_of x) x.last _ c.args.mail.now c.args.turn z.stands c.index_mut.result.now there) in
    let stops = c.in_ok-event.ensures.stops h.follow.3 in
    L.can_wait z.begun z.programs z.detaches z.boxes z.devices z.lines (held_of x) x.last _ c.args.mail.now c.args.turn z.stands c.index_mut.result.now there x' (event_of c.in_ok-event.event) (of_all (λ z. (goal.Device-dyn g z).faults z.1) c.args.devices.now) (of_all (λ z. (goal.Device-dyn g z).faults z.1) c.advance.new.devices) (of_all (λ z. (goal.Device-dyn g z).seen z.1) c.advance.new.devices) c.advance.new.mail n stops name (sym is_parked ∙ is)

pub returns-in_err-wait_where_parked-clause-kept : goal.returns-in_err-wait_where_parked-clause-kept
returns-in_err-wait_where_parked-clause-kept g c = λ begun programs detaches boxes ds lines s err.
    let x = c.args.self.now in
    let i = c.args.turn.program in
    let there = stands_at x.programs.items i c.index_mut.result.now c.requires.place c.index_mut.ensures.value in
    let x' : Hosted = record { program = c.advance.new.self } in
    let long = length-set x.programs.items i x' in
    let now = stands_at (slice_set x.programs.items i x') i c.index.result.now (omega (arith, long, c.requires.place)) c.index.ensures in
    let here = same_Some x' c.index.result.now (sym (set_here x.programs.items i x' c.index_mut.result.now there) ∙ now) in
    let is_parked = c.parked_at-parked_at.ensures ∙ ap (λ (v : Hosted). parked_in v.program) (sym here) in
    let h = T.held begun programs detaches boxes ds lines (held_of x) x.last _ c.args.mail.now c.args.turn s c.index_mut.result.now there in
    let n = c.in_ok-event.ensures.next _ _ _ h.follow.0 (T.runs begun programs detaches boxes ds lines (held_of x) x.last _ c.args.mail.now c.args.turn s c.index_mut.result.now there) in
    let stops = c.in_ok-event.ensures.stops h.follow.3 in
    let name = L.some_name _ (ap is_some (sym is_parked) ∙ c.in_err-wait_where_parked.ensures.parked refl) in
    L.parked_devices begun programs detaches boxes ds lines (held_of x) x.last _ c.args.mail.now c.args.turn s c.index_mut.result.now there x' (event_of c.in_ok-event.event) (of_all (λ z. (goal.Device-dyn g z).faults z.1) c.args.devices.now) (of_all (λ z. (goal.Device-dyn g z).faults z.1) c.advance.new.devices) (of_all (λ z. (goal.Device-dyn g z).seen z.1) c.advance.new.devices) c.advance.new.mail n stops name.0 name.1

pub returns-in_err-wait_where_parked-clause-once : goal.returns-in_err-wait_where_parked-clause-once
returns-in_err-wait_where_parked-clause-once g c = λ err.
    let z = c.requires.tells in
    let x = c.args.self.now in
    let i = c.args.turn.program in
    let there = stands_at x.programs.items i c.index_mut.result.now c.requires.place c.index_mut.ensures.value in
    let x' : Hosted = record { program = c.advance.new.self } in
    let long = length-set x.programs.items i x' in
    let now = stands_at (slice_set x.programs.items i x') i c.index.result.now (omega (arith, long, c.requires.place)) c.index.ensures in
    let here = same_Some x' c.index.result.now (sym (set_here x.programs.items i x' c.index_mut.result.now there) ∙ now) in
    let is_parked = c.parked_at-parked_at.ensures ∙ ap (λ (v : Hosted). parked_in v.program) (sym here) in
    let h = T.held z.begun z.programs z.detaches z.boxes z.devices z.lines (held_of x) x.last _ c.args.mail.now c.args.turn z.stands c.index_mut.result.now there in
    let n = c.in_ok-event.ensures.next _ _ _ h.follow.0 (T.runs z.begun z.programs z.detaches z.boxes z.devices z.lines (held_of x) x.last _ c.args.mail.now c.args.turn z.stands c.index_mut.result.now there) in
    let stops = c.in_ok-event.ensures.stops h.follow.3 in
    let name = L.some_name _ (ap is_some (sym is_parked) ∙ c.in_err-wait_where_parked.ensures.parked refl) in
    subst (RisesAtMostOne (of_all (λ z. (goal.Device-dyn g z).faults z.1) c.args.devices.now)) (sym (L.parked_faults z.begun z.programs z.detaches z.boxes z.devices z.lines (held_of x) x.last _ c.args.mail.now c.args.turn z.stands c.index_mut.result.now there x' (event_of c.in_ok-event.event) (of_all (λ z. (goal.Device-dyn g z).faults z.1) c.args.devices.now) (of_all (λ z. (goal.Device-dyn g z).faults z.1) c.advance.new.devices) (of_all (λ z. (goal.Device-dyn g z).seen z.1) c.advance.new.devices) c.advance.new.mail n stops name.0 name.1)) (inl refl)

pub settle_sent-requires-clause-parked : goal.settle_sent-requires-clause-parked
settle_sent-requires-clause-parked g c =
    let z = c.requires.tells in
    let x = c.args.self.now in
    let i = c.args.turn.program in
    let there = stands_at x.programs.items i c.index_mut.result.now c.requires.place c.index_mut.ensures.value in
    let x' : Hosted = record { program = c.advance.new.self } in
    let long = length-set x.programs.items i x' in
    let now = stands_at (slice_set x.programs.items i x') i c.index.result.now (omega (arith, long, c.requires.place)) c.index.ensures in
    let here = same_Some x' c.index.result.now (sym (set_here x.programs.items i x' c.index_mut.result.now there) ∙ now) in
    let is_parked = c.parked_at-parked_at.ensures ∙ ap (λ (v : Hosted). parked_in v.program) (sym here) in
    let h = T.held z.begun z.programs z.detaches z.boxes z.devices z.lines (held_of x) x.last _ c.args.mail.now c.args.turn z.stands c.index_mut.result.now there in
    let n = c.in_ok-event.ensures.next _ _ _ h.follow.0 (T.runs z.begun z.programs z.detaches z.boxes z.devices z.lines (held_of x) x.last _ c.args.mail.now c.args.turn z.stands c.index_mut.result.now there) in
    let stops = c.in_ok-event.ensures.stops h.follow.3 in
    let waits : c.wait_where_parked.new.mail ≡ with_waiting i (parked_in x'.program) c.advance.new.mail =
    c.in_ok-wait_where_parked.ensures.waits ∙ ap (λ o. with_waiting i o c.advance.new.mail) is_parked in
    let settled = ap (λ (m : Mail). m.settled) waits ∙ L.waiting_settled i (parked_in x'.program) c.advance.new.mail in
    subst (λ (ss : List Settled). AreParked ss (slice_set x.programs.items i x')) (sym settled) (L.parked_settles z.begun z.programs z.detaches z.boxes z.devices z.lines (held_of x) x.last _ c.args.mail.now c.args.turn z.stands c.index_mut.result.now there x' (event_of c.in_ok-event.event) (of_all (λ z. (goal.Device-dyn g z).faults z.1) c.args.devices.now) (of_all (λ z. (goal.Device-dyn g z).faults z.1) c.advance.new.devices) (of_all (λ z. (goal.Device-dyn g z).seen z.1) c.advance.new.devices) c.advance.new.mail n stops)

pub returns-clause-range : goal.returns-clause-range
returns-clause-range g c =
    let x = c.args.self.now in
    let most = latest x.earlier x.begun in
    let programs = length-set x.programs.items c.args.turn.program (record { program = c.advance.new.self }) in
    let many = many_held x.shows.items [] (c.args.turn.due + 1) c.wait_where_parked.new.mail.settled _ c.settle_sent.new.self.programs.items c.settle_sent.ensures.got in
    let dues = length-set x.dues.items c.args.turn.program c.settle_or_park-next.result.due in
    let due_many = ap length c.settle_sent.ensures.dues ∙ L.settled_many (c.args.turn.due + 1) c.wait_where_parked.new.mail.settled (slice_set x.dues.items c.args.turn.program c.settle_or_park-next.result.due) in
    let early = All-set (IsDueBy most) x.dues.items c.args.turn.program c.settle_or_park-next.result.due
    (due_next most c.settle_or_park-next.result.due (λ d is. let h = c.settle_or_park-next.ensures.later d is in omega (arith, h, c.requires.due))) c.requires.dues in
    subst (λ (z : Turns Hosted). InRange z) (sym c.settle_sent.ensures.rest)
    (record {
      few = omega (arith, many, programs, c.requires.few);
      wide = omega (arith, due_many, dues, many, programs, c.requires.wide);
      place = subst (PlaceFits (length c.settle_sent.new.self.programs.items)) (sym c.settle_or_park-next.ensures.stage)
          (L.place_with _ (length c.settle_sent.new.self.programs.items) c.args.turn (event_of c.in_ok-event.event) (omega (arith, many, programs, c.requires.place)));
      few_earlier = c.requires.early;
      in_order = c.requires.in_order;
      dues = subst (λ (l : List (Option ℕ)). All (IsDueBy most) l) (sym c.settle_sent.ensures.dues)
          (L.settled_early most (c.args.turn.due + 1) c.wait_where_parked.new.mail.settled (slice_set x.dues.items c.args.turn.program c.settle_or_park-next.result.due)
          (omega (arith, c.requires.due)) early);
      turn = subst (TurnIsDue x.earlier x.begun) (sym c.settle_or_park-next.ensures.stage) (L.turn_with _ x.earlier x.begun c.args.turn (event_of c.in_ok-event.event) c.requires.due);
    })

pub returns-clause-told : goal.returns-clause-told
returns-clause-told g c = λ begun programs detaches boxes ds lines s.
    let x = c.args.self.now in
    let i = c.args.turn.program in
    let there = stands_at x.programs.items i c.index_mut.result.now c.requires.place c.index_mut.ensures.value in
    let x' : Hosted = record { program = c.advance.new.self } in
    let long = length-set x.programs.items i x' in
    let now = stands_at (slice_set x.programs.items i x') i c.index.result.now (omega (arith, long, c.requires.place)) c.index.ensures in
    let here = same_Some x' c.index.result.now (sym (set_here x.programs.items i x' c.index_mut.result.now there) ∙ now) in
    let is_parked = c.parked_at-parked_at.ensures ∙ ap (λ (v : Hosted). parked_in v.program) (sym here) in
    let h = T.held begun programs detaches boxes ds lines (held_of x) x.last _ c.args.mail.now c.args.turn s c.index_mut.result.now there in
    let n = c.in_ok-event.ensures.next _ _ _ h.follow.0 (T.runs begun programs detaches boxes ds lines (held_of x) x.last _ c.args.mail.now c.args.turn s c.index_mut.result.now there) in
    let stops = c.in_ok-event.ensures.stops h.follow.3 in
    let co = of_all (λ z. record { device = (goal.Device-dyn g z).seen z.1; faults = (goal.Device-dyn g z).faults z.1 }) c.args.devices.now in
    let cn = of_all (λ z. record { device = (goal.Device-dyn g z).seen z.1; faults = (goal.Device-dyn g z).faults z.1 }) c.advance.new.devices in
    let waits : c.wait_where_parked.new.mail ≡ with_waiting i (parked_in x'.program) c.advance.new.mail =
    c.in_ok-wait_where_parked.ensures.waits ∙ ap (λ o. with_waiting i o c.advance.new.mail) is_parked in
    let settled = ap (λ (m : Mail). m.settled) waits ∙ L.waiting_settled i (parked_in x'.program) c.advance.new.mail in
    let xs = c.settle_sent.new.self.programs.items in
    let got = subst (λ (ss : List Settled). HaveGot ss (slice_set x.programs.items i x') xs) settled c.settle_sent.ensures.got in
    let due = c.args.turn.due + 1 in
    let next = c.settle_or_park-next.result in
    let yes = c.is_some.ensures ∙ sym (some_mapped _ c.parked_at-parked_at.result) ∙ ap is_some is_parked in
    let due_is = c.settle_or_park-next.ensures.due ∙ ap (λ b. due_behind b c.args.turn.due (event_of c.in_ok-event.event)) yes in
    let stage_is = c.settle_or_park-next.ensures.stage ∙ ap (λ b. stage_behind b c.args.turn (event_of c.in_ok-event.event)) yes in
    let takes = L.line_takes begun programs detaches boxes ds lines (held_of x) x.last _ c.args.mail.now c.args.turn s c.index_mut.result.now there x' (event_of c.in_ok-event.event) (of_all (λ z. (goal.Device-dyn g z).faults z.1) c.args.devices.now) (of_all (λ z. (goal.Device-dyn g z).faults z.1) c.advance.new.devices) (of_all (λ z. (goal.Device-dyn g z).seen z.1) c.advance.new.devices) c.advance.new.mail n stops co cn
    (counted_devices (λ z. (goal.Device-dyn g z).seen z.1) (λ z. (goal.Device-dyn g z).faults z.1) c.args.devices.now)
    (counted_faults (λ z. (goal.Device-dyn g z).seen z.1) (λ z. (goal.Device-dyn g z).faults z.1) c.args.devices.now)
    (counted_devices (λ z. (goal.Device-dyn g z).seen z.1) (λ z. (goal.Device-dyn g z).faults z.1) c.advance.new.devices)
    (counted_faults (λ z. (goal.Device-dyn g z).seen z.1) (λ z. (goal.Device-dyn g z).faults z.1) c.advance.new.devices) in
    let told = L.line_told begun programs detaches boxes ds lines (held_of x) x.last _ c.args.mail.now c.args.turn s c.index_mut.result.now there x' (event_of c.in_ok-event.event) (of_all (λ z. (goal.Device-dyn g z).faults z.1) c.args.devices.now) (of_all (λ z. (goal.Device-dyn g z).faults z.1) c.advance.new.devices) (of_all (λ z. (goal.Device-dyn g z).seen z.1) c.advance.new.devices) c.advance.new.mail n stops xs got due (omega arith) co cn takes next.due next.stage due_is stage_is in
    let dues : c.settle_sent.new.self.dues.items ≡ dues_settled due c.advance.new.mail.settled (slice_set x.dues.items i next.due) =
    c.settle_sent.ensures.dues ∙ ap (λ (ss : List Settled). dues_settled due ss (slice_set x.dues.items i next.due)) settled in
    let mail = c.settle_sent.ensures.mail ∙ ap (λ (m : Mail). record m { settled = [] }) waits in
    let line = line_at c.args.turn.due i (event_of c.in_ok-event.event) in
    subst (λ (v : Turns Hosted). TellsLineFrom begun programs detaches boxes ds lines s.tellers co cn c.args.mail.now line (held_of v) v.last (of_all (λ z. (goal.Device-dyn g z).seen z.1) c.advance.new.devices)
    c.settle_sent.new.mail v.stage) (sym c.settle_sent.ensures.rest)
    (subst (λ (m : Mail). TellsLineFrom begun programs detaches boxes ds lines s.tellers co cn c.args.mail.now line
    (record { programs = xs; dues = c.settle_sent.new.self.dues.items; detaches = x.detaches.items; shows = x.shows.items; begun = x.begun; earlier = x.earlier }) x.last
    (of_all (λ z. (goal.Device-dyn g z).seen z.1) c.advance.new.devices) m next.stage) (sym mail)
    (subst (λ (l : List (Option ℕ)). TellsLineFrom begun programs detaches boxes ds lines s.tellers co cn c.args.mail.now line
    (record { programs = xs; dues = l; detaches = x.detaches.items; shows = x.shows.items; begun = x.begun; earlier = x.earlier }) x.last
    (of_all (λ z. (goal.Device-dyn g z).seen z.1) c.advance.new.devices) (record (with_waiting i (parked_in x'.program) c.advance.new.mail) { settled = [] }) next.stage) (sym dues) told))
