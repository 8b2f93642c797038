use Rattle.std.proofs.Common.{arith, length-set, sym, ◌∙◌, subst}
use Rattle.std.proofs.lemmas.List.Elements.{All-set}
use Rattle.wa_model.specs.View.{event_of}
use Rattle.many_host.specs.Standing.{IsDueBy, PlaceFits, TurnIsDue, held_of, latest}
use Rattle.many_host.proofs.DueTicks.{due_behind_it, due_next, place_behind}
use Rattle.many_host.proofs.Counts.{counted_devices, counted_faults}
use Rattle.many_host.proofs.TurnNotes.{follows_now, line_told}
use Rattle.many_host.proofs.TurnPlaces.{stands_at}
use Rattle.many_host.proofs.turn_taking.Turns.tell.Goals as goal

pub returns-clause-told : goal.returns-clause-told
returns-clause-told g c = λ begun programs detaches ds lines s.
    let there = stands_at c.args.self.now.programs.items c.args.turn.program c.index_mut.result.now c.requires.place c.index_mut.ensures.value in
    line_told g.T.Teller.follows g.T.Teller.has_ended g.T.Teller.memory begun programs detaches ds lines (held_of c.args.self.now) _ c.args.turn s c.index_mut.result.now there
    c.advance.new.self (event_of c.in_ok-event.event) _ _ _ c.in_ok-event.ensures.told c.settle-next.result.due c.settle-next.result.stage c.settle-next.ensures.due c.settle-next.ensures.stage
    _ _
    (counted_devices (λ z. (goal.Device-dyn g z).seen z.1) (λ z. (goal.Device-dyn g z).faults z.1) c.args.devices.now)
    (counted_faults (λ z. (goal.Device-dyn g z).seen z.1) (λ z. (goal.Device-dyn g z).faults z.1) c.args.devices.now)
    (counted_devices (λ z. (goal.Device-dyn g z).seen z.1) (λ z. (goal.Device-dyn g z).faults z.1) c.advance.new.devices)
    (counted_faults (λ z. (goal.Device-dyn g z).seen z.1) (λ z. (goal.Device-dyn g z).faults z.1) c.advance.new.devices)

pub advance-requires-clause-goes : goal.advance-requires-clause-goes
advance-requires-clause-goes g c =
    let t = c.requires.tells in
    let there = stands_at c.args.self.now.programs.items c.args.turn.program c.index_mut.result.now c.requires.place c.index_mut.ensures.value in
    follows_now g.T.Teller.follows g.T.Teller.has_ended g.T.Teller.memory t.begun t.programs t.detaches t.devices t.lines (held_of c.args.self.now) _ c.args.turn t.stands c.index_mut.result.now there

pub returns-clause-range : goal.returns-clause-range
returns-clause-range g c =
    let e = event_of c.in_ok-event.event in
    let most = latest c.args.self.now.earlier c.args.self.now.begun in
    let many = length-set c.args.self.now.programs.items c.args.turn.program c.advance.new.self in
    record {
      few = omega (arith, many, c.requires.few);
      wide = length-set c.args.self.now.dues.items c.args.turn.program c.settle-next.result.due ∙ c.requires.wide ∙ sym many;
      place = subst (PlaceFits _) (sym c.settle-next.ensures.stage) (place_behind _ c.args.turn e (omega (arith, many, c.requires.place)));
      few_earlier = c.requires.early;
      in_order = c.requires.in_order;
      dues = All-set (IsDueBy most) _ _ c.settle-next.result.due (due_next most c.settle-next.result.due (λ d is. let h = c.settle-next.ensures.later d is in omega (arith, h, c.requires.due))) c.requires.dues;
      turn = subst (TurnIsDue c.args.self.now.earlier c.args.self.now.begun) (sym c.settle-next.ensures.stage) (due_behind_it c.args.self.now.earlier c.args.self.now.begun c.args.turn e c.requires.due);
    }

pub settle-next-requires : goal.settle-next-requires
settle-next-requires g c = omega (arith, c.requires.due, c.requires.turns, c.requires.in_order)
