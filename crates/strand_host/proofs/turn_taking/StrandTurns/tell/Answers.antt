use Rattle.std.proofs.Common.{arith, ap, length, length-set, slice_set, sym, ◌<◌, ◌≡◌, ◌∙◌}
use Rattle.std.proofs.lemmas.Option.{same_Some}
use Rattle.wa_model.specs.View.{event_of}
use Rattle.world_laws.proofs.Places.{set_here}
use Rattle.many_host.proofs.Counts.{counted_devices, counted_faults}
use Rattle.many_host.proofs.TurnPlaces.{stands_at}
use Rattle.strand_host.specs.StrandStanding.{hosted_of}
use Rattle.strand_host.proofs.StrandTold.{follows_now, line_told, none_of}
use Rattle.strand_host.proofs.turn_taking.StrandTurns.tell.Goals as goal

pub returns-clause-told : goal.returns-clause-told
returns-clause-told g c = λ gs detaches ds lines s.
    let xs = c.args.self.now.programs.items in
    let i = c.args.turn.program in
    let there = stands_at xs i c.index_mut.result.now c.requires.place c.index_mut.ensures.value in
    let put = set_here xs i c.advance.new.self c.index_mut.result.now there in
    let within : i < length (slice_set xs i c.advance.new.self) = omega (arith, length-set xs i c.advance.new.self, c.requires.place) in
    let again : c.index.result.now ≡ c.advance.new.self = same_Some _ _ (sym (stands_at (slice_set xs i c.advance.new.self) i c.index.result.now within c.index.ensures) ∙ put) in
    line_told g.T.Weaver.follows g.T.Weaver.due_at g.T.Weaver.memory g.met.T.Weaver.told_so gs detaches ds lines (hosted_of c.args.self.now) _ c.args.turn s c.index_mut.result.now there
    c.advance.new.self c.in_ok-told.told.strand (event_of c.in_ok-told.told.event) _ _ _ c.in_ok-told.ensures.told
    c.due-due.result c.is_none.result c.stage_behind-self.result c.strand_in-strand.result (c.due-due.ensures ∙ ap g.T.Weaver.due_at again) (none_of c.due-due.result c.is_none.result c.is_none.ensures)
    c.stage_behind-self.ensures c.strand_in-strand.ensures
    _ _
    (counted_devices (λ z. (goal.Device-dyn g z).seen z.1) (λ z. (goal.Device-dyn g z).faults z.1) c.args.devices.now)
    (counted_faults (λ z. (goal.Device-dyn g z).seen z.1) (λ z. (goal.Device-dyn g z).faults z.1) c.args.devices.now)
    (counted_devices (λ z. (goal.Device-dyn g z).seen z.1) (λ z. (goal.Device-dyn g z).faults z.1) c.advance.new.devices)
    (counted_faults (λ z. (goal.Device-dyn g z).seen z.1) (λ z. (goal.Device-dyn g z).faults z.1) c.advance.new.devices)

pub advance-requires-clause-goes : goal.advance-requires-clause-goes
advance-requires-clause-goes g c =
    let t = c.requires.tells in
    let there = stands_at c.args.self.now.programs.items c.args.turn.program c.index_mut.result.now c.requires.place c.index_mut.ensures.value in
    follows_now g.T.Weaver.follows g.T.Weaver.due_at g.T.Weaver.memory g.met.T.Weaver.told_so t.programs t.detaches t.devices t.lines (hosted_of c.args.self.now) _ c.args.turn t.stands c.index_mut.result.now there
