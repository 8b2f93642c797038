use Rattle.std.proofs.Common.{arith, ap, ◌∙◌, ◌+◌, inl, inr, refl, sym, subst, drop, List}
use Rattle.std.proofs.lemmas.Option.{slice_get_within}
use Rattle.std.proofs.lemmas.Result.{IfOk-weaker}
use Rattle.wa_model.specs.Outside.{shown}
use Rattle.wa_model.specs.View.{event_of}
use Rattle.event_order.specs.declared.shows.Show.{Show}
use Rattle.event_order.specs.Looks.{IsNextShow, looks_of}
use Rattle.many_host.specs.Calls.{IsShown}
use Rattle.many_host.proofs.Counts.{are_left, left_kept}
use Rattle.many_host.proofs.TurnPlaces.{stands_at}
use Rattle.strand_host.specs.StrandStanding.{hosted_of}
use Rattle.strand_host.proofs.StrandShown.{all_shown, begun_behind, looks_left, none_out, shown_line}
use Rattle.strand_host.proofs.StrandTold.{line_from}
use Rattle.strand_host.proofs.turn_taking.StrandTurns.show.Goals as goal

pub returns-in_default-clause-told : goal.returns-in_default-clause-told
returns-in_default-clause-told g c = λ gs detaches ds lines s.
    c.begin.ensures.told gs detaches ds lines
    (all_shown g.T.Weaver.follows g.T.Weaver.due_at g.T.Weaver.memory gs detaches ds lines (hosted_of c.args.self.now) _ c.args.turn c.args.from s
    (ap (λ (l : List Show). looks_of c.args.turn.program (drop c.args.from l)) (sym c.deref.ensures.value) ∙ c.in_default.ensures))

pub returns-in_default-clause-left : goal.returns-in_default-clause-left
returns-in_default-clause-left g c = λ gs detaches ds lines s.
    c.begin.ensures.left gs detaches ds lines
    (all_shown g.T.Weaver.follows g.T.Weaver.due_at g.T.Weaver.memory gs detaches ds lines (hosted_of c.args.self.now) _ c.args.turn c.args.from s
    (ap (λ (l : List Show). looks_of c.args.turn.program (drop c.args.from l)) (sym c.deref.ensures.value) ∙ c.in_default.ensures))

pub begin-requires-clause-tells : goal.begin-requires-clause-tells
begin-requires-clause-tells g c =
    let t = c.requires.tells in
    record {
      programs = t.programs;
      detaches = t.detaches;
      devices = t.devices;
      lines = t.lines;
      stands = all_shown g.T.Weaver.follows g.T.Weaver.due_at g.T.Weaver.memory t.programs t.detaches t.devices t.lines (hosted_of c.args.self.now) _ c.args.turn c.args.from t.stands
          (ap (λ (l : List Show). looks_of c.args.turn.program (drop c.args.from l)) (sym c.deref.ensures.value) ∙ c.in_default.ensures);
    }

pub index-requires : goal.index-requires
index-requires g c = omega (arith, slice_get_within c.deref.result.now c.in-Some.place _ c.in-Some.ensures.there, c.deref.ensures.len)

pub overflow_add-self : goal.overflow_add-self
overflow_add-self g c = omega (arith, slice_get_within c.deref.result.now c.in-Some.place _ c.in-Some.ensures.there, c.deref.type_inv.0)

pub returns-clause-told : goal.returns-clause-told
returns-clause-told g c = λ gs detaches ds lines s.
    let is = subst (λ (l : List Show). IsNextShow c.args.turn.program l c.args.from c.in-Some.place) c.deref.ensures.value c.in-Some.ensures in
    let there = stands_at c.args.self.now.shows.items c.in-Some.place c.index.result.now (slice_get_within _ _ _ is.there) c.index.ensures in
    let program = stands_at c.args.self.now.programs.items c.args.turn.program c.index-2.result.now c.requires.place c.index-2.ensures in
    line_from (left_kept c.args.self.now.begun c.args.self.now.begun detaches _ refl)
    (shown_line g.T.Weaver.follows g.T.Weaver.due_at g.T.Weaver.memory gs detaches ds lines (hosted_of c.args.self.now) _ c.args.turn c.args.from s
    c.index-2.result.now c.in-Some.place (c.in-Some.place + 1) c.index.result.now (event_of c.in_ok-event.event) _ program refl is there
    (c.in_ok-event.ensures ∙ ap (shown c.index.result.now.at) c.show-bytes.ensures))

pub returns-in_err-event-clause-left : goal.returns-in_err-event-clause-left
returns-in_err-event-clause-left g c = λ gs detaches ds lines s e.
    are_left (λ z. (goal.Device-dyn g z).seen z.1) (λ z. (goal.Device-dyn g z).faults z.1) c.args.self.now.begun detaches _ c.args.devices.now c.args.devices.now (inl refl) refl (inl refl)

pub returns-in_default-clause-none : goal.returns-in_default-clause-none
returns-in_default-clause-none g c =
    none_out _ _ c.begin.result (ap (λ (l : List Show). looks_of c.args.turn.program (drop c.args.from l)) (sym c.deref.ensures.value) ∙ c.in_default.ensures) c.begin.ensures.none

pub returns-clause-none : goal.returns-clause-none
returns-clause-none g c = λ ended out.
    looks_left c.args.turn.program c.args.self.now.shows.items c.args.from c.in-Some.place
    (subst (λ (l : List Show). IsNextShow c.args.turn.program l c.args.from c.in-Some.place) c.deref.ensures.value c.in-Some.ensures) out

pub returns-in_default-clause-begun : goal.returns-in_default-clause-begun
returns-in_default-clause-begun g c = IfOk-weaker c.begin.result _ _ (λ r h. begun_behind c.args.turn c.args.from _ _ r h) c.begin.ensures.begun

pub returns-clause-begun : goal.returns-clause-begun
returns-clause-begun g c = inr (refl, subst IsShown (sym c.in_ok-event.ensures) tt)

pub returns-in_default-clause-goes_on : goal.returns-in_default-clause-goes_on
returns-in_default-clause-goes_on g c = λ left.
    absurd (left (ap (λ (l : List Show). looks_of c.args.turn.program (drop c.args.from l)) (sym c.deref.ensures.value) ∙ c.in_default.ensures))
