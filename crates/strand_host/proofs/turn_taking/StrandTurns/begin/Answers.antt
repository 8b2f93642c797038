use Rattle.std.proofs.Common.{◌+◌, arith, ap, inr, refl, ◌∙◌, subst, length, List, Option, ℕ}
use Rattle.event_order.specs.Dues.{HaveEnded, IsLeast}
use Rattle.many_host.proofs.Counts.{are_left, left_began, left_when_begun}
use Rattle.strand_host.specs.StrandStanding.{hosted_of}
use Rattle.strand_host.proofs.FewStrandEvents.{few_events}
use Rattle.strand_host.proofs.StrandBegun.{begun_at, due_within}
use Rattle.strand_host.proofs.StrandTold.{line_from}
use Rattle.strand_host.proofs.turn_taking.StrandTurns.begin.Goals as goal

pub returns-in_default-clause-told : goal.returns-in_default-clause-told
returns-in_default-clause-told g c = λ gs detaches ds lines s. record {
  stands = s;
  tellers_are = refl;
  have_ended = subst (λ (l : List (Option ℕ)). HaveEnded l) c.deref.ensures.value c.in_default.ensures;
  kept = refl;
}

pub overflow_add-begun : goal.overflow_add-begun
overflow_add-begun g c =
    let t = c.requires.tells in
    let few = few_events g.T.Weaver.follows g.T.Weaver.due_at g.T.Weaver.memory g.met.T.Weaver.told_so t.programs t.detaches t.devices t.lines (hosted_of c.args.self.now) _ t.stands c.requires.range.few in
    omega (arith, few)

pub tell-requires-clause-place : goal.tell-requires-clause-place
tell-requires-clause-place g c =
    due_within c.deref.result.now _ c.in-Some.turn.program c.in-Some.turn.due (ap (λ (l : List (Option ℕ)). length l) c.deref.ensures.value ∙ c.requires.range.wide) c.in-Some.ensures

pub tell-requires-clause-tells : goal.tell-requires-clause-tells
tell-requires-clause-tells g c =
    let t = c.requires.tells in
    record {
      programs = t.programs;
      detaches = t.detaches;
      devices = t.devices;
      lines = t.lines;
      stands = begun_at g.T.Weaver.follows g.T.Weaver.due_at g.T.Weaver.memory g.met.T.Weaver.told_so t.programs t.detaches t.devices t.lines (hosted_of c.args.self.now) _ c.in-Some.turn t.stands
          (subst (λ (l : List (Option ℕ)). IsLeast l c.in-Some.turn.program c.in-Some.turn.due) c.deref.ensures.value c.in-Some.ensures)
          (c.args.self.now.begun + 1) c.deref-2.result.now _ refl c.deref-2.ensures.value c.detach_before.ensures.devices;
    }

pub returns-clause-told : goal.returns-clause-told
returns-clause-told g c = λ gs detaches ds lines s.
    line_from
    (left_began c.args.self.now.begun (c.args.self.now.begun + 1) c.tell.new.self.begun c.deref-2.result.now detaches _ _ refl c.tell.ensures.begun
    (c.deref-2.ensures.value ∙ s.detaches_are) c.detach_before.ensures.counts)
    (c.in_ok-tell.ensures.told gs detaches ds lines
    (begun_at g.T.Weaver.follows g.T.Weaver.due_at g.T.Weaver.memory g.met.T.Weaver.told_so gs detaches ds lines (hosted_of c.args.self.now) _ c.in-Some.turn s
    (subst (λ (l : List (Option ℕ)). IsLeast l c.in-Some.turn.program c.in-Some.turn.due) c.deref.ensures.value c.in-Some.ensures)
    (c.args.self.now.begun + 1) c.deref-2.result.now _ refl c.deref-2.ensures.value c.detach_before.ensures.devices))

pub returns-in_err-tell-clause-left : goal.returns-in_err-tell-clause-left
returns-in_err-tell-clause-left g c = λ gs detaches ds lines s e.
    are_left (λ z. (goal.Device-dyn g z).seen z.1) (λ z. (goal.Device-dyn g z).faults z.1) c.args.self.now.begun detaches _ c.detach_before.new.devices c.tell.new.devices
    (inr (left_when_begun c.args.self.now.begun (c.args.self.now.begun + 1) c.deref-2.result.now detaches _ _ refl (c.deref-2.ensures.value ∙ s.detaches_are) c.detach_before.ensures.counts))
    (c.in_err-tell.ensures.kept refl) (c.in_err-tell.ensures.once refl)
