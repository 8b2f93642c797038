use Rattle.std.proofs.Common.{◌+◌, arith, ap, inr, refl, sym, ◌∙◌, subst, length, List, Option, ℕ}
use Rattle.event_order.specs.Dues.{HaveEnded, IsLeast}
use Rattle.many_host.specs.Standing.{held_of, latest}
use Rattle.many_host.proofs.DueTicks.{due_at, dues_later}
use Rattle.many_host.proofs.Counts.{are_left, left_began, left_when_begun, line_from}
use Rattle.many_host.proofs.Beginning.{begun_at, due_within}
use Rattle.many_host.proofs.turn_taking.Turns.begin.Goals as goal

pub returns-in_default-clause-told : goal.returns-in_default-clause-told
returns-in_default-clause-told g c = λ begun programs detaches ds lines s. record {
  stands = s;
  tellers_are = refl;
  have_ended = subst (λ (l : List (Option ℕ)). HaveEnded l) c.deref.ensures.value c.in_default.ensures;
  kept = refl;
}

pub tell-requires-clause-place : goal.tell-requires-clause-place
tell-requires-clause-place g c =
    due_within c.deref.result.now _ c.in-Some.turn.program c.in-Some.turn.due (ap (λ (l : List (Option ℕ)). length l) c.deref.ensures.value ∙ c.requires.range.wide) c.in-Some.ensures

pub returns-clause-told : goal.returns-clause-told
returns-clause-told g c = λ begun programs detaches ds lines s.
    line_from
    (left_began c.args.self.now.begun (c.args.self.now.begun + 1) c.tell.new.self.begun c.deref-2.result.now detaches _ _ refl c.tell.ensures.begun
    (c.deref-2.ensures.value ∙ s.detaches_are) c.detach_before.ensures.counts)
    (c.in_ok-tell.ensures.told begun programs detaches ds lines
    (begun_at g.T.Teller.follows g.T.Teller.has_ended g.T.Teller.memory begun programs detaches ds lines (held_of c.args.self.now) _ c.in-Some.turn s
    (subst (λ (l : List (Option ℕ)). IsLeast l c.in-Some.turn.program c.in-Some.turn.due) c.deref.ensures.value c.in-Some.ensures)
    (c.args.self.now.begun + 1) c.deref-2.result.now _ refl c.deref-2.ensures.value c.detach_before.ensures.devices))

pub returns-in_default-clause-none : goal.returns-in_default-clause-none
returns-in_default-clause-none g c = subst (λ (l : List (Option ℕ)). HaveEnded l) c.deref.ensures.value c.in_default.ensures

pub returns-clause-none : goal.returns-clause-none
returns-clause-none g c = λ ended. subst (λ (l : List (Option ℕ)). HaveEnded l) (sym c.deref.ensures.value) ended c.in-Some.turn.program c.in-Some.turn.due c.in-Some.ensures.there

pub returns-clause-begun : goal.returns-clause-begun
returns-clause-begun g c = c.tell.ensures.begun

pub tell-requires-clause-tells : goal.tell-requires-clause-tells
tell-requires-clause-tells g c =
    let t = c.requires.tells in
    record {
      begun = t.begun;
      programs = t.programs;
      detaches = t.detaches;
      devices = t.devices;
      lines = t.lines;
      stands = begun_at g.T.Teller.follows g.T.Teller.has_ended g.T.Teller.memory t.begun t.programs t.detaches t.devices t.lines (held_of c.args.self.now) _ c.in-Some.turn t.stands
          (subst (λ (l : List (Option ℕ)). IsLeast l c.in-Some.turn.program c.in-Some.turn.due) c.deref.ensures.value c.in-Some.ensures)
          (c.args.self.now.begun + 1) c.deref-2.result.now _ refl c.deref-2.ensures.value c.detach_before.ensures.devices;
    }

pub returns-in_err-tell-clause-left : goal.returns-in_err-tell-clause-left
returns-in_err-tell-clause-left g c = λ begun programs detaches ds lines s e.
    are_left (λ z. (goal.Device-dyn g z).seen z.1) (λ z. (goal.Device-dyn g z).faults z.1) c.args.self.now.begun detaches _ c.detach_before.new.devices c.tell.new.devices
    (inr (left_when_begun c.args.self.now.begun (c.args.self.now.begun + 1) c.deref-2.result.now detaches _ _ refl (c.deref-2.ensures.value ∙ s.detaches_are) c.detach_before.ensures.counts))
    (c.in_err-tell.ensures.kept begun programs detaches ds lines
    (begun_at g.T.Teller.follows g.T.Teller.has_ended g.T.Teller.memory begun programs detaches ds lines (held_of c.args.self.now) _ c.in-Some.turn s
    (subst (λ (l : List (Option ℕ)). IsLeast l c.in-Some.turn.program c.in-Some.turn.due) c.deref.ensures.value c.in-Some.ensures)
    (c.args.self.now.begun + 1) c.deref-2.result.now _ refl c.deref-2.ensures.value c.detach_before.ensures.devices) refl) (c.in_err-tell.ensures.once refl)

pub tell-requires-clause-dues : goal.tell-requires-clause-dues
tell-requires-clause-dues g c =
    let e = c.args.self.now.earlier in
    let b = c.args.self.now.begun in
    dues_later (latest e b) (latest e (b + 1)) c.args.self.now.dues.items (omega arith) c.requires.range.dues

pub tell-requires-clause-due : goal.tell-requires-clause-due
tell-requires-clause-due g c =
    let there = subst (λ (l : List (Option ℕ)). IsLeast l c.in-Some.turn.program c.in-Some.turn.due) c.deref.ensures.value c.in-Some.ensures in
    let due = due_at (latest c.args.self.now.earlier c.args.self.now.begun) c.args.self.now.dues.items c.in-Some.turn.program c.in-Some.turn.due there.there c.requires.range.dues in
    let order = c.requires.range.in_order in
    omega (arith, due, order)
