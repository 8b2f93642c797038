use Rattle.std.proofs.Common.{◌≡◌, inl, refl, subst, sym}
use Rattle.std.specs.Prelude.{IfOk}
use Rattle.wa_model.specs.View.{event_of}
use Rattle.many_host.proofs.Counts.{are_left, left_kept}
use Rattle.strand_host.specs.declared.turn_taking.Stage.{Stage}
use Rattle.strand_host.specs.StrandCalls.{BegunNext, BegunWith}
use Rattle.strand_host.specs.StrandStanding.{AreLooksOut, hosted_of}
use Rattle.strand_host.proofs.StrandBegun.{standing}
use Rattle.strand_host.proofs.StrandTold.{line_from}
use Rattle.strand_host.proofs.turn_taking.StrandTurns.next.Goals as goal

pub returns-in-Between-clause-told : goal.returns-in-Between-clause-told
returns-in-Between-clause-told g c = λ gs detaches ds lines s.
    c.begin.ensures.told gs detaches ds lines (standing g.T.Weaver.follows g.T.Weaver.due_at g.T.Weaver.memory gs detaches ds lines (hosted_of c.args.self.now) _ c.args.self.now.stage _ c.in-Between.is s)

pub returns-in_ok-tell-in-Telling-clause-told : goal.returns-in_ok-tell-in-Telling-clause-told
returns-in_ok-tell-in-Telling-clause-told g c = λ gs detaches ds lines s.
    line_from (left_kept c.args.self.now.begun c.tell.new.self.begun detaches _ c.tell.ensures.begun)
    (c.in_ok-tell-in-Telling.ensures.told gs detaches ds lines (standing g.T.Weaver.follows g.T.Weaver.due_at g.T.Weaver.memory gs detaches ds lines (hosted_of c.args.self.now) _ c.args.self.now.stage _ c.in-Telling.is s))

pub returns-in-Showing-clause-told : goal.returns-in-Showing-clause-told
returns-in-Showing-clause-told g c = λ gs detaches ds lines s.
    c.show.ensures.told gs detaches ds lines (standing g.T.Weaver.follows g.T.Weaver.due_at g.T.Weaver.memory gs detaches ds lines (hosted_of c.args.self.now) _ c.args.self.now.stage _ c.in-Showing.is s)

pub returns-in-Between-clause-left : goal.returns-in-Between-clause-left
returns-in-Between-clause-left g c = λ gs detaches ds lines s.
    c.begin.ensures.left gs detaches ds lines (standing g.T.Weaver.follows g.T.Weaver.due_at g.T.Weaver.memory gs detaches ds lines (hosted_of c.args.self.now) _ c.args.self.now.stage _ c.in-Between.is s)

pub returns-in-Showing-clause-left : goal.returns-in-Showing-clause-left
returns-in-Showing-clause-left g c = λ gs detaches ds lines s.
    c.show.ensures.left gs detaches ds lines (standing g.T.Weaver.follows g.T.Weaver.due_at g.T.Weaver.memory gs detaches ds lines (hosted_of c.args.self.now) _ c.args.self.now.stage _ c.in-Showing.is s)

pub returns-in_err-tell-in-Telling-clause-left : goal.returns-in_err-tell-in-Telling-clause-left
returns-in_err-tell-in-Telling-clause-left g c = λ gs detaches ds lines s e.
    are_left (λ z. (goal.Device-dyn g z).seen z.1) (λ z. (goal.Device-dyn g z).faults z.1) c.args.self.now.begun detaches _ c.args.devices.now c.tell.new.devices (inl refl)
    (c.in_err-tell-in-Telling.ensures.kept refl) (c.in_err-tell-in-Telling.ensures.once refl)

pub returns-in-Between-clause-begun : goal.returns-in-Between-clause-begun
returns-in-Between-clause-begun g c =
    subst (λ (stage : Stage). IfOk c.begin.result (λ r. BegunNext stage c.args.self.now.begun c.begin.new.self.begun r)) (sym c.in-Between.is) c.begin.ensures.begun

pub returns-in_ok-tell-in-Telling-clause-begun : goal.returns-in_ok-tell-in-Telling-clause-begun
returns-in_ok-tell-in-Telling-clause-begun g c =
    subst (λ (stage : Stage). BegunWith stage c.args.self.now.begun c.tell.new.self.begun (event_of c.in_ok-tell-in-Telling.field-0.event)) (sym c.in-Telling.is) c.tell.ensures.begun

pub returns-in-Showing-clause-begun : goal.returns-in-Showing-clause-begun
returns-in-Showing-clause-begun g c =
    subst (λ (stage : Stage). IfOk c.show.result (λ r. BegunNext stage c.args.self.now.begun c.show.new.self.begun r)) (sym c.in-Showing.is) c.show.ensures.begun

pub returns-in-Between-clause-goes_on : goal.returns-in-Between-clause-goes_on
returns-in-Between-clause-goes_on g c = λ left. absurd (left (subst (λ (stage : Stage). AreLooksOut c.args.self.now.shows.items stage) (sym c.in-Between.is) tt))

pub returns-in-Showing-clause-goes_on : goal.returns-in-Showing-clause-goes_on
returns-in-Showing-clause-goes_on g c =
    subst (λ (stage : Stage). (AreLooksOut c.args.self.now.shows.items stage → ⊥) → c.show.new.self.begun ≡ c.args.self.now.begun) (sym c.in-Showing.is) c.show.ensures.goes_on
