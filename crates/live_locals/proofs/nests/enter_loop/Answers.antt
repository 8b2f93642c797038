use Rattle.std.proofs.Common.{◌∙◌, ap, arith, length, refl, reverse, subst, sym}
use Rattle.std.proofs.lemmas.Result.{IfOk-weaker}
use Rattle.run_theory.specs.FlatView.{stmts}
use Rattle.live_locals.specs.Nests.{AtLoop}
use Rattle.live_locals.proofs.NestLemmas.{at_known, head_tells, if_on_ok, nest_inside}
use Rattle.live_locals.proofs.nests.enter_loop.Goals as goal

pub returns-then-len-set-clause-passed : goal.returns-then-len-set-clause-passed
returns-then-len-set-clause-passed c = if_on_ok c.enter_known.result _ _ (λ n g. record {
  labels = refl;
  tells =
      head_tells c.args.around.level c.if-around-lt63.true c.args.around.reach.now c.args.walk.now.tos.items c.args.set.now c.enter_known.new.set c.deref.result.now
      (stmts c.args.body.now) (reverse c.take_head-known.new.heads.items) n.level n.reach.items
      (at_known c.args.around.level c.args.around.reach.now c.args.walk.now.tos.items c.args.set.now (stmts c.args.body.now) (reverse c.args.walk.now.heads.items)
      (reverse c.take_head-known.new.heads.items) c.in-Some.words c.deref.result.now c.if-around-lt63.true (c.take_head-known.ensures.head c.in-Some.words c.in-Some.is) c.deref.ensures.value
      (ap length c.deref.ensures.value ∙ sym (c.len.ensures ∙ c.in-Some.words.ok.0) ∙ c.if-len-set.true) c.requires.nest) g;
}) c.enter_known.ensures

pub returns-then-len-set-clause-inside : goal.returns-then-len-set-clause-inside
returns-then-len-set-clause-inside c = IfOk-weaker c.enter_known.result _ _ (λ n g. nest_inside c.args.around.level c.if-around-lt63.true c.args.around.reach.now c.args.walk.now.tos.items c.args.set.now
    c.enter_known.new.set c.deref.result.now
    (stmts c.args.body.now) (reverse c.take_head-known.new.heads.items) n.level n.reach.items
    (at_known c.args.around.level c.args.around.reach.now c.args.walk.now.tos.items c.args.set.now (stmts c.args.body.now) (reverse c.args.walk.now.heads.items)
    (reverse c.take_head-known.new.heads.items) c.in-Some.words c.deref.result.now c.if-around-lt63.true (c.take_head-known.ensures.head c.in-Some.words c.in-Some.is) c.deref.ensures.value
    (ap length c.deref.ensures.value ∙ sym (c.len.ensures ∙ c.in-Some.words.ok.0) ∙ c.if-len-set.true) c.requires.nest) g) c.enter_known.ensures

pub returns-then-is_deep-clause-passed : goal.returns-then-is_deep-clause-passed
returns-then-is_deep-clause-passed c = if_on_ok c.begin_nest.result _ _ (λ n h. record {
  labels = refl;
  tells =
      head_tells 0 (omega arith) (h (stmts c.args.body.now) c.requires.is_loop).0 c.args.walk.now.tos.items c.args.set.now c.begin_nest.new.set
      (h (stmts c.args.body.now) c.requires.is_loop).1 (stmts c.args.body.now) (reverse c.begin_nest.new.heads.items) n.level n.reach.items
      (subst (λ ts. AtLoop 0 (h (stmts c.args.body.now) c.requires.is_loop).0 ts c.args.set.now (h (stmts c.args.body.now) c.requires.is_loop).1 (reverse c.begin_nest.new.heads.items)
      (stmts c.args.body.now)) c.deref-then-is_deep.ensures.value (h (stmts c.args.body.now) c.requires.is_loop).2) (h (stmts c.args.body.now) c.requires.is_loop).3;
}) c.begin_nest.ensures.inside

pub returns-then-is_deep-clause-inside : goal.returns-then-is_deep-clause-inside
returns-then-is_deep-clause-inside c = IfOk-weaker c.begin_nest.result _ _ (λ n h. nest_inside 0 (omega arith)
    (h (stmts c.args.body.now) c.requires.is_loop).0 c.args.walk.now.tos.items c.args.set.now c.begin_nest.new.set
    (h (stmts c.args.body.now) c.requires.is_loop).1 (stmts c.args.body.now) (reverse c.begin_nest.new.heads.items) n.level n.reach.items
    (subst (λ ts. AtLoop 0 (h (stmts c.args.body.now) c.requires.is_loop).0 ts c.args.set.now (h (stmts c.args.body.now) c.requires.is_loop).1 (reverse c.begin_nest.new.heads.items)
    (stmts c.args.body.now)) c.deref-then-is_deep.ensures.value (h (stmts c.args.body.now) c.requires.is_loop).2) (h (stmts c.args.body.now) c.requires.is_loop).3) c.begin_nest.ensures.inside
