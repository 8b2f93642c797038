use Rattle.std.proofs.Common.{sym, ◌∙◌}
use Rattle.assert_rewrite.proofs.ReachedLemmas.{kept_next, last_next, test_next}
use Rattle.assert_rewrite.proofs.reached.put_next.Goals.{else-reached-via-then-reached+else-not-is_last, else-reached-via-else-reached}
use Rattle.assert_rewrite.proofs.reached.put_next.Goals as goal

pub returns-then-not-is_last : goal.returns-then-not-is_last
returns-then-not-is_last c =
    test_next c.args.state c.args.out.now.items c.push.new.self.items c.put_where.new.out.items c.args.instr.now c.args.made c.args.reached c.is_call.result c.if-reached.true
    (sym c.is_last.ensures ∙ c.if-not-is_last.true) c.in_ok-push.ensures.items c.requires c.in_ok-put_where.ensures c.is_call.ensures

pub returns : goal.returns
returns c = elim c.else-reached.branch [
  | else-reached-via-then-reached+else-not-is_last w ↦
      last_next c.args.state c.args.out.now.items c.push.new.self.items c.args.instr.now c.args.made c.args.reached w.if-reached.true
      (sym w.is_last.ensures ∙ w.if-not-is_last.false) c.in_ok-push.ensures.items c.requires
  | else-reached-via-else-reached w ↦
      kept_next c.args.state c.args.out.now.items c.push.new.self.items c.args.instr.now c.args.made c.args.reached w.if-reached.false c.in_ok-push.ensures.items c.requires
]
