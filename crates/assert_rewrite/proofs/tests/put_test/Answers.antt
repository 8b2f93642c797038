use Rattle.flow_rewrite.proofs.PutLemmas.{const_is, global_is, num_is, put_on, put_one}
use Rattle.assert_rewrite.proofs.TestLemmas.{test_arm, test_if}
use Rattle.assert_rewrite.proofs.tests.put_test.Goals as goal

pub returns : goal.returns
returns c =
    put_on _ _ _ _ _
    (put_on _ _ _ _ _ (put_on _ _ _ _ _ (put_one _ _ _ _ c.in_ok-push.ensures.items (global_is c.args.state)) (put_one _ _ _ _ c.in_ok-push-2.ensures.items (const_is _)))
    (put_one _ _ _ _ c.in_ok-push-3.ensures.items (num_is _)))
    (put_one _ _ _ _ c.in_ok-push-5.ensures.items
    (test_if c.push-4.new.self c.new.result (test_arm c.new-trap.result.items c.push-4.new.self.items c.new-trap.ensures.items c.in_ok-push-4.ensures.items) c.new.ensures.items))
