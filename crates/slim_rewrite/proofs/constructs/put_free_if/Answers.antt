use Rattle.std.proofs.Common.{None, ap, sym, ◌∙◌}
use Rattle.wa_types.specs.Syntax.{branch}
use Rattle.wa_types.specs.View.{code, onto}
use Rattle.wa_types.proofs.ViewLemmas.{in_if}
use Rattle.flow_rewrite.proofs.PutLemmas.{put_one}
use Rattle.slim_rewrite.specs.Inside.{condition_got}
use Rattle.slim_rewrite.proofs.constructs.put_free_if.Goals as goal

pub returns-then-direct-clause-puts : goal.returns-then-direct-clause-puts
returns-then-direct-clause-puts c = λ rest.
    put_one _ _ _ _ c.in_ok-push.ensures.items (in_if None c.args.then_arm c.args.else_arm) rest
    ∙ ap (λ b. onto c.args.at.now.piece.items (condition_got b c.args.cond (branch None (code c.args.then_arm.items) (code c.args.else_arm.items) rest))) (sym c.if-direct.true)

pub returns-clause-puts : goal.returns-clause-puts
returns-clause-puts c = λ rest.
    put_one _ _ _ _ c.in_ok-push-2.ensures.items (in_if None c.args.then_arm c.args.else_arm) rest
    ∙ c.in_ok-put_operand.ensures (branch None (code c.args.then_arm.items) (code c.args.else_arm.items) rest)
    ∙ ap (λ b. onto c.args.at.now.piece.items (condition_got b c.args.cond (branch None (code c.args.then_arm.items) (code c.args.else_arm.items) rest))) (sym c.if-direct.false)
