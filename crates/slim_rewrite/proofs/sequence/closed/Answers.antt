use Rattle.std.proofs.Common.{refl, sym, ap, ◌∙◌}
use Rattle.wa_types.specs.View.{code}
use Rattle.flow_rewrite.proofs.UnitLemmas.{call_is, block_is, loop_is, if_is}
use Rattle.slim_rewrite.specs.SequenceView.{head_in_front}
use Rattle.slim_rewrite.proofs.sequence.closed.Goals as goal

pub returns-in-Call : goal.returns-in-Call
returns-in-Call c = λ rest.
    call_is _ c.in-Call.slots c.in-Call.target c.in-Call.to c.args.behind refl rest ∙ ap (λ h. head_in_front h (code c.args.behind.items) rest) (sym c.in-Call.is)

pub returns-in-Block : goal.returns-in-Block
returns-in-Block c = λ rest.
    block_is _ c.in-Block.inner.first c.in-Block.inner.units c.args.behind refl rest ∙ ap (λ h. head_in_front h (code c.args.behind.items) rest) (sym c.in-Block.is)

pub returns-in-Loop : goal.returns-in-Loop
returns-in-Loop c = λ rest.
    loop_is _ c.in-Loop.inner.first c.in-Loop.inner.units c.args.behind refl rest ∙ ap (λ h. head_in_front h (code c.args.behind.items) rest) (sym c.in-Loop.is)

pub returns-in-If : goal.returns-in-If
returns-in-If c = λ rest.
    if_is _ c.in-If.cond c.in-If.then_arm.first c.in-If.then_arm.units c.in-If.else_arm.first c.in-If.else_arm.units c.args.behind refl rest
    ∙ ap (λ h. head_in_front h (code c.args.behind.items) rest) (sym c.in-If.is)
