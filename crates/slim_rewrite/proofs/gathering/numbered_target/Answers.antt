use Rattle.std.proofs.Common.{None, ap, sym, ◌∙◌}
use Rattle.std.specs.Prelude.{if◌then◌else◌}
use Rattle.wa_types.specs.Syntax.{done}
use Rattle.wa_types.specs.View.{in_front}
use Rattle.guard_form.specs.Pieces.{sole_callee}
use Rattle.slim_rewrite.proofs.gathering.numbered_target.Goals as goal

pub returns-then-not-is_numbered : goal.returns-then-not-is_numbered
returns-then-not-is_numbered c = sym (ap (λ b. if b then sole_callee (in_front c.args.op.now done) else None) (sym c.is_numbered.ensures ∙ c.if-not-is_numbered.true))

pub returns : goal.returns
returns c = c.target_of.ensures.sole ∙ sym (ap (λ b. if b then sole_callee (in_front c.args.op.now done) else None) (sym c.is_numbered.ensures ∙ c.if-not-is_numbered.false))
