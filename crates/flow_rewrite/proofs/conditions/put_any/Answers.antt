use Rattle.std.proofs.Common.{ap, sym, ◌∙◌}
use Rattle.wa_types.specs.View.{onto}
use Rattle.guard_form.specs.Pieces.{got_any}
use Rattle.flow_rewrite.proofs.conditions.put_any.Goals as goal

pub returns-in-None : goal.returns-in-None
returns-in-None c = λ rest. ap (λ o. onto c.args.out.now.items (got_any o rest)) (sym c.in-None.is)

pub returns-in_ok-put_operand-in-Some : goal.returns-in_ok-put_operand-in-Some
returns-in_ok-put_operand-in-Some c = λ rest. c.in_ok-put_operand-in-Some.ensures rest ∙ ap (λ o. onto c.args.out.now.items (got_any o rest)) (sym c.in-Some.is)
