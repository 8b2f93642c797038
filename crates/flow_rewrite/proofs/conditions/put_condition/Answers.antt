use Rattle.std.proofs.Common.{Some, ◌∙◌}
use Rattle.wa_types.specs.declared.values.ValType.TheVariants.{I32}
use Rattle.wa_types.specs.Syntax.{basic, branch, global_get, plain}
use Rattle.wa_types.specs.View.{code, onto}
use Rattle.flow_rewrite.proofs.PieceLemmas.{condition_is}
use Rattle.flow_rewrite.proofs.conditions.put_condition.Goals as goal

pub returns : goal.returns
returns c = λ first number rest.
    c.in_ok-put_test.ensures rest
    ∙ (λ j. onto c.args.out.now.items (plain (basic (global_get c.args.guards.now.state)) (branch (Some I32) (c.in_ok-sought.ensures first number j)
    (condition_is c.args.cond (code c.args.piece.now) c.in_ok-inside.inside.items c.put_any.new.out.items c.in_ok-inside.ensures c.in_ok-put_any.ensures j) rest)))
