use Rattle.std.proofs.Common.{sym, ◌∙◌}
use Rattle.wa_types.specs.Syntax.{basic, br_if, global_get, plain}
use Rattle.flow_rewrite.proofs.PutLemmas.{put_one, put_on, set_is, const_is, noted_alone, noted_set}
use Rattle.flow_rewrite.proofs.put.put_noted.Goals as goal

pub returns-then-goes_unnoted : goal.returns-then-goes_unnoted
returns-then-goes_unnoted c =
    noted_alone c.args.first_unnoted c.args.index c.args.number _ _ (λ next. plain (basic (global_get c.args.state)) (plain (br_if c.args.label) next)) (sym c.goes_unnoted.ensures ∙ c.if-goes_unnoted.true)
    c.in_ok-put_leave.ensures

pub returns : goal.returns
returns c =
    noted_set c.args.first_unnoted c.args.index c.args.number _ _ (λ next. plain (basic (global_get c.args.state)) (plain (br_if c.args.label) next)) (sym c.goes_unnoted.ensures ∙ c.if-goes_unnoted.false)
    (put_on _ _ _ _ _ (put_on _ _ _ _ _ (put_one _ _ _ _ c.in_ok-push.ensures.items (const_is _)) (put_one _ _ _ _ c.in_ok-push-2.ensures.items (set_is c.args.index)))
    c.in_ok-put_leave-2.ensures)
