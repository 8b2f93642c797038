use Rattle.std.proofs.Common.{sym, subst}
use Rattle.std.proofs.lemmas.Result.{IfOk-weaker}
use Rattle.wa_types.specs.View.{func_of, module_of}
use Rattle.call_graph.specs.Settings.{policy_of, settings_of}
use Rattle.emitted_form.specs.EmittedAs.{IsWrittenUnder}
use Rattle.func_rewrite.proofs.policy.write_by_policy.Goals as goal

pub returns-in-All : goal.returns-in-All
returns-in-All c =
    IfOk-weaker c.write_func.result _ _
    (λ f h. subst (λ p. IsWrittenUnder (policy_of p) (module_of c.args.pass.now.valid.now) (settings_of c.args.pass.now.settings.now) c.args.pass.now.which.now
    c.args.flat.now.func.func (func_of c.args.source.now) (func_of f)) (sym c.in-All.is) h)
    c.write_func.ensures

pub returns-in-Live : goal.returns-in-Live
returns-in-Live c =
    IfOk-weaker c.write_live_func.result _ _
    (λ f h. subst (λ p. IsWrittenUnder (policy_of p) (module_of c.args.pass.now.valid.now) (settings_of c.args.pass.now.settings.now) c.args.pass.now.which.now
    c.args.flat.now.func.func (func_of c.args.source.now) (func_of f)) (sym c.in-Live.is) h)
    c.write_live_func.ensures
