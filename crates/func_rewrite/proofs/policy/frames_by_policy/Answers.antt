use Rattle.std.proofs.Common.{sym, subst}
use Rattle.std.proofs.lemmas.Result.{IfOk-weaker}
use Rattle.wa_types.specs.View.{func_of, module_of}
use Rattle.call_graph.specs.Settings.{policy_of, settings_of}
use Rattle.func_rewrite.specs.Frames.{FramesUnder}
use Rattle.func_rewrite.proofs.policy.frames_by_policy.Goals as goal

pub returns-in-All : goal.returns-in-All
returns-in-All c =
    IfOk-weaker c.func_frames.result _ _
    (λ ls h. subst (λ p. FramesUnder (policy_of p) (module_of c.args.pass.now.valid.now) (settings_of c.args.pass.now.settings.now) c.args.pass.now.which.now (func_of c.args.source.now) ls.items) (sym c.in-All.is) h)
    c.func_frames.ensures

pub returns-in-Live : goal.returns-in-Live
returns-in-Live c =
    IfOk-weaker c.live_func_frames.result _ _
    (λ ls h. subst (λ p. FramesUnder (policy_of p) (module_of c.args.pass.now.valid.now) (settings_of c.args.pass.now.settings.now) c.args.pass.now.which.now (func_of c.args.source.now) ls.items) (sym c.in-Live.is) h)
    c.live_func_frames.ensures
