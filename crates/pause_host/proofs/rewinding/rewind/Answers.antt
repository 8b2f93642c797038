use Rattle.std.proofs.Common.{◌-◌, [], ◌∷◌, sym, ap, ◌∙◌, subst}
use Rattle.std.specs.Option.{option_to_list}
use Rattle.wa_types.specs.declared.values.Value.TheVariants as V
use Rattle.run_theory.specs.Fitting.{types_of}
use Rattle.wa_model.specs.Protocol.{exports_of, calling, entering, call_again}
use Rattle.run_laws.specs.FittingStates.{Callable}
use Rattle.interp.specs.Host.{code_in, store_in, waits_in}
use Rattle.pause_host.specs.Views.{entry_of, rewinding}
use Rattle.pause_host.specs.declared.exports.Work.TheVariants.{Rewinding}
use Rattle.pause_host.proofs.Callings.{hosts_on, may_call}
use Rattle.pause_host.proofs.Comings.{fits_on}
use Rattle.pause_host.proofs.Results.{ended_ok, behind_ok, export_got}
use Rattle.pause_host.proofs.Pauses.{started_rewind}
use Rattle.pause_host.proofs.rewinding.rewind.Goals as goal

pub returns-in-Ended-clause-comes : goal.returns-in-Ended-clause-comes
returns-in-Ended-clause-comes c = λ w l lines is code f.
    let s = store_in c.args.instance.now in
    let s' = store_in c.call_export.new.instance in
    let left = c.args.steps.now.left in
    let used = c.call_export.new.steps.used - c.args.steps.now.used in
    let e = ap (λ x. x.start_rewind) is.exports in
    let told = c.in_ok-end.ensures.exports w is code f.0 (subst (λ n. Callable w.source n (types_of (V.I32 c.args.setting.now.area.at ∷ []))) (sym e) f.1) in
    let got = export_got w Rewinding s s' c.args.setting.now.exports.start_rewind (exports_of w.source).start_rewind (V.I32 c.args.setting.now.area.at ∷ [])
    (V.I32 w.plan.area.at ∷ []) left used c.in_ok-end.field-0 _ e (ap (λ a. V.I32 a.at ∷ []) (sym is.area)) c.in-Ended.is told in
    ended_ok w (calling (rewinding c.args.pause s) s (exports_of w.source).start_rewind (V.I32 w.plan.area.at ∷ []) call_again l) left used c.in-Ended.end s' c.ended.result lines l
    (waits_in c.call_export.new.instance) c.ended.ensures.event c.ended.ensures.stage
    (got (rewinding c.args.pause s) call_again l tt)

pub returns-in-Returned-clause-comes : goal.returns-in-Returned-clause-comes
returns-in-Returned-clause-comes c = λ w l lines is code f.
    let s = store_in c.args.instance.now in
    let s' = store_in c.call_export.new.instance in
    let left = c.args.steps.now.left in
    let used = c.call_export.new.steps.used - c.args.steps.now.used in
    let e = ap (λ x. x.start_rewind) is.exports in
    let told = c.in_ok-end.ensures.exports w is code f.0 (subst (λ n. Callable w.source n (types_of (V.I32 c.args.setting.now.area.at ∷ []))) (sym e) f.1) in
    let got = export_got w Rewinding s s' c.args.setting.now.exports.start_rewind (exports_of w.source).start_rewind (V.I32 c.args.setting.now.area.at ∷ [])
    (V.I32 w.plan.area.at ∷ []) left used c.in_ok-end.field-0 _ e (ap (λ a. V.I32 a.at ∷ []) (sym is.area)) c.in-Returned.is told in
    let on = started_rewind w c.args.pause l s left used (option_to_list c.in-Returned.field-0) s' s (exports_of w.source).start_rewind (V.I32 w.plan.area.at ∷ []) got in
    let next = entering (rewinding c.args.pause s) (entry_of c.args.pause.entry) s' l in
    let fits = fits_on w.source w.plan (calling (rewinding c.args.pause s) s (exports_of w.source).start_rewind (V.I32 w.plan.area.at ∷ []) call_again l) next [] [] used is.valid is.typed on f in
    behind_ok w (calling (rewinding c.args.pause s) s (exports_of w.source).start_rewind (V.I32 w.plan.area.at ∷ []) call_again l) next [] left c.args.steps.now.used
    c.call_export.new.steps.left c.call_export.new.steps.used c.call_again.new.steps.used c.call_again.result lines lines l
    (store_in c.call_again.new.instance) (waits_in c.call_again.new.instance) c.call_export.ensures.sum c.call_export.ensures.grows c.call_again.ensures.grows on
    (c.call_again.ensures.comes w l lines s is (c.call_export.ensures.code ∙ code) fits)

pub call_export-requires-clause-may : goal.call_export-requires-clause-may
call_export-requires-clause-may c =
    let s = store_in c.args.instance.now in
    may_call c.args.setting.now (code_in c.args.instance.now) s (rewinding c.args.pause s) (λ e. e.start_rewind) (λ w. V.I32 w.plan.area.at ∷ []) call_again c.requires.there

pub call_again-requires-clause-there : goal.call_again-requires-clause-there
call_again-requires-clause-there c =
    let h = c.requires.there in
    let w = h.program in
    let is = h.setting in
    let f = h.fits in
    let s = store_in c.args.instance.now in
    let s' = store_in c.call_export.new.instance in
    let left = c.args.steps.now.left in
    let used = c.call_export.new.steps.used - c.args.steps.now.used in
    let e = ap (λ x. x.start_rewind) is.exports in
    let told = c.in_ok-end.ensures.exports w is h.code_is f.0 (subst (λ n. Callable w.source n (types_of (V.I32 c.args.setting.now.area.at ∷ []))) (sym e) f.1) in
    let got = export_got w Rewinding s s' c.args.setting.now.exports.start_rewind (exports_of w.source).start_rewind (V.I32 c.args.setting.now.area.at ∷ [])
    (V.I32 w.plan.area.at ∷ []) left used c.in_ok-end.field-0 _ e (ap (λ a. V.I32 a.at ∷ []) (sym is.area)) c.in-Returned.is told in
    let on = started_rewind w c.args.pause h.left s left used (option_to_list c.in-Returned.field-0) s' s (exports_of w.source).start_rewind (V.I32 w.plan.area.at ∷ []) got in
    let g = hosts_on c.args.setting.now (code_in c.args.instance.now) (code_in c.call_export.new.instance)
    (λ w l. calling (rewinding c.args.pause s) s (exports_of w.source).start_rewind (V.I32 w.plan.area.at ∷ []) call_again l)
    (λ w l. entering (rewinding c.args.pause s) (entry_of c.args.pause.entry) s' l) h used c.call_export.ensures.code on in
    record { program = g.program; left = g.left; setting = g.setting; code_is = g.code_is; fits = g.fits; holds = g.holds }
