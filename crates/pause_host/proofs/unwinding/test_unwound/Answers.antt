use Rattle.std.proofs.Common.{◌-◌, [], refl, sym, ap, ◌∙◌, subst}
use Rattle.std.specs.Option.{option_to_list}
use Rattle.wa_model.specs.declared.events.End.TheVariants as E
use Rattle.run_theory.specs.Fitting.{types_of}
use Rattle.wa_model.specs.Protocol.{exports_of, calling, test_unwound, pause_there}
use Rattle.run_laws.specs.FittingStates.{Callable}
use Rattle.interp.specs.Host.{code_in, store_in, waits_in}
use Rattle.pause_host.specs.Views.{unwinding}
use Rattle.pause_host.specs.declared.exports.Work.TheVariants.{Unwinding}
use Rattle.pause_host.proofs.Callings.{hosts_on, may_call}
use Rattle.pause_host.proofs.Comings.{fits_on}
use Rattle.pause_host.proofs.Results.{ended_ok, behind_ok, export_got}
use Rattle.pause_host.proofs.Pauses.{state_unwound, state_not_unwound}
use Rattle.pause_host.proofs.unwinding.test_unwound.Goals as goal

pub returns-in-Ended-clause-comes : goal.returns-in-Ended-clause-comes
returns-in-Ended-clause-comes c = λ w l lines is code f.
    let s = store_in c.args.instance.now in
    let s' = store_in c.call_export.new.instance in
    let left = c.args.steps.now.left in
    let used = c.call_export.new.steps.used - c.args.steps.now.used in
    let e = ap (λ x. x.get_state) is.exports in
    let told = c.in_ok-end.ensures.exports w is code f.0 (subst (λ n. Callable w.source n (types_of [])) (sym e) f.1) in
    let got = export_got w Unwinding s s' c.args.setting.now.exports.get_state (exports_of w.source).get_state [] [] left used c.in_ok-end.field-0 _ e refl c.in-Ended.is told in
    ended_ok w (calling (unwinding c.args.pause) s (exports_of w.source).get_state [] test_unwound l) left used c.in-Ended.end s' c.ended.result lines l
    (waits_in c.call_export.new.instance) c.ended.ensures.event c.ended.ensures.stage
    (got (unwinding c.args.pause) test_unwound l tt)

pub returns-then-is_state-clause-comes : goal.returns-then-is_state-clause-comes
returns-then-is_state-clause-comes c = λ w l lines is code f.
    let s = store_in c.args.instance.now in
    let s' = store_in c.call_export.new.instance in
    let left = c.args.steps.now.left in
    let used = c.call_export.new.steps.used - c.args.steps.now.used in
    let e = ap (λ x. x.get_state) is.exports in
    let told = c.in_ok-end.ensures.exports w is code f.0 (subst (λ n. Callable w.source n (types_of [])) (sym e) f.1) in
    let got = export_got w Unwinding s s' c.args.setting.now.exports.get_state (exports_of w.source).get_state [] [] left used c.in_ok-end.field-0 _ e refl c.in-Returned.is told in
    let on = state_unwound w c.args.pause l s left used (option_to_list c.in-Returned.value) s' (exports_of w.source).get_state [] (sym c.is_state.ensures ∙ c.if-is_state.true) got in
    let next = calling (unwinding c.args.pause) s' (exports_of w.source).stop_unwind [] pause_there l in
    let fits = fits_on w.source w.plan (calling (unwinding c.args.pause) s (exports_of w.source).get_state [] test_unwound l) next [] [] used is.valid is.typed on f in
    behind_ok w (calling (unwinding c.args.pause) s (exports_of w.source).get_state [] test_unwound l) next [] left c.args.steps.now.used c.call_export.new.steps.left
    c.call_export.new.steps.used c.stop_unwind.new.steps.used c.stop_unwind.result lines lines l
    (store_in c.stop_unwind.new.instance) (waits_in c.stop_unwind.new.instance) c.call_export.ensures.sum c.call_export.ensures.grows c.stop_unwind.ensures.grows on
    (c.stop_unwind.ensures.comes w l lines is (c.call_export.ensures.code ∙ code) fits)

pub returns-else-is_state-clause-comes : goal.returns-else-is_state-clause-comes
returns-else-is_state-clause-comes c = λ w l lines is code f.
    let s = store_in c.args.instance.now in
    let s' = store_in c.call_export.new.instance in
    let left = c.args.steps.now.left in
    let used = c.call_export.new.steps.used - c.args.steps.now.used in
    let e = ap (λ x. x.get_state) is.exports in
    let told = c.in_ok-end.ensures.exports w is code f.0 (subst (λ n. Callable w.source n (types_of [])) (sym e) f.1) in
    let got = export_got w Unwinding s s' c.args.setting.now.exports.get_state (exports_of w.source).get_state [] [] left used c.in_ok-end.field-0 _ e refl c.in-Returned.is told in
    ended_ok w (calling (unwinding c.args.pause) s (exports_of w.source).get_state [] test_unwound l) left used (E.Broken 2) s' c.ended-else-is_state.result lines l
    (waits_in c.call_export.new.instance) c.ended-else-is_state.ensures.event c.ended-else-is_state.ensures.stage
    (state_not_unwound w c.args.pause l s left used (option_to_list c.in-Returned.value) s' (exports_of w.source).get_state [] (sym c.is_state.ensures ∙ c.if-is_state.false) got)

pub call_export-requires-clause-may : goal.call_export-requires-clause-may
call_export-requires-clause-may c =
    may_call c.args.setting.now (code_in c.args.instance.now) (store_in c.args.instance.now) (unwinding c.args.pause) (λ e. e.get_state) (λ w. []) test_unwound c.requires.there

pub stop_unwind-requires-clause-there : goal.stop_unwind-requires-clause-there
stop_unwind-requires-clause-there c =
    let h = c.requires.there in
    let w = h.program in
    let is = h.setting in
    let f = h.fits in
    let s = store_in c.args.instance.now in
    let s' = store_in c.call_export.new.instance in
    let left = c.args.steps.now.left in
    let used = c.call_export.new.steps.used - c.args.steps.now.used in
    let e = ap (λ x. x.get_state) is.exports in
    let told = c.in_ok-end.ensures.exports w is h.code_is f.0 (subst (λ n. Callable w.source n (types_of [])) (sym e) f.1) in
    let got = export_got w Unwinding s s' c.args.setting.now.exports.get_state (exports_of w.source).get_state [] [] left used c.in_ok-end.field-0 _ e refl c.in-Returned.is told in
    let on = state_unwound w c.args.pause h.left s left used (option_to_list c.in-Returned.value) s' (exports_of w.source).get_state [] (sym c.is_state.ensures ∙ c.if-is_state.true) got in
    hosts_on c.args.setting.now (code_in c.args.instance.now) (code_in c.call_export.new.instance)
    (λ w l. calling (unwinding c.args.pause) s (exports_of w.source).get_state [] test_unwound l) (λ w l. calling (unwinding c.args.pause) s' (exports_of w.source).stop_unwind [] pause_there l)
    h used c.call_export.ensures.code on
