use Rattle.std.specs.Option.{option_to_list}
use Rattle.std.proofs.Common.{◌-◌, [], refl, sym, ap, ◌∙◌, subst}
use Rattle.wa_model.specs.Protocol.{exports_of, calling, pause_there, used_of}
use Rattle.run_laws.specs.FittingStates.{Callable}
use Rattle.interp.specs.Host.{code_in, store_in, waits_in}
use Rattle.pause_host.specs.Views.{unwinding}
use Rattle.pause_host.specs.declared.exports.Work.TheVariants.{Unwinding}
use Rattle.pause_host.proofs.Callings.{area_told, may_call, returns_longer}
use Rattle.pause_host.proofs.Holding.{area_longer}
use Rattle.pause_host.proofs.Hosting.{memory_kept, memory_there}
use Rattle.pause_host.proofs.Results.{ended_ok, export_got}
use Rattle.pause_host.proofs.Pauses.{stopped_unwind}
use Rattle.pause_host.proofs.unwinding.stop_unwind.Goals as goal

pub returns-in-Ended-clause-comes : goal.returns-in-Ended-clause-comes
returns-in-Ended-clause-comes c = λ w l lines is code f.
    let s = store_in c.args.instance.now in
    let s' = store_in c.call_export.new.instance in
    let left = c.args.steps.now.left in
    let used = c.call_export.new.steps.used - c.args.steps.now.used in
    let e = ap (λ x. x.stop_unwind) is.exports in
    let told = c.in_ok-end.ensures.exports w is code f.0 (subst (λ n. Callable w.source n []) (sym e) f.1) in
    let got = export_got w Unwinding s s' c.args.setting.now.exports.stop_unwind (exports_of w.source).stop_unwind [] [] left used c.in_ok-end.field-0 _ e refl c.in-Ended.is told in
    ended_ok w (calling (unwinding c.args.pause) s (exports_of w.source).stop_unwind [] pause_there l) left used c.in-Ended.end s' c.ended.result lines l (waits_in c.call_export.new.instance)
    c.ended.ensures.event c.ended.ensures.stage (got (unwinding c.args.pause) pause_there l tt)

pub returns-in-Returned-clause-comes : goal.returns-in-Returned-clause-comes
returns-in-Returned-clause-comes c = λ w l lines is code f.
    let s = store_in c.args.instance.now in
    let s' = store_in c.call_export.new.instance in
    let left = c.args.steps.now.left in
    let used = c.call_export.new.steps.used - c.args.steps.now.used in
    let e = ap (λ x. x.stop_unwind) is.exports in
    let told = c.in_ok-end.ensures.exports w is code f.0 (subst (λ n. Callable w.source n []) (sym e) f.1) in
    let got = export_got w Unwinding s s' c.args.setting.now.exports.stop_unwind (exports_of w.source).stop_unwind [] [] left used c.in_ok-end.field-0 _ e refl c.in-Returned.is told in
    stopped_unwind w c.args.pause l s left used _ s' (exports_of w.source).stop_unwind [] _ c.used_of-used.result lines (waits_in c.call_export.new.instance)
    (c.used_of-used.ensures ∙ ap (used_of s') (sym is.area)) refl refl got

pub call_export-requires-clause-may : goal.call_export-requires-clause-may
call_export-requires-clause-may c =
    may_call c.args.setting.now (code_in c.args.instance.now) (store_in c.args.instance.now) (unwinding c.args.pause) (λ e. e.stop_unwind) (λ w. []) pause_there c.requires.there

pub used_of-used-requires-clause-memory : goal.used_of-used-requires-clause-memory
used_of-used-requires-clause-memory c =
    let h = c.requires.there in
    memory_kept (code_in c.args.instance.now) (code_in c.call_export.new.instance) c.call_export.ensures.code
    (memory_there h.program c.args.setting.now (code_in c.args.instance.now) h.setting h.code_is)

pub used_of-used-requires-clause-area : goal.used_of-used-requires-clause-area
used_of-used-requires-clause-area c =
    let h = c.requires.there in
    let w = h.program in
    let is = h.setting in
    let f = h.fits in
    let s = store_in c.args.instance.now in
    let s' = store_in c.call_export.new.instance in
    let left = c.args.steps.now.left in
    let used = c.call_export.new.steps.used - c.args.steps.now.used in
    let e = ap (λ x. x.stop_unwind) is.exports in
    let told = c.in_ok-end.ensures.exports w is h.code_is f.0 (subst (λ n. Callable w.source n []) (sym e) f.1) in
    let got = export_got w Unwinding s s' c.args.setting.now.exports.stop_unwind (exports_of w.source).stop_unwind [] [] left used c.in_ok-end.field-0 _ e refl c.in-Returned.is told in
    area_longer c.args.setting.now.area s s' (returns_longer w.source s (exports_of w.source).stop_unwind [] left used (option_to_list c.in-Returned.field-0) s' got)
    (area_told w c.args.setting.now s is h.holds.0)
