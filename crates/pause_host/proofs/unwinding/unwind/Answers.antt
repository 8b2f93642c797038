use Rattle.std.proofs.Common.{◌-◌, [], ◌∷◌, IfOk, sym, ap, ◌∙◌, subst}
use Rattle.std.specs.Option.{option_to_list}
use Rattle.wa_types.specs.declared.values.Value.TheVariants as V
use Rattle.run_theory.specs.Fitting.{types_of, StoreFits}
use Rattle.wa_model.specs.Blocking.{resumed}
use Rattle.wa_model.specs.Protocol.{exports_of, busy, calling, give_zero, zeros_of, with_words}
use Rattle.run_laws.specs.FittingStates.{Callable}
use Rattle.interp.specs.Host.{code_in, store_in, waits_in}
use Rattle.pause_host.specs.Holding.{HoldsArea}
use Rattle.pause_host.specs.Views.{unwinding}
use Rattle.pause_host.specs.Moves.{ComesFrom, Exports}
use Rattle.pause_host.specs.declared.exports.Work.TheVariants.{Unwinding}
use Rattle.pause_host.proofs.Callings.{area_told, hosts_on, pause_held, pause_over}
use Rattle.pause_host.proofs.Comings.{fits_on}
use Rattle.pause_host.proofs.Hosting.{memory_there}
use Rattle.pause_host.proofs.Results.{ended_ok, behind_ok, export_got}
use Rattle.pause_host.proofs.Stagings.{pauses}
use Rattle.pause_host.proofs.Pauses.{started_unwind}
use Rattle.pause_host.specs.declared.exports.Exported.TheVariants as X
use Rattle.pause_host.proofs.unwinding.unwind.Goals as goal

pub returns-in-Ended-clause-comes : goal.returns-in-Ended-clause-comes
returns-in-Ended-clause-comes c = λ w l lines is code f.
    let s0 = store_in c.args.instance.now in
    let g = pauses w c.args.pause (waits_in c.args.instance.now) l s0 f in
    let s1 = with_words s0 w.plan.area in
    let s = store_in c.write_words.new.instance in
    let s' = store_in c.call_export.new.instance in
    let left = c.args.steps.now.left in
    let used = c.call_export.new.steps.used - c.args.steps.now.used in
    let written = c.write_words.ensures.store ∙ ap (with_words s0) (sym is.area) in
    let e = ap (λ x. x.start_unwind) is.exports in
    let typed = subst (λ n. Callable w.source n (types_of (V.I32 c.args.setting.now.area.at ∷ []))) (sym e) g.fits.1 in
    let told = c.in_ok-end.ensures.exports w is (c.write_words.ensures.code ∙ code) (subst (StoreFits w.source) (sym written) g.fits.0) typed in
    let got0 = export_got w Unwinding s s' c.args.setting.now.exports.start_unwind (exports_of w.source).start_unwind (V.I32 c.args.setting.now.area.at ∷ [])
    (V.I32 w.plan.area.at ∷ []) left used c.in_ok-end.field-0 _ e (ap (λ a. V.I32 a.at ∷ []) (sym is.area)) c.in-Ended.is told in
    let got = subst (λ z. Exports w Unwinding z (exports_of w.source).start_unwind (V.I32 w.plan.area.at ∷ []) left used (X.Ended c.in-Ended.end) s') written got0 in
    let from = calling (unwinding c.args.pause) s1 (exports_of w.source).start_unwind (V.I32 w.plan.area.at ∷ []) (give_zero (record { store = s0; here = g.here; under = g.under })) l in
    subst (λ z. IfOk c.ended.result (λ m. ComesFrom w z left used m lines lines l s' (waits_in c.call_export.new.instance))) (sym g.place_is)
    (ended_ok w from left used c.in-Ended.end s' c.ended.result lines l (waits_in c.call_export.new.instance) c.ended.ensures.event c.ended.ensures.stage
    (got (unwinding c.args.pause) (give_zero (record { store = s0; here = g.here; under = g.under })) l tt))

pub returns-in-Returned-clause-comes : goal.returns-in-Returned-clause-comes
returns-in-Returned-clause-comes c = λ w l lines is code f.
    let s0 = store_in c.args.instance.now in
    let g = pauses w c.args.pause (waits_in c.args.instance.now) l s0 f in
    let s1 = with_words s0 w.plan.area in
    let s = store_in c.write_words.new.instance in
    let s' = store_in c.call_export.new.instance in
    let left = c.args.steps.now.left in
    let used = c.call_export.new.steps.used - c.args.steps.now.used in
    let written = c.write_words.ensures.store ∙ ap (with_words s0) (sym is.area) in
    let e = ap (λ x. x.start_unwind) is.exports in
    let typed = subst (λ n. Callable w.source n (types_of (V.I32 c.args.setting.now.area.at ∷ []))) (sym e) g.fits.1 in
    let told = c.in_ok-end.ensures.exports w is (c.write_words.ensures.code ∙ code) (subst (StoreFits w.source) (sym written) g.fits.0) typed in
    let got0 = export_got w Unwinding s s' c.args.setting.now.exports.start_unwind (exports_of w.source).start_unwind (V.I32 c.args.setting.now.area.at ∷ [])
    (V.I32 w.plan.area.at ∷ []) left used c.in_ok-end.field-0 _ e (ap (λ a. V.I32 a.at ∷ []) (sym is.area)) c.in-Returned.is told in
    let got = subst (λ z. Exports w Unwinding z (exports_of w.source).start_unwind (V.I32 w.plan.area.at ∷ []) left used (X.Returned c.in-Returned.field-0) s') written got0 in
    let from = calling (unwinding c.args.pause) s1 (exports_of w.source).start_unwind (V.I32 w.plan.area.at ∷ []) (give_zero (record { store = s0; here = g.here; under = g.under })) l in
    let on = started_unwind w c.args.pause l s1 left used (option_to_list c.in-Returned.field-0) s' s0 g.here g.under (exports_of w.source).start_unwind (V.I32 w.plan.area.at ∷ []) got in
    let next = busy (unwinding c.args.pause) (resumed (record { store = s'; here = g.here; under = g.under }) s' (zeros_of w.source c.args.pause.import)) l in
    let fits = fits_on w.source w.plan from next [] [] used is.valid is.typed on g.fits in
    let waits = c.call_export.ensures.waits ∙ c.write_words.ensures.waits ∙ g.waits_is in
    subst (λ z. IfOk c.give_zero.result (λ m. ComesFrom w z left (c.give_zero.new.steps.used - c.args.steps.now.used) m lines lines l (store_in c.give_zero.new.instance)
    (waits_in c.give_zero.new.instance))) (sym g.place_is)
    (behind_ok w from next [] left c.args.steps.now.used c.call_export.new.steps.left c.call_export.new.steps.used c.give_zero.new.steps.used c.give_zero.result lines lines l
    (store_in c.give_zero.new.instance) (waits_in c.give_zero.new.instance) c.call_export.ensures.sum c.call_export.ensures.grows c.give_zero.ensures.grows on
    (c.give_zero.ensures.comes w l lines g.here g.under is (c.call_export.ensures.code ∙ c.write_words.ensures.code ∙ code) waits fits))

pub give_zero-requires-clause-waits : goal.give_zero-requires-clause-waits
give_zero-requires-clause-waits c = λ e. c.requires.waits (sym c.write_words.ensures.waits ∙ sym c.call_export.ensures.waits ∙ e)

pub write_words-requires-clause-memory : goal.write_words-requires-clause-memory
write_words-requires-clause-memory c =
    let h = c.requires.there.1 in
    memory_there h.program c.args.setting.now (code_in c.args.instance.now) h.setting h.code_is

pub write_words-requires-clause-area : goal.write_words-requires-clause-area
write_words-requires-clause-area c =
    pause_held c.args.setting.now (code_in c.args.instance.now) c.requires.there.0 (store_in c.args.instance.now) (waits_in c.args.instance.now) c.args.pause c.requires.there.1

pub call_export-requires-clause-may : goal.call_export-requires-clause-may
call_export-requires-clause-may c =
    let x = c.args.setting.now in
    let s0 = store_in c.args.instance.now in
    let o = pause_over x (code_in c.args.instance.now) c.requires.there.0 s0 (waits_in c.args.instance.now) c.args.pause c.requires.there.1 in
    let h = o.hosts in
    let w = h.program in
    let written = c.write_words.ensures.store ∙ ap (with_words s0) (sym h.setting.area) in
    let e = ap (λ x. x.start_unwind) h.setting.exports in
    let area = area_told w x (with_words s0 w.plan.area) h.setting h.holds.0 in
    record {
      program = w;
      setting = h.setting;
      code_is = c.write_words.ensures.code ∙ h.code_is;
      fits = subst (StoreFits w.source) (sym written) h.fits.0;
      callable = subst (λ n. Callable w.source n (types_of (V.I32 x.area.at ∷ []))) (sym e) h.fits.1;
      area = subst (HoldsArea x.area) (sym written) area;
    }

pub give_zero-requires-clause-there : goal.give_zero-requires-clause-there
give_zero-requires-clause-there c =
    let x = c.args.setting.now in
    let s0 = store_in c.args.instance.now in
    let o = pause_over x (code_in c.args.instance.now) c.requires.there.0 s0 (waits_in c.args.instance.now) c.args.pause c.requires.there.1 in
    let h = o.hosts in
    let w = h.program in
    let is = h.setting in
    let l = h.left in
    let s1 = with_words s0 w.plan.area in
    let s = store_in c.write_words.new.instance in
    let s' = store_in c.call_export.new.instance in
    let left = c.args.steps.now.left in
    let used = c.call_export.new.steps.used - c.args.steps.now.used in
    let written = c.write_words.ensures.store ∙ ap (with_words s0) (sym is.area) in
    let e = ap (λ x. x.start_unwind) is.exports in
    let typed = subst (λ n. Callable w.source n (types_of (V.I32 x.area.at ∷ []))) (sym e) h.fits.1 in
    let told = c.in_ok-end.ensures.exports w is (c.write_words.ensures.code ∙ h.code_is) (subst (StoreFits w.source) (sym written) h.fits.0) typed in
    let got0 = export_got w Unwinding s s' x.exports.start_unwind (exports_of w.source).start_unwind (V.I32 x.area.at ∷ [])
    (V.I32 w.plan.area.at ∷ []) left used c.in_ok-end.field-0 _ e (ap (λ a. V.I32 a.at ∷ []) (sym is.area)) c.in-Returned.is told in
    let got = subst (λ z. Exports w Unwinding z (exports_of w.source).start_unwind (V.I32 w.plan.area.at ∷ []) left used (X.Returned c.in-Returned.field-0) s') written got0 in
    let on = started_unwind w c.args.pause l s1 left used (option_to_list c.in-Returned.field-0) s' s0 o.here o.under (exports_of w.source).start_unwind (V.I32 w.plan.area.at ∷ []) got in
    record {
      here = o.here;
      under = o.under;
      waits_is = c.call_export.ensures.waits ∙ c.write_words.ensures.waits ∙ o.waits_is;
      hosts = hosts_on x (code_in c.args.instance.now) (code_in c.call_export.new.instance)
          (λ w l. calling (unwinding c.args.pause) (with_words s0 w.plan.area) (exports_of w.source).start_unwind (V.I32 w.plan.area.at ∷ [])
          (give_zero (record { store = s0; here = o.here; under = o.under })) l)
          (λ w l. busy (unwinding c.args.pause) (resumed (record { store = s'; here = o.here; under = o.under }) s' (zeros_of w.source c.args.pause.import)) l)
          h used (c.call_export.ensures.code ∙ c.write_words.ensures.code) on;
    }
