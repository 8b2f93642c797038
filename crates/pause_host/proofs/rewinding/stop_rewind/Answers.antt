use Rattle.std.proofs.Common.{◌-◌, [], length, map, refl, sym, ap, ◌∙◌, subst}
use Rattle.std.specs.Option.{option_to_list}
use Rattle.run_theory.specs.Fitting.{types_of}
use Rattle.wa_model.specs.Blocking.{poked}
use Rattle.wa_model.specs.Protocol.{exports_of, calling, give_answer}
use Rattle.wa_model.specs.View.{answer_of, poke_of}
use Rattle.run_laws.specs.FittingStates.{Callable}
use Rattle.interp.specs.Host.{code_in, store_in, waits_in}
use Rattle.pause_host.specs.Views.{rewinding}
use Rattle.pause_host.specs.declared.exports.Work.TheVariants.{Rewinding}
use Rattle.pause_host.specs.Holding.{PokesInside}
use Rattle.pause_host.proofs.Callings.{may_call, returns_longer}
use Rattle.pause_host.proofs.Holding.{pokes_longer}
use Rattle.pause_host.proofs.Hosting.{memory_kept, memory_there}
use Rattle.pause_host.proofs.Results.{ended_ok, export_got}
use Rattle.pause_host.proofs.Pauses.{stopped_rewind}
use Rattle.pause_host.proofs.rewinding.stop_rewind.Goals as goal

pub returns-in-Ended-clause-comes : goal.returns-in-Ended-clause-comes
returns-in-Ended-clause-comes c = λ w l lines since at here under is code waits f.
    let s = store_in c.args.instance.now in
    let s' = store_in c.call_export.new.instance in
    let left = c.args.steps.now.left in
    let used = c.call_export.new.steps.used - c.args.steps.now.used in
    let e = ap (λ x. x.stop_rewind) is.exports in
    let told = c.in_ok-end.ensures.exports w is code f.0 (subst (λ n. Callable w.source n (types_of [])) (sym e) f.1) in
    let got = export_got w Rewinding s s' c.args.setting.now.exports.stop_rewind (exports_of w.source).stop_rewind ([]) ([]) left used c.in_ok-end.field-0 _ e refl c.in-Ended.is told in
    ended_ok w (calling (rewinding c.args.pause since) s (exports_of w.source).stop_rewind [] (give_answer (record { store = at; here = here; under = under })) l) left used c.in-Ended.end
    s' c.ended.result lines l (waits_in c.call_export.new.instance) c.ended.ensures.event c.ended.ensures.stage
    (got (rewinding c.args.pause since) (give_answer (record { store = at; here = here; under = under })) l tt)

pub returns-in-Returned-clause-comes : goal.returns-in-Returned-clause-comes
returns-in-Returned-clause-comes c = λ w l lines since at here under is code waits f.
    let s = store_in c.args.instance.now in
    let s' = store_in c.call_export.new.instance in
    let left = c.args.steps.now.left in
    let used = c.call_export.new.steps.used - c.args.steps.now.used in
    let e = ap (λ x. x.stop_rewind) is.exports in
    let told = c.in_ok-end.ensures.exports w is code f.0 (subst (λ n. Callable w.source n (types_of [])) (sym e) f.1) in
    let got = export_got w Rewinding s s' c.args.setting.now.exports.stop_rewind (exports_of w.source).stop_rewind ([]) ([]) left used c.in_ok-end.field-0 _ e refl c.in-Returned.is told in
    stopped_rewind w c.args.pause l s left used (option_to_list c.in-Returned.field-0) s' since at (store_in c.write_pokes.new.instance) here under (exports_of w.source).stop_rewind [] _ lines
    (waits_in c.write_pokes.new.instance) (c.write_pokes.ensures.store ∙ ap (λ ps. poked s' (map poke_of ps)) c.deref.ensures.value) (c.write_pokes.ensures.waits
    ∙ c.call_export.ensures.waits ∙ waits) refl c.stage_told-stage.ensures.stage got

pub call_export-requires-clause-may : goal.call_export-requires-clause-may
call_export-requires-clause-may c =
    let s = store_in c.args.instance.now in
    let o = c.requires.there in
    may_call c.args.setting.now (code_in c.args.instance.now) s (rewinding c.args.pause s) (λ e. e.stop_rewind) (λ w. []) (give_answer (record { store = s; here = o.here; under = o.under })) o.hosts

pub write_pokes-requires-clause-memory : goal.write_pokes-requires-clause-memory
write_pokes-requires-clause-memory c =
    let h = c.requires.there.hosts in
    memory_kept (code_in c.args.instance.now) (code_in c.call_export.new.instance) c.call_export.ensures.code
    (memory_there h.program c.args.setting.now (code_in c.args.instance.now) h.setting h.code_is)

pub write_pokes-requires-clause-inside : goal.write_pokes-requires-clause-inside
write_pokes-requires-clause-inside c =
    let h = c.requires.there.hosts in
    let w = h.program in
    let is = h.setting in
    let f = h.fits in
    let s = store_in c.args.instance.now in
    let s' = store_in c.call_export.new.instance in
    let left = c.args.steps.now.left in
    let used = c.call_export.new.steps.used - c.args.steps.now.used in
    let e = ap (λ x. x.stop_rewind) is.exports in
    let told = c.in_ok-end.ensures.exports w is h.code_is f.0 (subst (λ n. Callable w.source n (types_of [])) (sym e) f.1) in
    let got = export_got w Rewinding s s' c.args.setting.now.exports.stop_rewind (exports_of w.source).stop_rewind ([]) ([]) left used c.in_ok-end.field-0 _ e refl c.in-Returned.is told in
    let longer = returns_longer w.source s (exports_of w.source).stop_rewind [] left used (option_to_list c.in-Returned.field-0) s' got in
    let pokes = (answer_of c.args.pause.answer).pokes in
    subst (λ ps. PokesInside (length s'.memory) (map poke_of ps)) (sym c.deref.ensures.value) (pokes_longer (length s.memory) (length s'.memory) pokes longer h.holds.1.1)
