use Rattle.std.proofs.Common.{◌-◌, ◌<◌, [], sym, ap, ◌∙◌, subst}
use Rattle.std.specs.Option.{option_to_list}
use Rattle.wa_model.specs.declared.events.End.TheVariants as E
use Rattle.run_theory.specs.Fitting.{types_of, StoreFits}
use Rattle.wa_model.specs.Blocking.{resumed}
use Rattle.wa_model.specs.Protocol.{exports_of, busy, calling, test_unwound, trap_end, zeros_of}
use Rattle.interp.specs.Host.{code_in, store_in, waits_in}
use Rattle.interp.specs.Instance.{Awaits, Resumes, Turns}
use Rattle.pause_host.specs.Views.{unwinding}
use Rattle.pause_host.specs.Moves.{EndsAt}
use Rattle.pause_host.proofs.Callings.{area_told, hosts_on}
use Rattle.pause_host.proofs.Comings.{fits_on}
use Rattle.pause_host.proofs.Holding.{area_longer}
use Rattle.pause_host.proofs.Hosting.{memory_kept, memory_there}
use Rattle.pause_host.proofs.MemoryGrows.{resumes_longer}
use Rattle.pause_host.proofs.Fronts.{awaits_from}
use Rattle.pause_host.proofs.Results.{ended_ok, behind_ok}
use Rattle.pause_host.proofs.Pauses.{turn_trapped, turn_spent, unwound, unwound_asked}
use Rattle.pause_host.proofs.unwinding.give_zero.Goals as goal

pub returns-in-Returned-clause-comes : goal.returns-in-Returned-clause-comes
returns-in-Returned-clause-comes c = λ w l lines here under is code waits f.
    let s = store_in c.args.instance.now in
    let s' = store_in c.resume.new.self in
    let w' = waits_in c.resume.new.self in
    let left = c.args.steps.now.left in
    let used = c.resume.new.steps.used - c.args.steps.now.used in
    let m = code_in c.args.instance.now in
    let from = resumed (record { store = s; here = here; under = under }) s (zeros_of w.source c.args.pause.import) in
    let zero = c.zero_of_result-zero.ensures w is in
    let awaits = subst (λ ws. Awaits w.source f.0 (types_of (zeros_of w.source c.args.pause.import)) ws) (sym waits)
    (awaits_from w.source f.0 s s here under (zeros_of w.source c.args.pause.import) f.1) in
    let told = c.in_ok-resume.ensures.resumes f.0 (subst (λ z. StoreFits z s) (sym code) f.1.store)
    (subst (λ z. Awaits z f.0 (types_of (option_to_list c.zero_of_result-zero.result)) (waits_in c.args.instance.now)) (sym code)
    (subst (λ vs. Awaits w.source f.0 (types_of vs) (waits_in c.args.instance.now)) (sym zero) awaits)) in
    let turns = subst (λ t. Turns w.source from left used t s' w') c.in-Returned.is (subst
    (λ vs. Turns w.source (resumed (record { store = s; here = here; under = under }) s vs) left used c.in_ok-resume.field-0 s' w') zero
    (subst (λ ws. Resumes w.source s ws c.zero_of_result-zero.result left used c.in_ok-resume.field-0 s' w') waits
    (subst (λ z. Resumes z s (waits_in c.args.instance.now) c.zero_of_result-zero.result left used c.in_ok-resume.field-0 s' w') code told))) in
    let on = unwound w c.args.pause l from left used c.in-Returned.field-0 s' w' turns in
    let next = calling (unwinding c.args.pause) s' (exports_of w.source).get_state [] test_unwound l in
    let fits = fits_on w.source w.plan (busy (unwinding c.args.pause) (resumed (record { store = s; here = here; under = under }) s (zeros_of w.source c.args.pause.import)) l) next [] []
    used is.valid is.typed on.0 f in
    behind_ok w (busy (unwinding c.args.pause) (resumed (record { store = s; here = here; under = under }) s (zeros_of w.source c.args.pause.import)) l) next [] left c.args.steps.now.used
    c.resume.new.steps.left c.resume.new.steps.used c.test_unwound.new.steps.used c.test_unwound.result lines lines l
    (store_in c.test_unwound.new.instance) (waits_in c.test_unwound.new.instance) c.resume.ensures.sum c.resume.ensures.grows c.test_unwound.ensures.grows on.0
    (c.test_unwound.ensures.comes w l lines is (c.resume.ensures.code ∙ code) fits)

pub returns-in-Trapped-clause-comes : goal.returns-in-Trapped-clause-comes
returns-in-Trapped-clause-comes c = λ w l lines here under is code waits f.
    let s = store_in c.args.instance.now in
    let s' = store_in c.resume.new.self in
    let w' = waits_in c.resume.new.self in
    let left = c.args.steps.now.left in
    let used = c.resume.new.steps.used - c.args.steps.now.used in
    let m = code_in c.args.instance.now in
    let from = resumed (record { store = s; here = here; under = under }) s (zeros_of w.source c.args.pause.import) in
    let zero = c.zero_of_result-zero.ensures w is in
    let awaits = subst (λ ws. Awaits w.source f.0 (types_of (zeros_of w.source c.args.pause.import)) ws) (sym waits)
    (awaits_from w.source f.0 s s here under (zeros_of w.source c.args.pause.import) f.1) in
    let told = c.in_ok-resume.ensures.resumes f.0 (subst (λ z. StoreFits z s) (sym code) f.1.store)
    (subst (λ z. Awaits z f.0 (types_of (option_to_list c.zero_of_result-zero.result)) (waits_in c.args.instance.now)) (sym code)
    (subst (λ vs. Awaits w.source f.0 (types_of vs) (waits_in c.args.instance.now)) (sym zero) awaits)) in
    let turns = subst (λ t. Turns w.source from left used t s' w') c.in-Trapped.is (subst
    (λ vs. Turns w.source (resumed (record { store = s; here = here; under = under }) s vs) left used c.in_ok-resume.field-0 s' w') zero
    (subst (λ ws. Resumes w.source s ws c.zero_of_result-zero.result left used c.in_ok-resume.field-0 s' w') waits
    (subst (λ z. Resumes z s (waits_in c.args.instance.now) c.zero_of_result-zero.result left used c.in_ok-resume.field-0 s' w') code told))) in
    let is_end = c.trap_end-end.ensures (unwinding c.args.pause) tt ∙ ap (λ a. trap_end a (unwinding c.args.pause) c.in-Trapped.trap s') (sym is.area) in
    ended_ok w (busy (unwinding c.args.pause) (resumed (record { store = s; here = here; under = under }) s (zeros_of w.source c.args.pause.import)) l) left used c.trap_end-end.result
    s' c.ended.result lines l w' c.ended.ensures.event c.ended.ensures.stage
    (subst (λ z. EndsAt w (busy (unwinding c.args.pause) (resumed (record { store = s; here = here; under = under }) s (zeros_of w.source c.args.pause.import)) l) left used z s')
    (sym is_end) (turn_trapped w (unwinding c.args.pause) l from left used c.in-Trapped.trap s' w' turns))

pub returns-in-Waiting-clause-comes : goal.returns-in-Waiting-clause-comes
returns-in-Waiting-clause-comes c = λ w l lines here under is code waits f.
    let s = store_in c.args.instance.now in
    let s' = store_in c.resume.new.self in
    let w' = waits_in c.resume.new.self in
    let left = c.args.steps.now.left in
    let used = c.resume.new.steps.used - c.args.steps.now.used in
    let m = code_in c.args.instance.now in
    let from = resumed (record { store = s; here = here; under = under }) s (zeros_of w.source c.args.pause.import) in
    let zero = c.zero_of_result-zero.ensures w is in
    let awaits = subst (λ ws. Awaits w.source f.0 (types_of (zeros_of w.source c.args.pause.import)) ws) (sym waits)
    (awaits_from w.source f.0 s s here under (zeros_of w.source c.args.pause.import) f.1) in
    let told = c.in_ok-resume.ensures.resumes f.0 (subst (λ z. StoreFits z s) (sym code) f.1.store)
    (subst (λ z. Awaits z f.0 (types_of (option_to_list c.zero_of_result-zero.result)) (waits_in c.args.instance.now)) (sym code)
    (subst (λ vs. Awaits w.source f.0 (types_of vs) (waits_in c.args.instance.now)) (sym zero) awaits)) in
    let turns = subst (λ t. Turns w.source from left used t s' w') c.in-Waiting.is (subst
    (λ vs. Turns w.source (resumed (record { store = s; here = here; under = under }) s vs) left used c.in_ok-resume.field-0 s' w') zero
    (subst (λ ws. Resumes w.source s ws c.zero_of_result-zero.result left used c.in_ok-resume.field-0 s' w') waits
    (subst (λ z. Resumes z s (waits_in c.args.instance.now) c.zero_of_result-zero.result left used c.in_ok-resume.field-0 s' w') code told))) in
    ended_ok w (busy (unwinding c.args.pause) (resumed (record { store = s; here = here; under = under }) s (zeros_of w.source c.args.pause.import)) l) left used
    (E.Broken 1) s' c.ended-in-Waiting.result lines l w' c.ended-in-Waiting.ensures.event c.ended-in-Waiting.ensures.stage
    (unwound_asked w c.args.pause l from left used c.in-Waiting.field-0 s' w' turns)

pub returns-in-StepsSpent-clause-comes : goal.returns-in-StepsSpent-clause-comes
returns-in-StepsSpent-clause-comes c = λ w l lines here under is code waits f.
    let s = store_in c.args.instance.now in
    let s' = store_in c.resume.new.self in
    let w' = waits_in c.resume.new.self in
    let left = c.args.steps.now.left in
    let used = c.resume.new.steps.used - c.args.steps.now.used in
    let m = code_in c.args.instance.now in
    let from = resumed (record { store = s; here = here; under = under }) s (zeros_of w.source c.args.pause.import) in
    let zero = c.zero_of_result-zero.ensures w is in
    let awaits = subst (λ ws. Awaits w.source f.0 (types_of (zeros_of w.source c.args.pause.import)) ws) (sym waits)
    (awaits_from w.source f.0 s s here under (zeros_of w.source c.args.pause.import) f.1) in
    let told = c.in_ok-resume.ensures.resumes f.0 (subst (λ z. StoreFits z s) (sym code) f.1.store)
    (subst (λ z. Awaits z f.0 (types_of (option_to_list c.zero_of_result-zero.result)) (waits_in c.args.instance.now)) (sym code)
    (subst (λ vs. Awaits w.source f.0 (types_of vs) (waits_in c.args.instance.now)) (sym zero) awaits)) in
    let turns = subst (λ t. Turns w.source from left used t s' w') c.in-StepsSpent.is (subst
    (λ vs. Turns w.source (resumed (record { store = s; here = here; under = under }) s vs) left used c.in_ok-resume.field-0 s' w') zero
    (subst (λ ws. Resumes w.source s ws c.zero_of_result-zero.result left used c.in_ok-resume.field-0 s' w') waits
    (subst (λ z. Resumes z s (waits_in c.args.instance.now) c.zero_of_result-zero.result left used c.in_ok-resume.field-0 s' w') code told))) in
    ended_ok w (busy (unwinding c.args.pause) (resumed (record { store = s; here = here; under = under }) s (zeros_of w.source c.args.pause.import)) l) left used
    (E.StepsSpent c.args.setting.now.steps) s' c.ended-in-StepsSpent.result lines l w' c.ended-in-StepsSpent.ensures.event c.ended-in-StepsSpent.ensures.stage
    (subst (λ n. EndsAt w (busy (unwinding c.args.pause) (resumed (record { store = s; here = here; under = under }) s (zeros_of w.source c.args.pause.import)) l) left used
    (E.StepsSpent n) s') is.steps (turn_spent w (unwinding c.args.pause) l from left used s' w' turns))

pub zero_of_result-zero-requires : goal.zero_of_result-zero-requires
zero_of_result-zero-requires c =
    let h = c.requires.there.hosts in
    subst (λ n. c.args.pause.import < n) (sym h.setting.all) h.fits.2.2

pub trap_end-end-requires-clause-memory : goal.trap_end-end-requires-clause-memory
trap_end-end-requires-clause-memory c =
    let h = c.requires.there.hosts in
    memory_kept (code_in c.args.instance.now) (code_in c.resume.new.self) c.resume.ensures.code (memory_there h.program c.args.setting.now (code_in c.args.instance.now) h.setting h.code_is)

pub trap_end-end-requires-clause-area : goal.trap_end-end-requires-clause-area
trap_end-end-requires-clause-area c =
    let x = c.args.setting.now in
    let o = c.requires.there in
    let h = o.hosts in
    let w = h.program in
    let is = h.setting in
    let code = h.code_is in
    let l = h.left in
    let f = h.fits in
    let s = store_in c.args.instance.now in
    let s' = store_in c.resume.new.self in
    let w' = waits_in c.resume.new.self in
    let left = c.args.steps.now.left in
    let used = c.resume.new.steps.used - c.args.steps.now.used in
    let zero = c.zero_of_result-zero.ensures w is in
    let awaits = subst (λ ws. Awaits w.source f.0 (types_of (zeros_of w.source c.args.pause.import)) ws) (sym o.waits_is)
    (awaits_from w.source f.0 s s o.here o.under (zeros_of w.source c.args.pause.import) f.1) in
    let told = c.in_ok-resume.ensures.resumes f.0 (subst (λ z. StoreFits z s) (sym code) f.1.store)
    (subst (λ z. Awaits z f.0 (types_of (option_to_list c.zero_of_result-zero.result)) (waits_in c.args.instance.now)) (sym code)
    (subst (λ vs. Awaits w.source f.0 (types_of vs) (waits_in c.args.instance.now)) (sym zero) awaits)) in
    area_longer x.area s s'
    (resumes_longer (code_in c.args.instance.now) s (waits_in c.args.instance.now) c.zero_of_result-zero.result left used c.in_ok-resume.field-0 s' w' told)
    (area_told w x s is h.holds.0)

pub test_unwound-requires-clause-there : goal.test_unwound-requires-clause-there
test_unwound-requires-clause-there c =
    let x = c.args.setting.now in
    let o = c.requires.there in
    let h = o.hosts in
    let w = h.program in
    let is = h.setting in
    let code = h.code_is in
    let l = h.left in
    let f = h.fits in
    let s = store_in c.args.instance.now in
    let s' = store_in c.resume.new.self in
    let w' = waits_in c.resume.new.self in
    let left = c.args.steps.now.left in
    let used = c.resume.new.steps.used - c.args.steps.now.used in
    let zero = c.zero_of_result-zero.ensures w is in
    let awaits = subst (λ ws. Awaits w.source f.0 (types_of (zeros_of w.source c.args.pause.import)) ws) (sym o.waits_is)
    (awaits_from w.source f.0 s s o.here o.under (zeros_of w.source c.args.pause.import) f.1) in
    let told = c.in_ok-resume.ensures.resumes f.0 (subst (λ z. StoreFits z s) (sym code) f.1.store)
    (subst (λ z. Awaits z f.0 (types_of (option_to_list c.zero_of_result-zero.result)) (waits_in c.args.instance.now)) (sym code)
    (subst (λ vs. Awaits w.source f.0 (types_of vs) (waits_in c.args.instance.now)) (sym zero) awaits)) in
    let from = resumed (record { store = s; here = o.here; under = o.under }) s (zeros_of w.source c.args.pause.import) in
    let turns = subst (λ t. Turns w.source from left used t s' w') c.in-Returned.is (subst
    (λ vs. Turns w.source (resumed (record { store = s; here = o.here; under = o.under }) s vs) left used c.in_ok-resume.field-0 s' w') zero
    (subst (λ ws. Resumes w.source s ws c.zero_of_result-zero.result left used c.in_ok-resume.field-0 s' w') o.waits_is
    (subst (λ z. Resumes z s (waits_in c.args.instance.now) c.zero_of_result-zero.result left used c.in_ok-resume.field-0 s' w') code told))) in
    let on = unwound w c.args.pause l from left used c.in-Returned.field-0 s' w' turns in
    hosts_on x (code_in c.args.instance.now) (code_in c.resume.new.self)
    (λ w l. busy (unwinding c.args.pause) (resumed (record { store = s; here = o.here; under = o.under }) s (zeros_of w.source c.args.pause.import)) l)
    (λ w l. calling (unwinding c.args.pause) s' (exports_of w.source).get_state [] test_unwound l) h used c.resume.ensures.code on.0
