use Rattle.std.proofs.Common.{◌-◌, [], sym, ap, ◌∙◌, subst}
use Rattle.wa_model.specs.declared.events.End.TheVariants as E
use Rattle.run_theory.specs.Fitting.{types_of, StoreFits}
use Rattle.wa_model.specs.Protocol.{exports_of, calling, entering, test_rewound}
use Rattle.interp.specs.Host.{code_in, store_in, waits_in}
use Rattle.interp.specs.Instance.{Calls}
use Rattle.pause_host.specs.Views.{entry_of, rewinding}
use Rattle.pause_host.specs.Moves.{EndsAt}
use Rattle.pause_host.proofs.Callings.{hosts_on}
use Rattle.pause_host.proofs.Comings.{fits_on}
use Rattle.pause_host.proofs.Results.{ended_ok, behind_ok}
use Rattle.pause_host.proofs.Pauses.{calls_in, again_returned, again_trapped, again_spent, again_other, again_asked}
use Rattle.wa_types.specs.Modules.{func_type_at}
use Rattle.interp.specs.declared.turns.Turn.TheVariants as U
use Rattle.pause_host.proofs.Tables.{eq_true, ne_false}
use Rattle.pause_host.proofs.rewinding.call_again.Goals as goal

pub returns-in-Returned-clause-comes : goal.returns-in-Returned-clause-comes
returns-in-Returned-clause-comes c = λ w l lines since is code f.
    let s = store_in c.args.instance.now in
    let s' = store_in c.begin.new.self in
    let w' = waits_in c.begin.new.self in
    let left = c.args.steps.now.left in
    let used = c.begin.new.steps.used - c.args.steps.now.used in
    let e = entry_of c.args.pause.entry in
    let m = code_in c.args.instance.now in
    let typed = ap types_of c.deref.ensures.value ∙ f.1.1 ∙ ap (λ z. (func_type_at z e.func).params) (sym code) in
    let told = c.in_ok-begin.ensures.calls (subst (λ z. StoreFits z s) (sym code) f.0) typed in
    let calls = subst (λ t. Calls w.source s e.func e.args left used t s' w') c.in-Returned.is
    (subst (λ z. Calls z s e.func e.args left used c.in_ok-begin.field-0 s' w') code (subst (λ vs. Calls m s e.func vs left used c.in_ok-begin.field-0 s' w') c.deref.ensures.value told)) in
    let again = calls_in w.source s e.func e.args f.1.0.0 left used (U.Returned c.in-Returned.field-0) s' w' f.1.0.1 calls in
    let from = entering (rewinding c.args.pause since) e s l in
    ended_ok w from left used (E.Broken 5) s' c.ended.result lines l w' c.ended.ensures.event c.ended.ensures.stage
    (again_returned w c.args.pause since s l f.1.0.0 left used s' w' f.1.0.1 c.in-Returned.field-0 again)

pub returns-in-Trapped-clause-comes : goal.returns-in-Trapped-clause-comes
returns-in-Trapped-clause-comes c = λ w l lines since is code f.
    let s = store_in c.args.instance.now in
    let s' = store_in c.begin.new.self in
    let w' = waits_in c.begin.new.self in
    let left = c.args.steps.now.left in
    let used = c.begin.new.steps.used - c.args.steps.now.used in
    let e = entry_of c.args.pause.entry in
    let m = code_in c.args.instance.now in
    let typed = ap types_of c.deref.ensures.value ∙ f.1.1 ∙ ap (λ z. (func_type_at z e.func).params) (sym code) in
    let told = c.in_ok-begin.ensures.calls (subst (λ z. StoreFits z s) (sym code) f.0) typed in
    let calls = subst (λ t. Calls w.source s e.func e.args left used t s' w') c.in-Trapped.is
    (subst (λ z. Calls z s e.func e.args left used c.in_ok-begin.field-0 s' w') code (subst (λ vs. Calls m s e.func vs left used c.in_ok-begin.field-0 s' w') c.deref.ensures.value told)) in
    let again = calls_in w.source s e.func e.args f.1.0.0 left used (U.Trapped c.in-Trapped.trap) s' w' f.1.0.1 calls in
    let from = entering (rewinding c.args.pause since) e s l in
    ended_ok w from left used (E.RewindTrap c.in-Trapped.trap) s' c.ended-in-Trapped.result lines l w' c.ended-in-Trapped.ensures.event c.ended-in-Trapped.ensures.stage
    (again_trapped w c.args.pause since s l f.1.0.0 left used s' w' f.1.0.1 c.in-Trapped.trap again)

pub returns-then-call-pause-clause-comes : goal.returns-then-call-pause-clause-comes
returns-then-call-pause-clause-comes c = λ w l lines since is code f.
    let s = store_in c.args.instance.now in
    let s' = store_in c.begin.new.self in
    let w' = waits_in c.begin.new.self in
    let left = c.args.steps.now.left in
    let used = c.begin.new.steps.used - c.args.steps.now.used in
    let e = entry_of c.args.pause.entry in
    let m = code_in c.args.instance.now in
    let typed = ap types_of c.deref.ensures.value ∙ f.1.1 ∙ ap (λ z. (func_type_at z e.func).params) (sym code) in
    let told = c.in_ok-begin.ensures.calls (subst (λ z. StoreFits z s) (sym code) f.0) typed in
    let calls = subst (λ t. Calls w.source s e.func e.args left used t s' w') c.in-Waiting.is
    (subst (λ z. Calls z s e.func e.args left used c.in_ok-begin.field-0 s' w') code (subst (λ vs. Calls m s e.func vs left used c.in_ok-begin.field-0 s' w') c.deref.ensures.value told)) in
    let again = calls_in w.source s e.func e.args f.1.0.0 left used (U.Waiting c.in-Waiting.call) s' w' f.1.0.1 calls in
    let from = entering (rewinding c.args.pause since) e s l in
    let on = again_asked w c.args.pause since s l f.1.0.0 left used s' w' f.1.0.1 c.in-Waiting.call (eq_true c.in-Waiting.call.import c.args.pause.import c.if-call-pause.true) again in
    let next = calling (rewinding c.args.pause since) s' (exports_of w.source).get_state [] (test_rewound (record { store = s'; here = on.0; under = on.1 })) l in
    let fits = fits_on w.source w.plan from next [] [] used is.valid is.typed on.3 f in
    behind_ok w from next [] left c.args.steps.now.used c.begin.new.steps.left c.begin.new.steps.used c.test_rewound.new.steps.used c.test_rewound.result lines lines l
    (store_in c.test_rewound.new.instance) (waits_in c.test_rewound.new.instance) c.begin.ensures.sum c.begin.ensures.grows c.test_rewound.ensures.grows on.3
    (c.test_rewound.ensures.comes w l lines since s' on.0 on.1 is (c.begin.ensures.code ∙ code) on.2 fits)

pub returns-in-Waiting-clause-comes : goal.returns-in-Waiting-clause-comes
returns-in-Waiting-clause-comes c = λ w l lines since is code f.
    let s = store_in c.args.instance.now in
    let s' = store_in c.begin.new.self in
    let w' = waits_in c.begin.new.self in
    let left = c.args.steps.now.left in
    let used = c.begin.new.steps.used - c.args.steps.now.used in
    let e = entry_of c.args.pause.entry in
    let m = code_in c.args.instance.now in
    let typed = ap types_of c.deref.ensures.value ∙ f.1.1 ∙ ap (λ z. (func_type_at z e.func).params) (sym code) in
    let told = c.in_ok-begin.ensures.calls (subst (λ z. StoreFits z s) (sym code) f.0) typed in
    let calls = subst (λ t. Calls w.source s e.func e.args left used t s' w') c.in-Waiting.is
    (subst (λ z. Calls z s e.func e.args left used c.in_ok-begin.field-0 s' w') code (subst (λ vs. Calls m s e.func vs left used c.in_ok-begin.field-0 s' w') c.deref.ensures.value told)) in
    let again = calls_in w.source s e.func e.args f.1.0.0 left used (U.Waiting c.in-Waiting.call) s' w' f.1.0.1 calls in
    let from = entering (rewinding c.args.pause since) e s l in
    ended_ok w from left used (E.Broken 3) s' c.ended-in-Waiting.result lines l w' c.ended-in-Waiting.ensures.event c.ended-in-Waiting.ensures.stage
    (again_other w c.args.pause since s l f.1.0.0 left used s' w' f.1.0.1 c.in-Waiting.call (ne_false c.in-Waiting.call.import c.args.pause.import c.if-call-pause.false) again)

pub returns-in-StepsSpent-clause-comes : goal.returns-in-StepsSpent-clause-comes
returns-in-StepsSpent-clause-comes c = λ w l lines since is code f.
    let s = store_in c.args.instance.now in
    let s' = store_in c.begin.new.self in
    let w' = waits_in c.begin.new.self in
    let left = c.args.steps.now.left in
    let used = c.begin.new.steps.used - c.args.steps.now.used in
    let e = entry_of c.args.pause.entry in
    let m = code_in c.args.instance.now in
    let typed = ap types_of c.deref.ensures.value ∙ f.1.1 ∙ ap (λ z. (func_type_at z e.func).params) (sym code) in
    let told = c.in_ok-begin.ensures.calls (subst (λ z. StoreFits z s) (sym code) f.0) typed in
    let calls = subst (λ t. Calls w.source s e.func e.args left used t s' w') c.in-StepsSpent.is
    (subst (λ z. Calls z s e.func e.args left used c.in_ok-begin.field-0 s' w') code (subst (λ vs. Calls m s e.func vs left used c.in_ok-begin.field-0 s' w') c.deref.ensures.value told)) in
    let again = calls_in w.source s e.func e.args f.1.0.0 left used U.StepsSpent s' w' f.1.0.1 calls in
    let from = entering (rewinding c.args.pause since) e s l in
    ended_ok w from left used (E.StepsSpent c.args.setting.now.steps) s' c.ended-in-StepsSpent.result lines l w' c.ended-in-StepsSpent.ensures.event c.ended-in-StepsSpent.ensures.stage
    (subst (λ n. EndsAt w from left used (E.StepsSpent n) s') is.steps (again_spent w c.args.pause since s l f.1.0.0 left used s' w' f.1.0.1 again))

pub test_rewound-requires-clause-there : goal.test_rewound-requires-clause-there
test_rewound-requires-clause-there c =
    let h = c.requires.there in
    let w = h.program in
    let code = h.code_is in
    let f = h.fits in
    let l = h.left in
    let s = store_in c.args.instance.now in
    let s' = store_in c.begin.new.self in
    let w' = waits_in c.begin.new.self in
    let left = c.args.steps.now.left in
    let used = c.begin.new.steps.used - c.args.steps.now.used in
    let e = entry_of c.args.pause.entry in
    let m = code_in c.args.instance.now in
    let typed = ap types_of c.deref.ensures.value ∙ f.1.1 ∙ ap (λ z. (func_type_at z e.func).params) (sym code) in
    let told = c.in_ok-begin.ensures.calls (subst (λ z. StoreFits z s) (sym code) f.0) typed in
    let calls = subst (λ t. Calls w.source s e.func e.args left used t s' w') c.in-Waiting.is
    (subst (λ z. Calls z s e.func e.args left used c.in_ok-begin.field-0 s' w') code (subst (λ vs. Calls m s e.func vs left used c.in_ok-begin.field-0 s' w') c.deref.ensures.value told)) in
    let again = calls_in w.source s e.func e.args f.1.0.0 left used (U.Waiting c.in-Waiting.call) s' w' f.1.0.1 calls in
    let on = again_asked w c.args.pause s s l f.1.0.0 left used s' w' f.1.0.1 c.in-Waiting.call (eq_true c.in-Waiting.call.import c.args.pause.import c.if-call-pause.true) again in
    let g = hosts_on c.args.setting.now m (code_in c.begin.new.self) (λ w l. entering (rewinding c.args.pause s) e s l)
    (λ w l. calling (rewinding c.args.pause s) s' (exports_of w.source).get_state [] (test_rewound (record { store = s'; here = on.0; under = on.1 })) l) h used c.begin.ensures.code on.3 in
    record {
      here = on.0;
      under = on.1;
      waits_is = on.2;
      hosts = record { program = g.program; left = g.left; setting = g.setting; code_is = g.code_is; fits = g.fits; holds = g.holds };
    }
