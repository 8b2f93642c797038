use Rattle.std.proofs.Common.{arith, ◌≡◌, suc, ◌+◌, ◌-◌, [], length, map, reverse, false, nat_le, ap, sym, ◌∙◌, subst}
use Rattle.std.proofs.lemmas.Bool.{lt-leb}
use Rattle.std.proofs.lemmas.Result.{IfErr-weaker, IfOk-weaker}
use Rattle.wa_types.specs.Modules.{defined_at}
use Rattle.wa_types.specs.View.{code, func_of, module_of}
use Rattle.wa_model.specs.Configuration.{running}
use Rattle.wa_model.specs.Step.{entered}
use Rattle.run_theory.specs.Fitting.{results_of, Fits}
use Rattle.run_theory.proofs.FittingRuns.{calls_fit}
use Rattle.interp.specs.Instance.{CallsAs, Turns, inside_run, waits_of}
use Rattle.interp.specs.Runs.{LacksAt}
use Rattle.interp_state.specs.View.{store_of, label_of, waiting_of}
use Rattle.interp.proofs.CallLemmas.{entered_runs}
use Rattle.interp.proofs.RoomKept.{alone_room, entered_room}
use Rattle.interp.proofs.go_on.call_from_outside.Goals as goal

pub returns-clause-calls : goal.returns-clause-calls
returns-clause-calls c = λ v ok typed.
    let m = module_of c.args.program.now in
    let s = store_of c.args.store.now in
    let s' = store_of c.go_on.new.store in
    let x = c.args.func in
    let args = c.args.args.now in
    let f = func_of c.in-Some.callee.now in
    let here = c.in_ok-here.here in
    let left = c.args.steps.now.left in
    let used = c.go_on.new.steps.used - c.args.steps.now.used in
    let more = c.go_on.new.steps.used - c.pay-2.new.steps.used in
    let affordable : nat_le left (length args) ≡ false = lt-leb left (length args) (omega arith) in
    let left_is : c.pay-2.new.steps.left ≡ left - suc (length args) = omega (arith, c.pay-2.ensures.left) in
    let cost : used ≡ suc (length args) + more = omega (arith, c.pay-2.ensures.used, c.go_on.ensures.grows) in
    let entered_is =
    ap (λ v. running s here.func (map waiting_of (reverse v)) here.locals.items (reverse here.operands.items) (code here.code.now) (map label_of (reverse here.labels.items))) c.new-under.ensures.items
    ∙ entered_runs s here x args f [] c.in_ok-here.ensures.entered in
    IfOk-weaker c.go_on.result _ _
    (λ t told.
    subst (λ b. CallsAs m s x args b (defined_at m x) left used t.0 s' (waits_of t.1)) (sym affordable)
    (subst (λ o. CallsAs m s x args false o left used t.0 s' (waits_of t.1)) (sym c.in-Some.ensures)
    (record {
      more = more;
      cost = cost;
      turns = subst (λ n. Turns m (entered s [] args x f) n more t.0 s' (waits_of t.1)) left_is
          (subst (λ d. Turns m d c.pay-2.new.steps.left more t.0 s' (waits_of t.1)) entered_is told);
    })))
    (c.go_on.ensures.turns v (results_of m x, subst (Fits m (results_of m x)) (sym entered_is) (calls_fit m s args x f v ok c.in-Some.ensures typed)))

pub returns-clause-lacks : goal.returns-clause-lacks
returns-clause-lacks c =
    let m = module_of c.args.program.now in
    let s = store_of c.args.store.now in
    let s' = store_of c.go_on.new.store in
    let x = c.args.func in
    let args = c.args.args.now in
    let f = func_of c.in-Some.callee.now in
    let here = c.in_ok-here.here in
    let used = c.go_on.new.steps.used - c.args.steps.now.used in
    let more = c.go_on.new.steps.used - c.pay-2.new.steps.used in
    let cost : used ≡ suc (length args) + more = omega (arith, c.pay-2.ensures.used, c.go_on.ensures.grows) in
    let entered_is =
    ap (λ v. running s here.func (map waiting_of (reverse v)) here.locals.items (reverse here.operands.items) (code here.code.now) (map label_of (reverse here.labels.items))) c.new-under.ensures.items
    ∙ entered_runs s here x args f [] c.in_ok-here.ensures.entered in
    let room = alone_room m (record { here = here; under = c.new-under.result }) (entered_room m here x f c.in_ok-here.ensures.entered.func_is c.in-Some.ensures
    c.in_ok-here.ensures.reserves) c.new-under.ensures.items in
    IfErr-weaker c.go_on.result _ _
    (λ e lacks v ok typed.
    inside_run f more c.in-Some.ensures cost
    (subst (λ d. LacksAt m d more s') entered_is
    (lacks v (results_of m x, subst (Fits m (results_of m x)) (sym entered_is) (calls_fit m s args x f v ok c.in-Some.ensures typed)) room)))
    c.go_on.ensures.lacks
