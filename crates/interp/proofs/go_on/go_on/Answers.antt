use Rattle.std.proofs.Common.{◌-◌, reverse, take, drop, refl, ap, sym, ◌∙◌, subst}
use Rattle.wa_types.specs.View.{module_of}
use Rattle.run_theory.specs.Alone.{it_asks, EndsAs}
use Rattle.interp.specs.Runs.{RunsTo}
use Rattle.interp_state.specs.View.{store_of, running_of, taking}
use Rattle.interp.proofs.AskLemmas.{asks_lacking}
use Rattle.interp.proofs.RoomKept.{err_any}
use Rattle.interp.proofs.go_on.go_on.Goals as goal

pub returns-in-Returned-clause-turns : goal.returns-in-Returned-clause-turns
returns-in-Returned-clause-turns c = λ v ok.
    let m = module_of c.args.program.now in
    let from = running_of (store_of c.args.store.now) c.args.stack in
    let to = running_of (store_of c.run-ran.new.store) c.run-ran.new.stack in
    let used = c.run-ran.new.steps.used - c.args.steps.now.used in
    (subst (λ t. RunsTo m from c.args.steps.now.left used t to) c.in-Returned.is (c.in_ok-value.ensures.runs v ok), refl)

pub returns-in-Trapped-clause-turns : goal.returns-in-Trapped-clause-turns
returns-in-Trapped-clause-turns c = λ v ok.
    let m = module_of c.args.program.now in
    let from = running_of (store_of c.args.store.now) c.args.stack in
    let to = running_of (store_of c.run-ran.new.store) c.run-ran.new.stack in
    let used = c.run-ran.new.steps.used - c.args.steps.now.used in
    (subst (λ t. RunsTo m from c.args.steps.now.left used t to) c.in-Trapped.is (c.in_ok-value.ensures.runs v ok), refl)

pub returns-in-Asked-clause-turns : goal.returns-in-Asked-clause-turns
returns-in-Asked-clause-turns c = λ v ok.
    let m = module_of c.args.program.now in
    let from = running_of (store_of c.args.store.now) c.args.stack in
    let to = running_of (store_of c.run-ran.new.store) c.run-ran.new.stack in
    let used = c.run-ran.new.steps.used - c.args.steps.now.used in
    let told = subst (λ t. RunsTo m from c.args.steps.now.left used t to) c.in-Asked.is (c.in_ok-value.ensures.runs v ok) in
    let args = c.in_ok-args-in-Asked.ensures.items
    ∙ c.args_of-args.ensures
    ∙ ap (λ n. reverse (take n (drop c.in-Asked.own (reverse c.run-ran.new.stack.here.operands.items)))) c.saturating_sub.ensures in
    record {
      at = taking c.in-Asked.taken to;
      store_is = refl;
      waits = refl;
      ends = subst (λ a. EndsAs m from c.args.steps.now.left used (it_asks c.in-Asked.import a (taking c.in-Asked.taken to))) (sym args) told;
    }

pub returns-clause-turns : goal.returns-clause-turns
returns-clause-turns c = λ v ok.
    let m = module_of c.args.program.now in
    let from = running_of (store_of c.args.store.now) c.args.stack in
    let to = running_of (store_of c.run-ran.new.store) c.run-ran.new.stack in
    let used = c.run-ran.new.steps.used - c.args.steps.now.used in
    let told = subst (λ t. RunsTo m from c.args.steps.now.left used t to) c.in-Spent.is (c.in_ok-value.ensures.runs v ok) in
    (record { at = told.at; store_is = told.store_is; ends = told.ends }, refl)

pub returns-in_err-args-in-Asked-clause-lacks : goal.returns-in_err-args-in-Asked-clause-lacks
returns-in_err-args-in-Asked-clause-lacks c =
    let m = module_of c.args.program.now in
    let from = running_of (store_of c.args.store.now) c.args.stack in
    let to = running_of (store_of c.run-ran.new.store) c.run-ran.new.stack in
    let used = c.run-ran.new.steps.used - c.args.steps.now.used in
    err_any c.from_residual-in_err-args-in-Asked.result _
    (λ e v ok h.
    asks_lacking m from c.args.steps.now.left used c.in-Asked.import _ (taking c.in-Asked.taken to)
    (subst (λ t. RunsTo m from c.args.steps.now.left used t to) c.in-Asked.is (c.in_ok-value.ensures.runs v ok)))
