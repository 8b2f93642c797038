use Rattle.std.proofs.Common.{arith, [], suc, ◌≡◌, ◌+◌, ◌-◌, ◌≤◌, refl, sym, ap, ◌∙◌, subst}
use Rattle.std.specs.Option.{option_to_list}
use Rattle.wa_types.specs.View.{module_of}
use Rattle.wa_model.specs.Step.{step}
use Rattle.run_theory.specs.Alone.{it_returned, it_trapped, it_asks}
use Rattle.run_theory.proofs.FittingRuns.{leads_fit}
use Rattle.interp.specs.Told.{Tells, args_below}
use Rattle.interp_state.specs.View.{store_of, running_of, taking}
use Rattle.interp.proofs.RunLemmas.{no_step, one_more, ends_by, ends_spent, returned_listed, nothing_left}
use Rattle.interp.proofs.RoomKept.{err_any}
use Rattle.interp.proofs.run.run.Goals as goal

pub loop-steps-init : goal.loop-steps-init
loop-steps-init c = record {
  goes = no_step (module_of c.args.program.now) (running_of (store_of c.args.store.now) c.args.stack.now) _ (omega arith);
  sum = refl;
  grows =
      omega arith;
  room = λ h. h;
  max = refl;
}

pub loop-steps-preserved : goal.loop-steps-preserved
loop-steps-preserved c =
    let m = module_of c.args.program.now in
    let from = running_of (store_of c.args.store.now) c.args.stack.now in
    let at = running_of (store_of c.loop-steps.store) c.loop-steps.stack in
    let to = running_of (store_of c.reduce.new.store) c.reduce.new.stack in
    let n = c.loop-steps.steps.used - c.args.steps.now.used in
    let told = subst (λ f. Tells at.store (step m at) c.loop-steps.steps.left f to) c.in-Moved.is c.in_ok-more.ensures.tells in
    let more = c.in-Moved.more in
    let paid : c.pay.new.steps.used - c.args.steps.now.used ≡ n + (more + 1) = omega (arith, c.pay.ensures.used, c.loop-steps.invariant.grows) in
    record {
      goes = one_more m from at to n more _ c.loop-steps.invariant.goes told.0 paid;
      sum = omega (arith, c.pay.ensures.used, c.pay.ensures.left, c.loop-steps.invariant.sum);
      grows = omega (arith, c.pay.ensures.used, c.loop-steps.invariant.grows);
      room = λ h. c.in_ok-more.ensures.holds (c.loop-steps.invariant.room h);
      max = c.in_ok-more.ensures.max ∙ c.loop-steps.invariant.max;
    }

pub returns-in-Returned-clause-runs : goal.returns-in-Returned-clause-runs
returns-in-Returned-clause-runs c = λ v ok.
    let m = module_of c.args.program.now in
    let from = running_of (store_of c.args.store.now) c.args.stack.now in
    let at = running_of (store_of c.loop-steps.store) c.loop-steps.stack in
    let to = running_of (store_of c.reduce.new.store) c.reduce.new.stack in
    let n = c.loop-steps.steps.used - c.args.steps.now.used in
    let told = subst (λ f. Tells at.store (step m at) c.loop-steps.steps.left f to) c.in-Returned.is c.in_ok-more.ensures.tells in
    let more = c.in-Returned.more in
    let paid : c.pay-in-Returned.new.steps.used - c.args.steps.now.used ≡ n + (more + 1) = omega (arith, c.pay-in-Returned.ensures.used, c.loop-steps.invariant.grows) in
    let enough : c.pay-in-Returned.new.steps.used - c.args.steps.now.used ≤ c.args.steps.now.left =
    omega (arith, c.pay-in-Returned.ensures.used, c.pay-in-Returned.ensures.left, c.loop-steps.invariant.grows, c.loop-steps.invariant.sum) in
    let values = returned_listed m from n more at told.0.values to.store c.in-Returned.value v ok c.loop-steps.invariant.goes told.0.next_is told.0.value_is in
    ends_by m from c.args.steps.now.left n more _ at _ (it_returned (option_to_list c.in-Returned.value) to.store) c.loop-steps.invariant.goes told.0.next_is
    ((let e : more + 1 ≡ suc more = omega arith in e), ap (λ vs. it_returned vs to.store) (sym values)) paid enough

pub returns-in-Trapped-clause-runs : goal.returns-in-Trapped-clause-runs
returns-in-Trapped-clause-runs c = λ v ok.
    let m = module_of c.args.program.now in
    let from = running_of (store_of c.args.store.now) c.args.stack.now in
    let at = running_of (store_of c.loop-steps.store) c.loop-steps.stack in
    let to = running_of (store_of c.reduce.new.store) c.reduce.new.stack in
    let n = c.loop-steps.steps.used - c.args.steps.now.used in
    let told = subst (λ f. Tells at.store (step m at) c.loop-steps.steps.left f to) c.in-Trapped.is c.in_ok-more.ensures.tells in
    let more = c.in-Trapped.more in
    let paid : c.pay-in-Trapped.new.steps.used - c.args.steps.now.used ≡ n + (more + 1) = omega (arith, c.pay-in-Trapped.ensures.used, c.loop-steps.invariant.grows) in
    let enough : c.pay-in-Trapped.new.steps.used - c.args.steps.now.used ≤ c.args.steps.now.left =
    omega (arith, c.pay-in-Trapped.ensures.used, c.pay-in-Trapped.ensures.left, c.loop-steps.invariant.grows, c.loop-steps.invariant.sum) in
    ends_by m from c.args.steps.now.left n more _ at _ (it_trapped c.in-Trapped.trap to.store) c.loop-steps.invariant.goes told.0 ((let e : more + 1 ≡ suc more = omega arith in e), refl) paid enough

pub returns-in-Asked-clause-runs : goal.returns-in-Asked-clause-runs
returns-in-Asked-clause-runs c = λ v ok.
    let m = module_of c.args.program.now in
    let from = running_of (store_of c.args.store.now) c.args.stack.now in
    let at = running_of (store_of c.loop-steps.store) c.loop-steps.stack in
    let to = running_of (store_of c.reduce.new.store) c.reduce.new.stack in
    let n = c.loop-steps.steps.used - c.args.steps.now.used in
    let told = subst (λ f. Tells at.store (step m at) c.loop-steps.steps.left f to) c.in-Asked.is c.in_ok-more.ensures.tells in
    let more = c.in-Asked.more in
    let paid : c.pay-in-Asked.new.steps.used - c.args.steps.now.used ≡ n + (more + 1) = omega (arith, c.pay-in-Asked.ensures.used, c.loop-steps.invariant.grows) in
    let enough : c.pay-in-Asked.new.steps.used - c.args.steps.now.used ≤ c.args.steps.now.left =
    omega (arith, c.pay-in-Asked.ensures.used, c.pay-in-Asked.ensures.left, c.loop-steps.invariant.grows, c.loop-steps.invariant.sum) in
    ends_by m from c.args.steps.now.left n more _ at _ (it_asks c.in-Asked.import (args_below c.in-Asked.own (c.in-Asked.taken - c.in-Asked.own) to) (taking c.in-Asked.taken to))
    c.loop-steps.invariant.goes told.0 ((let e : more + 1 ≡ suc more = omega arith in e), refl) paid enough

pub returns-in-Spent-clause-runs : goal.returns-in-Spent-clause-runs
returns-in-Spent-clause-runs c = λ v ok.
    let m = module_of c.args.program.now in
    let from = running_of (store_of c.args.store.now) c.args.stack.now in
    let at = running_of (store_of c.loop-steps.store) c.loop-steps.stack in
    let to = running_of (store_of c.reduce.new.store) c.reduce.new.stack in
    let n = c.loop-steps.steps.used - c.args.steps.now.used in
    let told = subst (λ f. Tells at.store (step m at) c.loop-steps.steps.left f to) c.in-Spent.is c.in_ok-more.ensures.tells in
    let left : c.args.steps.now.left ≡ n + c.loop-steps.steps.left = omega (arith, c.loop-steps.invariant.grows, c.loop-steps.invariant.sum) in
    record { at = at; store_is = sym told.1; ends = ends_spent m from c.args.steps.now.left n c.loop-steps.steps.left at v ok c.loop-steps.invariant.goes left told.0 }

pub returns-clause-runs : goal.returns-clause-runs
returns-clause-runs c = λ v ok.
    let m = module_of c.args.program.now in
    let from = running_of (store_of c.args.store.now) c.args.stack.now in
    let at = running_of (store_of c.loop-steps.store) c.loop-steps.stack in
    let n = c.loop-steps.steps.used - c.args.steps.now.used in
    let left : c.args.steps.now.left ≡ n + c.loop-steps.steps.left = omega (arith, c.loop-steps.invariant.grows, c.loop-steps.invariant.sum) in
    record {
      at = at;
      store_is = refl;
      ends = ends_spent m from c.args.steps.now.left n c.loop-steps.steps.left at v ok c.loop-steps.invariant.goes left
          (nothing_left (step m at) c.loop-steps.steps.left c.loop-steps-test.false);
    }

pub returns-in_err-more-clause-lacks : goal.returns-in_err-more-clause-lacks
returns-in_err-more-clause-lacks c =
    let m = module_of c.args.program.now in
    let from = running_of (store_of c.args.store.now) c.args.stack.now in
    let at = running_of (store_of c.loop-steps.store) c.loop-steps.stack in
    let n = c.loop-steps.steps.used - c.args.steps.now.used in
    err_any c.from_residual.result _
    (λ e v ok h.
    let lacks = c.in_err-more.ensures.lacks ok.0 (c.loop-steps.invariant.room h) v (leads_fit m v ok.0 from at n [] ok.1 c.loop-steps.invariant.goes) in
    record {
      at = at;
      cost = n;
      goes = c.loop-steps.invariant.goes;
      takes = lacks.0;
      paid = omega (arith, lacks.1);
      store_is = sym c.in_err-more.ensures.unchanged;
    })
