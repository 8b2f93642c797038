use Rattle.std.proofs.Common.{arith, ◌≡◌, ◌+◌, ◌-◌, ◌<◌, [], ◌∷◌, ◌++◌, length, map, reverse, take, drop, List, ap, sym, ◌∙◌, subst}
use Rattle.std.proofs.lemmas.Result.{IfOk-from_err}
use Rattle.std.proofs.lemmas.Bool.{ltb-true}
use Rattle.std.proofs.lemmas.List.{length-reverse, length-map}
use Rattle.wa_types.specs.Modules.{declared_locals, func_imports}
use Rattle.wa_types.specs.View.{code, func_of, module_of}
use Rattle.wa_model.specs.Configuration as C
use Rattle.wa_model.specs.Configuration.{Configuration, running, waiting}
use Rattle.wa_model.specs.Step.{steps, asks, zero_of}
use Rattle.run_theory.specs.Growth.{Each}
use Rattle.interp_state.specs.declared.activation.Activation.{Activation}
use Rattle.interp_state.specs.Rooms.{room_of}
use Rattle.interp_state.specs.declared.activation.Waiting.{Waiting}
use Rattle.interp_state.specs.View.{label_of, waiting_of, running_of, taking}
use Rattle.interp_state.proofs.OperandLemmas.{top_first}
use Rattle.interp.specs.StackRooms.{HasRoom, Reserves}
use Rattle.interp.proofs.RoomKept.{call_unpaid, each_more, entered_room, err_any}
use Rattle.interp.proofs.CallLemmas.{asked_at, entered_at, entered_runs, on_ok_from_err}
use Rattle.interp.proofs.calls.invoke.Goals as goal

pub returns-then-is_imported : goal.returns-then-is_imported
returns-then-is_imported c =
    let m = module_of c.args.program.now in
    let k = c.args.stack.now in
    let ops = reverse k.here.operands.items in
    record {
      tells =
          λ s. (
            asked_at m s k.here.func (map waiting_of (reverse k.under.items)) k.here.locals.items ops (code k.here.code.now)
                (map label_of (reverse k.here.labels.items)) c.args.own c.args.params c.args.func c.in_default.ensures
                (ltb-true c.args.func (func_imports m) (sym c.is_imported.ensures ∙ c.if-is_imported.true))
                ∙ ap (λ p. asks c.args.params c.args.func (reverse (take p (drop c.args.own ops))) (taking (c.args.own + c.args.params) (running_of s k)))
                (let e : c.args.params ≡ c.args.own + c.args.params - c.args.own = omega arith in e),
            omega arith,
          );
      holds = λ h. h;
      lacks = tt;
    }

pub returns : goal.returns
returns c =
    let m = module_of c.args.program.now in
    let k = c.args.stack.now in
    let under = map waiting_of (reverse k.under.items) in
    let ops = reverse k.here.operands.items in
    let rest = code k.here.code.now in
    let labels = map label_of (reverse k.here.labels.items) in
    let f = func_of c.in-Some.callee.now in
    let n = c.args.own + c.args.params in
    let w = waiting k.here.func k.here.locals.items (drop n ops) (take n ops) rest labels in
    let args = c.args_of-args.result.now in
    let ls = args ++ map zero_of (declared_locals f.locals) in
    let size = k.under.ok.0 in
    let room : length under + 1 < 4096 = omega (arith, length-map (reverse k.under.items) waiting_of, length-reverse k.under.items) in
    let locals = ap (λ v. v ++ map zero_of (declared_locals f.locals)) c.args_of-args.ensures in
    let pushed = top_first c.push.new.self.items k.under.items _ c.in_ok-push.ensures.items in
    let after = c.replace-caller.ensures.after in
    let entered = c.in_ok-entered.ensures in
    record {
      tells =
          λ s.
          let here : Activation → List C.Activation → Configuration = λ h u. running s h.func u h.locals.items (reverse h.operands.items) (code h.code.now) (map label_of (reverse h.labels.items)) in
          let after : running_of s (record { here = c.replace-caller.new.dest; under = c.push.new.self }) ≡ running s c.args.func (w ∷ under) ls [] f.body [] =
          ap (λ u. here c.replace-caller.new.dest (map waiting_of u)) pushed
          ∙ ap (λ a. here c.replace-caller.new.dest (waiting_of (record { activation = a; taken = n }) ∷ under)) c.replace-caller.ensures.value
          ∙ ap (λ h. here h (w ∷ under)) c.replace-caller.ensures.after
          ∙ entered_runs s c.in_ok-entered.entered c.args.func args f (w ∷ under) c.in_ok-entered.ensures.entered in (
            entered_at m s k.here.func under k.here.locals.items ops rest labels c.args.own c.args.params c.args.func f ls c.in-Some.ensures room locals
                ∙ ap (steps c.args.params) (sym after),
            omega arith,
          );
      holds =
          λ h. record {
            here = entered_room m c.replace-caller.new.dest c.args.func f (ap (λ a. a.func) after ∙ entered.entered.func_is) c.in-Some.ensures
                (subst (λ (a : Activation). Reserves a (room_of m f)) (sym after) entered.reserves);
            under = subst (Each (λ (w : Waiting). HasRoom m w.activation)) (sym c.in_ok-push.ensures.items)
                (each_more (λ (w : Waiting). HasRoom m w.activation) k.under.items _ h.under (subst (HasRoom m) (sym c.replace-caller.ensures.value) h.here));
          };
      lacks = tt;
    }

pub returns-in_err-entered : goal.returns-in_err-entered
returns-in_err-entered c = record {
  tells = IfOk-from_err c.from_residual.result _ c.from_residual.ensures.0;
  holds = on_ok_from_err c.from_residual.result _ c.from_residual.ensures.0;
  lacks = err_any c.from_residual.result _ (λ e s. call_unpaid (module_of c.args.program.now) s _ _ _ _ _ _ _ _ _ _ c.in-Some.ensures);
}

pub returns-in_err-push : goal.returns-in_err-push
returns-in_err-push c = record {
  tells = IfOk-from_err c.from_residual-in_err-push.result _ c.from_residual-in_err-push.ensures.0;
  holds = on_ok_from_err c.from_residual-in_err-push.result _ c.from_residual-in_err-push.ensures.0;
  lacks = err_any c.from_residual-in_err-push.result _ (λ e s. call_unpaid (module_of c.args.program.now) s _ _ _ _ _ _ _ _ _ _ c.in-Some.ensures);
}
