use Rattle.std.proofs.Common.{arith, ◌≡◌, map, reverse, refl, ap, sym, ◌∙◌, subst}
use Rattle.std.proofs.lemmas.Result.{IfOk-weaker, IfErr-weaker}
use Rattle.std.proofs.lemmas.List.{nil_from_length}
use Rattle.wa_types.specs.View.{module_of}
use Rattle.run_theory.specs.Fitting.{NextFits}
use Rattle.wa_model.specs.Step.{leave, finish}
use Rattle.interp.specs.Stacks.{leave_of, finish_of}
use Rattle.interp.specs.Told.{Tells}
use Rattle.interp_state.specs.View.{label_of, waiting_of, running_of}
use Rattle.interp.proofs.RoomKept.{roomier}
use Rattle.interp.proofs.control.finish.Goals as goal

pub returns-in-None : goal.returns-in-None
returns-in-None c =
    let m = module_of c.args.program.now in
    let k = c.args.stack.now in
    let under = map waiting_of (reverse k.under.items) in
    let ops = reverse k.here.operands.items in
    let size = k.here.labels.ok.0 in
    let none = nil_from_length k.here.labels.items (sym size ∙ c.in-None.ensures.cases.0) in
    record {
      tells =
          IfOk-weaker c.leave.result _ _
          (λ f told s left paid.
          let path : finish_of m s k ≡ leave_of s 0 k c.func_results.result =
          ap (λ v. finish m s k.here.func under k.here.locals.items ops (map label_of (reverse v))) none ∙ ap (λ n. leave 0 s ops n under) (sym c.func_results.ensures) in
          subst (λ x. Tells s x left f (running_of s c.leave.new.stack)) (sym path) (told s left paid))
          c.leave.ensures.tells;
      holds = λ m h. c.leave.ensures.holds m (roomier m c.args.stack.now _ (record { func = refl; operands = omega arith; labels = omega (arith, c.pop.ensures.capacity); under = refl }) h);
      lacks =
          IfErr-weaker c.leave.result _ _
          (λ e f s outs h fits.
          let path : finish_of m s k ≡ leave_of s 0 k c.func_results.result =
          ap (λ v. finish m s k.here.func under k.here.locals.items ops (map label_of (reverse v))) none ∙ ap (λ n. leave 0 s ops n under) (sym c.func_results.ensures) in
          f m s outs (roomier m k _ (record { func = refl; operands = omega arith; labels = omega (arith, c.pop.ensures.capacity); under = refl }) h) (subst (NextFits m outs) path fits))
          c.leave.ensures.lacks;
    }
