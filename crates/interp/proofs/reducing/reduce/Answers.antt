use Rattle.std.proofs.Common.{arith, refl, ◌≡◌, ap, sym, ◌∙◌, subst}
use Rattle.std.proofs.lemmas.Result.{IfOk-weaker, IfErr-weaker, on_ok_weaker}
use Rattle.std.proofs.lemmas.List.{nil_from_length}
use Rattle.wa_types.specs.Syntax.{done}
use Rattle.wa_types.specs.View.{code, module_of}
use Rattle.wa_types.proofs.ViewLemmas.{code_none}
use Rattle.run_theory.specs.Fitting.{NextFits}
use Rattle.run_theory.proofs.FittingSteps.{steps_fit}
use Rattle.interp.specs.Stacks.{code_of}
use Rattle.interp.specs.Told.{Tells}
use Rattle.interp_state.specs.View.{store_of, running_of}
use Rattle.interp.proofs.ReduceLemmas.{code_first}
use Rattle.interp.proofs.RoomKept.{TakesUnpaid, err_any, ok_any, roomier}
use Rattle.interp.proofs.reducing.reduce.Goals as goal

pub returns-in_default : goal.returns-in_default
returns-in_default c =
    let m = module_of c.args.program.now in
    let s = store_of c.args.store.now in
    let k = c.args.stack.now in
    let none : code k.here.code.now ≡ done = ap code (nil_from_length _ c.in_default.ensures.cases) ∙ code_none in
    record {
      tells =
          IfOk-weaker c.finish.result _ _
          (λ f told. subst (λ d. Tells s (code_of m s k d) c.args.left f (running_of s c.finish.new.stack)) (sym none) (told s c.args.left c.requires.paid))
          c.finish.ensures.tells;
      max = refl;
      holds = ok_any c.finish.result _ (c.finish.ensures.holds (module_of c.args.program.now));
      lacks =
          IfErr-weaker c.finish.result _ _
          (λ e f outs h v fits. absurd (f s outs h (subst (λ d. NextFits m outs (code_of m s k d)) none (steps_fit m outs (running_of s k) v fits))))
          c.finish.ensures.lacks;
      unchanged = err_any c.finish.result _ (λ e. refl);
    }

pub returns : goal.returns
returns c =
    let m = module_of c.args.program.now in
    let s = store_of c.args.store.now in
    let k = c.args.stack.now in
    let first = code_first k.here.code.now c.in-Some.instr.now c.in-Some.rest.now c.in-Some.ensures.cases.0 in
    record {
      tells =
          IfOk-weaker c.dispatch.result _ _
          (λ f told. subst (λ d. Tells s (code_of m s k d) c.args.left f (running_of (store_of c.dispatch.new.store) c.dispatch.new.stack)) (sym first) told)
          c.dispatch.ensures.tells;
      max = c.dispatch.ensures.max;
      holds = on_ok_weaker c.dispatch.result (λ f h. f (roomier m c.args.stack.now _ (record { func = refl; operands = omega arith; labels = omega arith; under = refl }) h)) c.dispatch.ensures.holds;
      lacks =
          IfErr-weaker c.dispatch.result _ _
          (λ e f outs h v fits.
          subst (TakesUnpaid m s k) (sym first)
          (f outs (roomier m k _ (record { func = refl; operands = omega arith; labels = omega arith; under = refl }) h)
          (subst (λ d. NextFits m outs (code_of m s k d)) first (steps_fit m outs (running_of s k) v fits))))
          c.dispatch.ensures.lacks;
      unchanged = c.dispatch.ensures.unchanged;
    }
