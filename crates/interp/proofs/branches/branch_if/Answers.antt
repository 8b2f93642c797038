use Rattle.std.proofs.Common.{arith, ◌≡◌, map, reverse, refl, ap, sym, ◌∙◌, subst}
use Rattle.std.proofs.lemmas.Result.{IfOk-weaker, IfErr-weaker}
use Rattle.wa_types.specs.Syntax.{br_if}
use Rattle.wa_types.specs.View.{code, module_of}
use Rattle.wa_model.specs.Configuration.{running}
use Rattle.run_theory.specs.Fitting.{NextFits}
use Rattle.wa_model.specs.Store.{choose}
use Rattle.wa_model.specs.Step.{steps, jump, with_number}
use Rattle.interp.specs.Stacks.{plain_of}
use Rattle.interp.specs.Told.{Tells}
use Rattle.interp_state.specs.View.{label_of, waiting_of, running_of}
use Rattle.interp.proofs.RoomKept.{choose_first, roomier}
use Rattle.interp.proofs.branches.branch_if.Goals as goal

pub returns-then-test-ne0 : goal.returns-then-test-ne0
returns-then-test-ne0 c =
    let m = module_of c.args.program.now in
    let k = c.args.stack.now in
    let under = map waiting_of (reverse k.under.items) in
    let ls = k.here.locals.items in
    let labels = map label_of (reverse k.here.labels.items) in
    let rest = code k.here.code.now in
    let below = reverse c.pop_number.new.operands.items in
    record {
      tells =
          IfOk-weaker c.jump.result _ _
          (λ f told s left paid.
          let path : plain_of m s k (br_if c.args.label) ≡ jump 0 m s k.here.func under ls below labels c.args.label =
          ap (λ v. with_number v (λ n ops. choose n (jump 0 m s k.here.func under ls ops labels c.args.label) (steps 0 (running s k.here.func under ls ops rest labels)))) c.in-Some.ensures.popped
          ∙ choose_first c.in-Some.test (jump 0 m s k.here.func under ls below labels c.args.label) (steps 0 (running s k.here.func under ls below rest labels)) c.if-test-ne0.true in
          subst (λ x. Tells s x left f (running_of s c.jump.new.stack)) (sym path) (told s left paid))
          c.jump.ensures.tells;
      holds = λ m h. c.jump.ensures.holds m (roomier m c.args.stack.now _ (record { func = refl; operands = omega (arith, c.pop_number.ensures.holds); labels = omega arith; under = refl }) h);
      lacks =
          IfErr-weaker c.jump.result _ _
          (λ e f s outs h fits.
          let path : plain_of m s k (br_if c.args.label) ≡ jump 0 m s k.here.func under ls below labels c.args.label =
          ap (λ v. with_number v (λ n ops. choose n (jump 0 m s k.here.func under ls ops labels c.args.label) (steps 0 (running s k.here.func under ls ops rest labels)))) c.in-Some.ensures.popped
          ∙ choose_first c.in-Some.test (jump 0 m s k.here.func under ls below labels c.args.label) (steps 0 (running s k.here.func under ls below rest labels)) c.if-test-ne0.true in
          f s outs (roomier m k _ (record { func = refl; operands = omega (arith, c.pop_number.ensures.holds); labels = omega arith; under = refl }) h) (subst (NextFits m outs) path fits))
          c.jump.ensures.lacks;
    }
