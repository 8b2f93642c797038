use Rattle.std.proofs.Common.{arith, ◌≡◌, ◌+◌, ◌≤◌, length, map, reverse, refl, slice_get, unwrap_or, ap, sym, ◌∙◌, subst}
use Rattle.std.proofs.lemmas.Result.{IfOk-weaker, IfErr-weaker}
use Rattle.wa_types.specs.View.{module_of}
use Rattle.run_theory.specs.Fitting.{NextFits}
use Rattle.wa_model.specs.Step.{jump, with_number}
use Rattle.interp.specs.Told.{Tells}
use Rattle.interp_state.specs.View.{label_of, waiting_of, running_of}
use Rattle.interp.proofs.JumpLemmas.{table_unpaid}
use Rattle.interp.proofs.RoomKept.{roomier}
use Rattle.interp.proofs.branches.branch_by.Goals as goal

pub returns-then-left-more : goal.returns-then-left-more
returns-then-left-more c =
    let m = module_of c.args.program.now in
    let k = c.args.stack.now in
    let size = c.args.labels.now.ok.0 in
    let short : c.args.left ≤ length c.args.labels.now.items + 1 = omega arith in
    record {
      tells =
          λ s. (
            table_unpaid m s (length c.args.labels.now.items + 1) k.here.func (map waiting_of (reverse k.under.items)) k.here.locals.items (reverse k.here.operands.items)
                (map label_of (reverse k.here.labels.items)) (λ n. unwrap_or (slice_get c.args.labels.now.items n) c.args.last) c.args.left short,
            refl,
          );
      holds = λ m h. h;
      lacks = tt;
    }

pub returns : goal.returns
returns c =
    let m = module_of c.args.program.now in
    let k = c.args.stack.now in
    let under = map waiting_of (reverse k.under.items) in
    let ls = k.here.locals.items in
    let labels = map label_of (reverse k.here.labels.items) in
    let targets = c.args.labels.now.items in
    let more = length targets + 1 in
    let size = c.args.labels.now.ok.0 in
    let count : c.len.result + 1 ≡ more = omega arith in
    let enough = c.if-left-more.false in
    record {
      tells =
          IfOk-weaker c.jump.result _ _
          (λ f told s.
          let below = reverse c.pop_number.new.operands.items in
          let path =
          ap (λ n. jump n m s k.here.func under ls below labels c.target_of-label.result) count
          ∙ ap (jump more m s k.here.func under ls below labels) c.target_of-label.ensures
          ∙ ap (λ v. with_number v (λ n ops. jump more m s k.here.func under ls ops labels (unwrap_or (slice_get targets n) c.args.last))) (sym c.in-Some.ensures.popped) in
          subst (λ x. Tells s x c.args.left f (running_of s c.jump.new.stack)) path (told s c.args.left enough))
          c.jump.ensures.tells;
      holds = λ m h. c.jump.ensures.holds m (roomier m c.args.stack.now _ (record { func = refl; operands = omega (arith, c.pop_number.ensures.holds); labels = omega arith; under = refl }) h);
      lacks =
          IfErr-weaker c.jump.result _ _
          (λ e f s outs h fits.
          let below = reverse c.pop_number.new.operands.items in
          let path =
          ap (λ n. jump n m s k.here.func under ls below labels c.target_of-label.result) count
          ∙ ap (jump more m s k.here.func under ls below labels) c.target_of-label.ensures
          ∙ ap (λ v. with_number v (λ n ops. jump more m s k.here.func under ls ops labels (unwrap_or (slice_get targets n) c.args.last))) (sym c.in-Some.ensures.popped) in
          f s outs (roomier m k _ (record { func = refl; operands = omega (arith, c.pop_number.ensures.holds); labels = omega arith; under = refl }) h) (subst (NextFits m outs) (sym path) fits))
          c.jump.ensures.lacks;
    }
