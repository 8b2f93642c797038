use Rattle.std.proofs.Common.{arith, ◌<◌, ◌++◌, vec_capacity, ◌≡◌, ◌-◌, length, map, reverse, take, slice_get, refl, ap, sym, ◌∙◌, subst}
use Rattle.wa_types.specs.View.{code, module_of}
use Rattle.std.proofs.lemmas.Result.{IfOk-from_err, IfOk-weaker, IfErr-weaker}
use Rattle.wa_model.specs.Configuration.{running}
use Rattle.run_theory.specs.Fitting.{NextFits}
use Rattle.wa_model.specs.Step.{keep, leave}
use Rattle.interp.specs.Stacks.{leave_of, jump_of}
use Rattle.interp.specs.Told.{Tells}
use Rattle.interp_state.specs.View.{count_of, label_of, waiting_of, running_of}
use Rattle.interp_state.proofs.OperandLemmas.{last_split, keep_is, none_last}
use Rattle.interp.proofs.JumpLemmas.{at_block, at_loop, at_next, at_none}
use Rattle.interp.proofs.RoomKept.{err_any, operands_within, roomier}
use Rattle.interp.proofs.control.jump.Goals as goal

pub returns-in_ok-carry-in-Block : goal.returns-in_ok-carry-in-Block
returns-in_ok-carry-in-Block c =
    let m = module_of c.args.program.now in
    let k = c.loop-entry.stack in
    let under = map waiting_of (reverse k.under.items) in
    let ls = k.here.locals.items in
    let ops = reverse k.here.operands.items in
    let labels = k.here.labels.items in
    let last = ap (λ v. slice_get v (length v - 1)) (sym c.deref.ensures.value) ∙ sym c.in-Some.ensures.value in
    let size = k.here.labels.ok.0 in
    let rest : c.pop.new.self.items ≡ take (length labels - 1) labels = c.pop.ensures.rest ∙ ap (λ n. take (n - 1) labels) size in
    let split = last_split labels c.pop.new.self.items c.in-Some.entry.now rest last in
    record {
      tells =
          λ s left paid. (
            sym (c.loop-entry.invariant.path s)
                ∙ at_block m s c.args.more k.here.func under ls ops
                labels c.pop.new.self.items c.in-Some.entry.now c.in-Block.height c.loop-entry.passed c.in-Block.carries c.in-Block.rest c.in-Block.skipped (reverse c.carry.new.operands.items)
                split c.in-Block.is c.if-passed-eq0.true c.in_ok-carry-in-Block.ensures.keeps,
            paid,
          );
      holds = λ m h. roomier m c.args.stack.now _ (record { func = c.loop-entry.invariant.roomier.func; operands = omega (arith, c.loop-entry.invariant.roomier.operands, c.carry.ensures.holds); labels = omega (arith, c.loop-entry.invariant.roomier.labels, c.pop.ensures.capacity); under = c.loop-entry.invariant.roomier.under }) h;
      lacks = tt;
    }

pub returns-in-Loop : goal.returns-in-Loop
returns-in-Loop c =
    let m = module_of c.args.program.now in
    let k = c.loop-entry.stack in
    let under = map waiting_of (reverse k.under.items) in
    let ls = k.here.locals.items in
    let ops = reverse k.here.operands.items in
    let labels = k.here.labels.items in
    let last = ap (λ v. slice_get v (length v - 1)) (sym c.deref.ensures.value) ∙ sym c.in-Some.ensures.value in
    let split = last_split labels (take (length labels - 1) labels) c.in-Some.entry.now refl last in
    let kept = ap reverse c.truncate.ensures.items ∙ sym (keep_is c.in-Loop.height k.here.operands.items) in
    record {
      tells =
          λ s left paid. (
            sym (c.loop-entry.invariant.path s)
                ∙ at_loop m s c.args.more k.here.func under ls ops
                labels (take (length labels - 1) labels) c.in-Some.entry.now c.in-Loop.height c.loop-entry.passed c.in-Loop.body c.in-Loop.rest (reverse c.truncate.new.self.items)
                split c.in-Loop.is c.if-passed-eq0.true kept,
            paid,
          );
      holds = λ m h. roomier m c.args.stack.now _ (record { func = c.loop-entry.invariant.roomier.func; operands = omega (arith, c.loop-entry.invariant.roomier.operands, c.truncate.ensures.capacity); labels = c.loop-entry.invariant.roomier.labels; under = c.loop-entry.invariant.roomier.under }) h;
      lacks = tt;
    }

pub loop-entry-preserved : goal.loop-entry-preserved
loop-entry-preserved c =
    let m = module_of c.args.program.now in
    let k = c.loop-entry.stack in
    let under = map waiting_of (reverse k.under.items) in
    let ls = k.here.locals.items in
    let ops = reverse k.here.operands.items in
    let labels = k.here.labels.items in
    let last = ap (λ v. slice_get v (length v - 1)) (sym c.deref.ensures.value) ∙ sym c.in-Some.ensures.value in
    let size = k.here.labels.ok.0 in
    let rest : c.pop-in-Some.new.self.items ≡ take (length labels - 1) labels = c.pop-in-Some.ensures.rest ∙ ap (λ n. take (n - 1) labels) size in
    let split = last_split labels c.pop-in-Some.new.self.items c.in-Some.entry.now rest last in
    record {
      path = λ s.
          at_next m s c.args.more k.here.func under ls ops labels c.pop-in-Some.new.self.items c.in-Some.entry.now c.loop-entry.passed split c.if-passed-eq0.false
          ∙ c.loop-entry.invariant.path s;
      roomier = record {
        func = c.loop-entry.invariant.roomier.func;
        operands = c.loop-entry.invariant.roomier.operands;
        labels = omega (arith, c.loop-entry.invariant.roomier.labels, c.pop-in-Some.ensures.capacity);
        under = c.loop-entry.invariant.roomier.under;
      };
    }

pub returns : goal.returns
returns c =
    let m = module_of c.args.program.now in
    let k = c.loop-entry.stack in
    let under = map waiting_of (reverse k.under.items) in
    let ops = reverse k.here.operands.items in
    let labels = k.here.labels.items in
    let last = ap (λ v. slice_get v (length v - 1)) (sym c.deref.ensures.value) ∙ sym c.in_default.ensures.value in
    let none = none_last labels last in
    record {
      tells =
          IfOk-weaker c.leave.result _ _
          (λ f told s left paid.
          let same : leave_of s c.args.more k c.func_results.result ≡ jump_of m s c.args.more c.args.stack.now c.args.label =
          ap (λ n. leave c.args.more s ops n under) c.func_results.ensures
          ∙ sym (at_none m s c.args.more k.here.func under k.here.locals.items ops labels c.loop-entry.passed none)
          ∙ c.loop-entry.invariant.path s in
          subst (λ x. Tells s x left f (running_of s c.leave.new.stack)) same (told s left paid))
          c.leave.ensures.tells;
      holds = λ m h. c.leave.ensures.holds m (roomier m c.args.stack.now c.loop-entry.stack c.loop-entry.invariant.roomier h);
      lacks =
          IfErr-weaker c.leave.result _ _
          (λ e f s outs h fits.
          let same : leave_of s c.args.more k c.func_results.result ≡ jump_of m s c.args.more c.args.stack.now c.args.label =
          ap (λ n. leave c.args.more s ops n under) c.func_results.ensures
          ∙ sym (at_none m s c.args.more k.here.func under k.here.locals.items ops labels c.loop-entry.passed none)
          ∙ c.loop-entry.invariant.path s in
          f m s outs (roomier m c.args.stack.now k c.loop-entry.invariant.roomier h) (subst (NextFits m outs) (sym same) fits))
          c.leave.ensures.lacks;
    }

pub returns-in_err-carry-in-Block : goal.returns-in_err-carry-in-Block
returns-in_err-carry-in-Block c =
    let m = module_of c.args.program.now in
    let k = c.loop-entry.stack in
    let under = map waiting_of (reverse k.under.items) in
    let ls = k.here.locals.items in
    let ops = reverse k.here.operands.items in
    let labels = k.here.labels.items in
    let last = ap (λ v. slice_get v (length v - 1)) (sym c.deref.ensures.value) ∙ sym c.in-Some.ensures.value in
    let split = last_split labels (take (length labels - 1) labels) c.in-Some.entry.now refl last in
    let ops' = take (count_of c.in-Block.carries) ops ++ keep c.in-Block.height ops in
    record {
      tells = IfOk-from_err c.from_residual.result _ c.from_residual.ensures.0;
      holds = λ m h. roomier m c.args.stack.now _ (record { func = c.loop-entry.invariant.roomier.func; operands = omega (arith, c.loop-entry.invariant.roomier.operands, c.carry.ensures.holds); labels = c.loop-entry.invariant.roomier.labels; under = c.loop-entry.invariant.roomier.under }) h;
      lacks =
          err_any c.from_residual.result _
          (λ e s outs h fits.
          let path = at_block m s c.args.more k.here.func under ls ops labels (take (length labels - 1) labels) c.in-Some.entry.now c.in-Block.height c.loop-entry.passed c.in-Block.carries
          c.in-Block.rest c.in-Block.skipped ops' split c.in-Block.is c.if-passed-eq0.true refl in
          let room = roomier m c.args.stack.now k c.loop-entry.invariant.roomier h in
          let within = operands_within m outs (jump_of m s c.args.more c.args.stack.now c.args.label) c.args.more
          (running s k.here.func under ls ops' (code c.in-Block.rest.now) (map label_of (reverse (take (length labels - 1) labels)))) (vec_capacity k.here.operands)
          (sym (c.loop-entry.invariant.path s) ∙ path) fits room.here.operands in
          let lacking : vec_capacity k.here.operands < length ops' = c.in_err-carry-in-Block.ensures.lacks in
          omega arith);
    }
