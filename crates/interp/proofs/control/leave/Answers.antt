use Rattle.std.proofs.Common.{arith, refl}
use Rattle.std.proofs.lemmas.Result.{IfOk-from_err}
use Rattle.interp.proofs.RoomKept.{err_any, leave_lacked, leave_holds}
use Rattle.interp.proofs.control.leave.Goals as goal

pub returns-in_err-hand_over : goal.returns-in_err-hand_over
returns-in_err-hand_over c = record {
  tells = IfOk-from_err c.from_residual.result _ c.from_residual.ensures.0;
  holds =
      λ m h. leave_holds m c.args.stack.now c.in-Some.caller c.pop.new.self.items _ c.replace-callee.new.dest c.in-Some.ensures.items c.replace-callee.ensures.after refl refl
      c.hand_over.ensures.holds (omega arith) h;
  lacks =
      err_any c.from_residual.result _
      (λ e m s outs h fits. leave_lacked m outs c.args.stack.now s c.args.more c.args.arity c.in-Some.caller c.pop.new.self.items c.replace-callee.result c.replace-callee.new.dest
      c.in-Some.ensures.items c.replace-callee.ensures.value c.replace-callee.ensures.after c.in_err-hand_over.ensures.lacks h fits);
}

pub returns-clause-holds : goal.returns-clause-holds
returns-clause-holds c =
    λ m h. leave_holds m c.args.stack.now c.in-Some.caller c.pop.new.self.items _ c.replace-callee.new.dest c.in-Some.ensures.items c.replace-callee.ensures.after refl refl
    c.hand_over.ensures.holds (omega arith) h
