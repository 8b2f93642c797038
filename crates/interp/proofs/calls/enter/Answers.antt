use Rattle.std.proofs.Common.{List, refl, ap, ◌++◌, ◌∙◌, map}
use Rattle.std.proofs.lemmas.Result.{IfOk-from_err}
use Rattle.wa_types.specs.declared.syntax.Run.{Run}
use Rattle.wa_types.specs.Modules.{declared_locals}
use Rattle.wa_types.specs.View.{code, func_of}
use Rattle.wa_model.specs.Step.{zero_of}
use Rattle.interp.proofs.calls.enter.Goals as goal

pub returns : goal.returns
returns c =
    let reserved = c.room-room.ensures (func_of c.args.callee.now) c.requires in
    record {
      entered = record {
        func_is = refl;
        locals =
            c.in_ok-make_locals.ensures ∙ ap (λ (runs : List Run). c.args.args.now ++ map zero_of (declared_locals runs)) c.deref.ensures.value;
        operands = c.in_ok-with_capacity.ensures.items;
        code_is = ap code c.as_slice.ensures.value;
        labels = c.in_ok-with_capacity-2.ensures.items;
      };
      reserves = record {
        operands = c.in_ok-with_capacity.ensures.exact ∙ ap (λ r. r.operands) reserved;
        labels = c.in_ok-with_capacity-2.ensures.exact ∙ ap (λ r. r.labels) reserved;
      };
    }

pub returns-in_err-make_locals : goal.returns-in_err-make_locals
returns-in_err-make_locals c = record {
  entered = IfOk-from_err c.from_residual.result _ c.from_residual.ensures.0;
  reserves = IfOk-from_err c.from_residual.result _ c.from_residual.ensures.0;
}

pub returns-in_err-with_capacity : goal.returns-in_err-with_capacity
returns-in_err-with_capacity c = record {
  entered = IfOk-from_err c.from_residual-in_err-with_capacity.result _ c.from_residual-in_err-with_capacity.ensures.0;
  reserves = IfOk-from_err c.from_residual-in_err-with_capacity.result _ c.from_residual-in_err-with_capacity.ensures.0;
}

pub returns-in_err-with_capacity-2 : goal.returns-in_err-with_capacity-2
returns-in_err-with_capacity-2 c = record {
  entered = IfOk-from_err c.from_residual-in_err-with_capacity-2.result _ c.from_residual-in_err-with_capacity-2.ensures.0;
  reserves = IfOk-from_err c.from_residual-in_err-with_capacity-2.result _ c.from_residual-in_err-with_capacity-2.ensures.0;
}
