use Rattle.std.proofs.lemmas.Result.{IfOk-from_err}
use Rattle.interp_state.proofs.MakeLemmas.{fails_memory}
use Rattle.interp_state.proofs.make.open.Goals as goal

pub returns-in_err-tables : goal.returns-in_err-tables
returns-in_err-tables c = record {
  ok = IfOk-from_err c.from_residual.result _ c.from_residual.ensures.0;
  max = IfOk-from_err c.from_residual.result _ c.from_residual.ensures.0;
  err = fails_memory c.from_residual.result _ c.from_residual.ensures.1;
}

pub returns-in_err-values : goal.returns-in_err-values
returns-in_err-values c = record {
  ok = IfOk-from_err c.from_residual-in_err-values.result _ c.from_residual-in_err-values.ensures.0;
  max = IfOk-from_err c.from_residual-in_err-values.result _ c.from_residual-in_err-values.ensures.0;
  err = fails_memory c.from_residual-in_err-values.result _ c.from_residual-in_err-values.ensures.1;
}
