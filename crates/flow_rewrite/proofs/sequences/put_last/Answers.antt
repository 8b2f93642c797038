use Rattle.wa_types.specs.View.{code}
use Rattle.flow_rewrite.specs.Emitting.{indices}
use Rattle.flow_rewrite.proofs.ExitLemmas.{last_guarded, last_plain, last_returns}
use Rattle.flow_rewrite.proofs.sequences.put_last.Goals as goal

pub returns-in_ok-put_guarded-in-End : goal.returns-in_ok-put_guarded-in-End
returns-in_ok-put_guarded-in-End c = last_guarded (indices c.args.guards.now) c.args.exit (code c.args.piece.now) _ _ c.in-End.is c.in_ok-put_guarded-in-End.ensures

pub returns-in_ok-push-in-FunctionEnd : goal.returns-in_ok-push-in-FunctionEnd
returns-in_ok-push-in-FunctionEnd c =
    last_returns (indices c.args.guards.now) c.args.exit (code c.args.piece.now) _ _ _ c.in-FunctionEnd.is c.in_ok-put_raised-in-FunctionEnd.ensures c.in_ok-push-in-FunctionEnd.ensures.items

pub returns-in_ok-put_raised-in_default : goal.returns-in_ok-put_raised-in_default
returns-in_ok-put_raised-in_default c =
    last_plain (indices c.args.guards.now) c.args.exit (code c.args.piece.now) _ _ c.in_default.not-End c.in_default.not-FunctionEnd c.in_ok-put_raised-in_default.ensures
