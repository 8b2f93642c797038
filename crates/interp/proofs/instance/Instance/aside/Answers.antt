use Rattle.interp.specs.Host.{code_in, store_in}
use Rattle.interp.proofs.FittingTurns.{calls_fit_again}
use Rattle.interp.proofs.RoomKept.{err_any}
use Rattle.interp.proofs.instance.Instance.aside.Goals as goal

pub returns-clause-calls : goal.returns-clause-calls
returns-clause-calls c = λ ok typed. (_, c.in_ok-turn.ensures.calls c.valid_code.ensures ok typed)

pub returns-clause-again : goal.returns-clause-again
returns-clause-again c = λ there ok typed.
    (calls_fit_again (code_in c.args.self.now) c.valid_code.ensures (store_in c.args.self.now) c.args.func c.args.args.now c.args.steps.now.left _ c.in_ok-turn.turn _ _
    there typed ok (c.in_ok-turn.ensures.calls c.valid_code.ensures ok typed)).0

pub returns-in_err-turn-clause-lacks : goal.returns-in_err-turn-clause-lacks
returns-in_err-turn-clause-lacks c = err_any c.from_residual.result _ (λ e ok typed. c.in_err-turn.ensures.lacks c.valid_code.ensures ok typed)
