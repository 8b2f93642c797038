use Rattle.run_laws.proofs.RewrittenByHand.{operand_lost, written_behind, raised_early, dummy_stored}
use Rattle.run_laws.proofs.by_hand.wrong_rewritings_are_told_apart.Goals as goal

pub returns-clause-operand : goal.returns-clause-operand
returns-clause-operand c = operand_lost

pub returns-clause-behind : goal.returns-clause-behind
returns-clause-behind c = written_behind

pub returns-clause-early : goal.returns-clause-early
returns-clause-early c = raised_early

pub returns-clause-dummy : goal.returns-clause-dummy
returns-clause-dummy c = dummy_stored
