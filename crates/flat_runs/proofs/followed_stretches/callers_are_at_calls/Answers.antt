use Rattle.flat_runs.proofs.WaitingCalls as W
use Rattle.flat_runs.proofs.followed_stretches.callers_are_at_calls.Goals as goal

pub returns : goal.returns
returns c = λ m which g under under2 h. W.callers_at_calls m which g under under2 h
