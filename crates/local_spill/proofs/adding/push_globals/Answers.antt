use Rattle.std.proofs.lemmas.Result.{on_ok_weaker}
use Rattle.local_spill.proofs.Bodies.{two_behind}
use Rattle.local_spill.proofs.adding.push_globals.Goals as goal

pub returns : goal.returns
returns c = on_ok_weaker c.push_zero_global-2.result (two_behind _ _ _ _ _ c.in_ok-push_zero_global.ensures) c.push_zero_global-2.ensures
