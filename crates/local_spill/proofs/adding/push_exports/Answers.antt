-- The five exports, one behind another.
use Rattle.std.proofs.lemmas.Result.{on_ok_weaker}
use Rattle.local_spill.proofs.Bodies.{five_behind}
use Rattle.local_spill.proofs.adding.push_exports.Goals as goal

pub returns : goal.returns
returns c =
    on_ok_weaker c.push_export-5.result
    (five_behind _ _ _ _ _ _ _ _ _ _ _ c.in_ok-push_export.ensures c.in_ok-push_export-2.ensures c.in_ok-push_export-3.ensures c.in_ok-push_export-4.ensures)
    c.push_export-5.ensures
