use Rattle.validate_bodies.proofs.Trees.{whole}
use Rattle.validate_bodies.proofs.bodies.check_whole.Goals as goal

pub returns-in-Ok : goal.returns-in-Ok
returns-in-Ok c = whole _ _ _ _ _ c.clear.ensures.items c.result-result.ensures c.in-Ok.ensures.judged

pub returns-in-Err-Breaks : goal.returns-in-Err-Breaks
returns-in-Err-Breaks c = whole _ _ _ _ _ c.clear.ensures.items c.result-result.ensures (rw c.in-Err-Breaks.field-0-is at c.in-Err-Breaks.ensures.judged)
