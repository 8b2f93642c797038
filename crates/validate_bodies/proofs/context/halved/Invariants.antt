use Rattle.std.proofs.Common.{◌≤◌, ◌<◌, ◌-◌, suc, take, length}
use Rattle.validate_bodies.specs.Spaces.{total}
use Rattle.validate_bodies.proofs.context.halved.Given as goal

abbrev pub invariant-loop-low : goal.invariant-loop-low
invariant-loop-low l = record {
  ordered : l.low ≤ l.high;
  within : l.high ≤ length l.runs;
  before : total (take l.low l.runs) ≤ l.x;
  behind : l.high < length l.runs → l.x < total (take (suc l.high) l.runs);
}

abbrev pub decreases-loop-low : goal.decreases-loop-low
decreases-loop-low l = l.high - l.low
