use Rattle.std.proofs.Common.{◌≡◌, ℕ, ◌<◌, get_or}
use Rattle.live_locals.specs.Sets.{has}
use Rattle.live_locals.specs.Words.{meets}
use Rattle.live_locals.proofs.levels.met.Given as goal

abbrev pub invariant-loop-local : goal.invariant-loop-local
invariant-loop-local l = (x : ℕ) → x < l.local → has l.set x ≡ meets (get_or l.words x 0) (get_or l.reach x 0)
