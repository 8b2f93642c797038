use Rattle.std.proofs.Common.{◌≡◌, ℕ, ◌<◌, get_or, false}
use Rattle.live_locals.proofs.sets.empty.Given as goal

abbrev pub invariant-loop-told : goal.invariant-loop-told
invariant-loop-told l = (x : ℕ) → x < l.told-index → get_or l.set x false ≡ false
