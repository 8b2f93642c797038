use Rattle.std.proofs.Common.{◌≡◌, ℕ, ◌<◌, take}
use Rattle.live_locals.specs.Words.{world}
use Rattle.live_locals.proofs.levels.broadcast.Given as goal

abbrev pub invariant-loop-told : goal.invariant-loop-told
invariant-loop-told l = (i : ℕ) → i < 64 → world i l.words.items ≡ take l.told-index l.set
