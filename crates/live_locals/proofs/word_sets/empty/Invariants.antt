use Rattle.std.proofs.Common.{◌≡◌, ℕ, ◌<◌, get_or}
use Rattle.live_locals.proofs.word_sets.empty.Given as goal

abbrev pub invariant-loop-word : goal.invariant-loop-word
invariant-loop-word l = (x : ℕ) → x < l.word-index → get_or l.set x 0 ≡ 0
