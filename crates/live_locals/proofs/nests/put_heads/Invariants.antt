use Rattle.std.proofs.Common.{◌≡◌, ◌++◌, length, reverse}
use Rattle.live_locals.proofs.nests.put_heads.Given as goal

abbrev pub invariant-loop-entry : goal.invariant-loop-entry
invariant-loop-entry l = l.more.items ++ reverse l.heads.items ≡ l.fn.more.items ++ reverse l.fn.heads.items

abbrev pub decreases-loop-entry : goal.decreases-loop-entry
decreases-loop-entry l = length l.more.items
