use Rattle.std.proofs.Common.{◌≡◌, ◌++◌}
use Rattle.live_locals.proofs.keeping.all_told.Given as goal

abbrev pub invariant-loop-later : goal.invariant-loop-later
invariant-loop-later l = l.all.items ++ l.later-iterator.rest.items ≡ l.fn.keeping.rows.items
