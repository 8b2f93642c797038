use Rattle.std.proofs.Common.{◌≡◌, ◌++◌, replicate}
use Rattle.flatten.proofs.locals.put_run.Given as goal

abbrev pub invariant-loop-i : goal.invariant-loop-i
invariant-loop-i l = l.out.items ≡ l.fn.out.items ++ replicate l.i l.fn.ty
