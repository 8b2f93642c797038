use Rattle.std.proofs.Common.{◌≡◌, ◌++◌, map, take}
use Rattle.run_theory.specs.FlatFits.{one_run}
use Rattle.func_rewrite.proofs.locals.put_each.Given as goal

abbrev pub invariant-loop-ty : goal.invariant-loop-ty
invariant-loop-ty l = l.out.items ≡ l.fn.out.items ++ map one_run (take l.ty-index l.types)
