use Rattle.std.proofs.Common.{◌≡◌, ◌++◌, map, take}
use Rattle.flatten.specs.declared.numbers.TypeAt.{TypeAt}
use Rattle.flatten.proofs.locals.put_each_type.Given as goal

abbrev pub invariant-loop-pair : goal.invariant-loop-pair
invariant-loop-pair l = l.out.items ≡ l.fn.out.items ++ map (λ (p : TypeAt). p.ty) (take l.pair-index l.fn.pairs)
