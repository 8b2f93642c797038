use Rattle.std.proofs.Common.{◌≡◌, drop, reverse}
use Rattle.run_theory.specs.Flat.{Stmts}
use Rattle.flatten.specs.Emitting.{all_carried, onto_stmts}
use Rattle.flatten.proofs.jumps.put_carries.Given as goal

abbrev pub invariant-loop-label : goal.invariant-loop-label
invariant-loop-label l =
    (k : Stmts) → onto_stmts l.out.items (all_carried (reverse l.fn.labels) (drop l.label-index l.fn.targets) l.fn.from k)
    ≡ onto_stmts l.fn.out.items (all_carried (reverse l.fn.labels) l.fn.targets l.fn.from k)
