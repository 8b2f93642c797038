use Rattle.std.proofs.Common.{◌≡◌, ◌++◌, ◌∷◌}
use Rattle.strand_host.proofs.setup.in_front.Given as goal

abbrev pub invariant-loop-part : goal.invariant-loop-part
invariant-loop-part l = l.fn.first ∷ l.fn.others.items ≡ l.parts.items ++ l.part-iterator.rest.items
