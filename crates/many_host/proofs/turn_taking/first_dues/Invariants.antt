use Rattle.std.proofs.Common.{◌≡◌, map, take, Some}
use Rattle.many_host.proofs.turn_taking.first_dues.Given as goal

abbrev pub invariant-loop : goal.invariant-loop
invariant-loop g l = l.dues.items ≡ map (λ x. Some 0) (take l.index l.programs)
