use Rattle.std.proofs.Common.{◌≡◌, ◌++◌, map}
use Rattle.many_host.proofs.host.held_programs.Given as goal

-- those that are held, and those to come
abbrev pub invariant-loop-program : goal.invariant-loop-program
invariant-loop-program l = map (λ x. x.program) l.held.items ++ l.program-iterator.rest.items ≡ l.fn.programs.items
