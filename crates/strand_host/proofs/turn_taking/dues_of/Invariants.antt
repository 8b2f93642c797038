use Rattle.std.proofs.Common.{◌≡◌, map, take}
use Rattle.strand_host.proofs.turn_taking.dues_of.Given as goal

-- those of the programs so far
abbrev pub invariant-loop-program : goal.invariant-loop-program
invariant-loop-program g l = l.dues.items ≡ map g.T.Weaver.due_at (take l.program-index l.programs)
