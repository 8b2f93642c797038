use Rattle.std.proofs.Common.{drop}
use Rattle.strand_host.specs.StrandSetups.{items_of}
use Rattle.strand_host.proofs.SetupLoops.{Starting}
use Rattle.strand_host.proofs.setup.at_start.Given as goal

abbrev pub invariant-loop-own : goal.invariant-loop-own
invariant-loop-own l = Starting l.fn.parts.items (items_of l.funcs) l.rest.items (items_of (drop l.own-index l.funcs)) l.strands.items
