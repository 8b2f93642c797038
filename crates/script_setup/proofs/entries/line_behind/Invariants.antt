use Rattle.std.proofs.Common.{◌≡◌, map}
use Rattle.script_reader.specs.Views.{strand_of}
use Rattle.script_setup.specs.Views.{line_among}
use Rattle.script_setup.proofs.StrandLoops.{entries_of_all, strands_left}
use Rattle.script_setup.proofs.entries.line_behind.Given as goal

abbrev pub invariant-loop-strand : goal.invariant-loop-strand
invariant-loop-strand l =
    line_among (entries_of_all (map strand_of l.strands)) l.fn.place ≡ line_among (entries_of_all (strands_left l.strands l.strand-index)) l.left
