use Rattle.std.proofs.Common.{◌≡◌, ◌++◌, map}
use Rattle.host_setup.specs.Views.{entry_of as named_entry_of}
use Rattle.script_reader.specs.Views.{program_of}
use Rattle.script_setup.specs.SetUpRules.{entries_in, named_entry}
use Rattle.script_setup.proofs.StrandLoops.{entries_of_all, strands_left}
use Rattle.script_setup.proofs.entries.all_entries.Given as goal

abbrev pub invariant-loop-strand : goal.invariant-loop-strand
invariant-loop-strand l =
    map named_entry (entries_in (program_of l.text)) ≡ map named_entry_of l.entries.items ++ map named_entry (entries_of_all (strands_left l.strand-items l.strand-index))
