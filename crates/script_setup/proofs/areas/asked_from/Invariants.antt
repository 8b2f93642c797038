use Rattle.std.proofs.Common.{◌≡◌, map}
use Rattle.script_reader.specs.Views.{strand_of}
use Rattle.script_setup.specs.SetUpRules.{asked_from}
use Rattle.script_setup.specs.Views.{area_text_of}
use Rattle.script_setup.proofs.StrandLoops.{strands_left}
use Rattle.script_setup.proofs.areas.asked_from.Given as goal

abbrev pub invariant-loop-strand : goal.invariant-loop-strand
invariant-loop-strand l = asked_from l.pages (area_text_of l.fn.own) (map strand_of l.strands) ≡ asked_from l.pages (area_text_of l.asked) (strands_left l.strands l.strand-index)
