use Rattle.std.proofs.Common.{[], map, ◌∙◌}
use Rattle.script_reader.specs.Views.{strand_of}
use Rattle.script_setup.specs.SetUpRules.{entries_then}
use Rattle.script_setup.specs.Views.{line_among}
use Rattle.script_setup.proofs.StrandLoops.{line_found, line_passed}
use Rattle.script_setup.proofs.entries.line_behind.Goals as goal

pub returns-in-Some : goal.returns-in-Some
returns-in-Some c =
    line_found c.args.strands.now c.loop-strand.strand-index c.strand-item.result c.loop-strand.left (line_among (entries_then [] (map strand_of c.args.strands.now)) c.args.place)
    c.loop-strand-test.true c.strand-item.is c.loop-strand.invariant c.deref.result.now c.deref.ensures.value c.in-Some.entry.now c.in-Some.ensures.lookup.3.0 c.in-Some.ensures.lookup.1

pub loop-strand-preserved : goal.loop-strand-preserved
loop-strand-preserved c =
    line_passed c.args.strands.now c.loop-strand.strand-index c.strand-item.result c.loop-strand.left (line_among (entries_then [] (map strand_of c.args.strands.now)) c.args.place)
    c.loop-strand-test.true c.strand-item.is c.loop-strand.invariant c.deref.result.now c.deref.ensures.value c.len-left.result
    (c.len-left.ensures ∙ c.strand-item.result.entries.ok.0) c.in-None.ensures.lookup.3
