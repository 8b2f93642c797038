use Rattle.std.proofs.Common.{refl, map}
use Rattle.script_reader.specs.Views.{strand_of}
use Rattle.script_setup.specs.SetUpRules.{asked_from}
use Rattle.script_setup.specs.Views.{area_text_of}
use Rattle.script_setup.proofs.StrandLoops.{asked_last, asked_next}
use Rattle.script_setup.proofs.areas.asked_from.Goals as goal

pub loop-strand-init : goal.loop-strand-init
loop-strand-init c = refl

pub loop-strand-preserved : goal.loop-strand-preserved
loop-strand-preserved c =
    asked_next c.args.pages c.args.strands.now c.loop-strand.strand-index (area_text_of c.loop-strand.asked) (asked_from c.args.pages (area_text_of c.args.own) (map strand_of c.args.strands.now))
    c.loop-strand.invariant c.strand-item.result c.loop-strand-test.true c.strand-item.is (area_text_of c.worse-asked.result) c.worse-asked.ensures

pub returns : goal.returns
returns c =
    asked_last c.args.pages c.args.strands.now c.loop-strand.strand-index (area_text_of c.loop-strand.asked) (asked_from c.args.pages (area_text_of c.args.own) (map strand_of c.args.strands.now))
    c.loop-strand.invariant c.loop-strand-test.false
