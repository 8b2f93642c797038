use Rattle.strand_host.specs.StrandSetups.{area_of}
use Rattle.strand_host.proofs.SetupLoops.{mapped_end, mapped_on}
use Rattle.strand_host.proofs.setup.areas.Goals as goal

pub loop-part-preserved : goal.loop-part-preserved
loop-part-preserved c =
    mapped_on area_of c.args.parts.now c.loop-part.part-index c.part-item.result c.loop-part.areas.items c.push.new.self.items c.loop-part-test.true c.part-item.is c.loop-part.invariant
    c.in_ok-push.ensures.items

pub returns : goal.returns
returns c = mapped_end area_of c.args.parts.now c.loop-part.part-index c.loop-part.areas.items c.loop-part-test.false c.loop-part.invariant
