use Rattle.std.proofs.Common.{Some, get_or, refl}
use Rattle.strand_host.specs.declared.plan.StrandPart.{StrandPart}
use Rattle.strand_host.proofs.SetupLoops.{mapped_counted, mapped_end}
use Rattle.strand_host.proofs.setup.all_due.Goals as goal

pub loop-part-preserved : goal.loop-part-preserved
loop-part-preserved c =
    mapped_counted (Some 0) c.args.parts.now c.loop-part._part-index c.loop-part.dues.items c.push.new.self.items c.loop-part-test.true c.loop-part.invariant c.in_ok-push.ensures.items

pub returns : goal.returns
returns c = mapped_end (λ (s : StrandPart). Some 0) c.args.parts.now c.loop-part._part-index c.loop-part.dues.items c.loop-part-test.false c.loop-part.invariant
