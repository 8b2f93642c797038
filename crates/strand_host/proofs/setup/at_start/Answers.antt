use Rattle.std.proofs.Common.{ap, drop}
use Rattle.strand_host.specs.StrandSetups.{items_of}
use Rattle.strand_host.proofs.SetupLoops.{all_gone, start_all}
use Rattle.strand_host.proofs.setup.at_start.Goals as goal

pub returns : goal.returns
returns c =
    start_all c.args.parts.items (items_of c.args.funcs.now) c.loop-own.rest.items (items_of (drop c.loop-own.own-index c.args.funcs.now)) c.loop-own.strands.items c.loop-own.invariant
    (ap items_of (all_gone c.args.funcs.now c.loop-own.own-index c.loop-own-test.false))
