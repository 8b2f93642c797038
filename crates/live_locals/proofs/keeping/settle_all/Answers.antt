use Rattle.std.proofs.Common.{arith}
use Rattle.live_locals.proofs.KeepingLemmas.{all_begin, all_end, all_next}
use Rattle.live_locals.proofs.keeping.settle_all.Goals as goal

pub loop-local-init : goal.loop-local-init
loop-local-init c = all_begin c.args.set.now c.args.keeping.now c.requires

pub settle-requires : goal.settle-requires
settle-requires c = c.loop-local.invariant.stands

pub loop-local-preserved : goal.loop-local-preserved
loop-local-preserved c = all_next c.args.set.now c.loop-local.local c.args.keeping.now c.loop-local.keeping c.settle.new.keeping c.loop-local.invariant c.in_ok-settle.ensures

pub returns : goal.returns
returns c = all_end c.args.set.now c.loop-local.local c.args.keeping.now c.loop-local.keeping (omega (arith, c.loop-local-test.false)) c.loop-local.invariant
