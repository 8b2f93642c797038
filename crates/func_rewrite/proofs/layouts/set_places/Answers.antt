use Rattle.std.proofs.Common.{arith, refl}
use Rattle.func_rewrite.proofs.LayoutSteps.{set_end, set_step}
use Rattle.func_rewrite.proofs.layouts.set_places.Goals as goal

pub loop-local-preserved : goal.loop-local-preserved
loop-local-preserved c =
    set_step c.loop-local.places.items c.put_place.new.out.items c.args.set.now c.args.locals.now c.loop-local.local _ _ _ (omega (arith, c.loop-local-test.true)) c.requires.size
    c.in_ok-put_place.ensures refl refl c.loop-local.invariant

pub returns : goal.returns
returns c = set_end c.loop-local.places.items c.args.set.now c.args.locals.now c.loop-local.local (omega (arith, c.loop-local-test.false, c.requires.size)) c.loop-local.invariant
