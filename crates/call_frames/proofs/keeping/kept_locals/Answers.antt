use Rattle.std.proofs.Common.{arith, refl}
use Rattle.call_frames.proofs.FoundClasses.{kept_end, kept_few, kept_step}
use Rattle.call_frames.proofs.keeping.kept_locals.Goals as goal

pub loop-local-preserved : goal.loop-local-preserved
loop-local-preserved c =
    kept_step c.loop-local.kept.items c.put_kept.new.out.items _ c.args.set.now c.args.types.now c.loop-local.local _ _ (omega (arith, c.loop-local-test.true)) c.requires.size c.in_ok-put_kept.ensures
    refl refl c.loop-local.invariant

pub returns-clause-few : goal.returns-clause-few
returns-clause-few c =
    let m = kept_few c.loop-local.kept.items c.args.set.now c.args.types.now
    (kept_end c.loop-local.kept.items c.args.set.now c.args.types.now c.loop-local.local (omega (arith, c.loop-local-test.false)) c.loop-local.invariant) in
    omega (arith, c.requires.few)
