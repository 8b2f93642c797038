use Rattle.std.proofs.Common.{arith, refl}
use Rattle.wa_types.specs.declared.values.ValType.TheVariants.{I32}
use Rattle.func_rewrite.proofs.FrameLemmas.{saved_step}
use Rattle.func_rewrite.proofs.frames.saved_places.Goals as goal

pub loop-local-preserved : goal.loop-local-preserved
loop-local-preserved c = saved_step c.loop-local.places.items _ c.args.locals.now c.loop-local.local _ I32
    (omega (arith, c.loop-local-test.true, c.requires)) c.in_ok-push.ensures.items refl refl c.loop-local.invariant
