use Rattle.std.proofs.Common.{arith}
use Rattle.local_spill.proofs.PutLemmas.{loaded_step, loaded_end}
use Rattle.local_spill.proofs.putting.put_locals_loaded.Goals as goal

pub loop-place-preserved : goal.loop-place-preserved
loop-place-preserved c = loaded_step _ _ _ _ c.args.places.now c.loop-place.place-index _ (omega (arith, c.loop-place-test.true)) c.loop-place.invariant c.in_ok-put_loaded.ensures

pub returns : goal.returns
returns c = loaded_end _ _ _ c.args.places.now c.loop-place.place-index (omega (arith, c.loop-place-test.false)) c.loop-place.invariant
