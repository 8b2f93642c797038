use Rattle.std.proofs.Common.{arith, ap, ◌∙◌, ◌≡◌, length, max}
use Rattle.frame_sizes.proofs.SlotLemmas.{highest_more}
use Rattle.frame_sizes.proofs.slot_pairs.highest.Goals as goal

pub loop-ops-preserved : goal.loop-ops-preserved
loop-ops-preserved c = (
  highest_more c.args.points.now c.loop-ops.ops-index c.ops-item.result c.loop-ops.most c.max-most.result (omega (arith, c.loop-ops-test.true)) c.ops-item.is c.loop-ops.invariant.0
      (let n : c.len.result ≡ length c.ops-item.result.items = omega (arith, c.len.ensures, c.ops-item.result.ok) in c.max-most.ensures ∙ ap (λ k. max k c.loop-ops.most) n),
  grind (arith, c.max-most.ensures, c.len.ensures, c.len.type_inv, c.loop-ops.invariant.1),
)
