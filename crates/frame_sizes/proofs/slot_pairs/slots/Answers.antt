use Rattle.std.proofs.Common.{arith}
use Rattle.std.specs.List.{list_any}
use Rattle.wa_types.specs.Frames.{greatest, pairs_from, stands_at}
use Rattle.frame_sizes.specs.Points.{lists_of}
use Rattle.frame_sizes.specs.Slots.{pairs_of}
use Rattle.frame_sizes.proofs.SlotLemmas.{height_put}
use Rattle.frame_sizes.proofs.slot_pairs.slots.Goals as goal

pub loop-height-preserved : goal.loop-height-preserved
loop-height-preserved c =
    let below = c.highest-height-end.ensures.value in
    height_put (λ h t. list_any (stands_at h t) (lists_of c.args.points.now)) c.loop-height.height (greatest (lists_of c.args.points.now)) (pairs_of c.loop-height.pairs.items)
    (pairs_of c.put_pair.new.pairs.items)
    (pairs_of c.put_pair-in-loop-height.new.pairs.items) (pairs_from (λ h t. list_any (stands_at h t) (lists_of c.args.points.now)) 0 (greatest (lists_of c.args.points.now)))
    c.stands-narrow.result c.stands-wide.result (omega (arith, c.loop-height-test.true, below)) c.stands-narrow.ensures c.stands-wide.ensures c.loop-height.invariant c.in_ok-put_pair.ensures
    c.in_ok-put_pair-2.ensures
