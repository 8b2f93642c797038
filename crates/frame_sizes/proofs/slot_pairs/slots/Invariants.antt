use Rattle.std.proofs.Common.{◌≡◌, ◌++◌, ◌-◌}
use Rattle.std.specs.List.{list_any}
use Rattle.wa_types.specs.Frames.{greatest, pairs_from, stands_at}
use Rattle.frame_sizes.specs.Points.{lists_of}
use Rattle.frame_sizes.specs.Slots.{pairs_of}
use Rattle.frame_sizes.proofs.slot_pairs.slots.Given as goal

abbrev pub invariant-loop-height : goal.invariant-loop-height
invariant-loop-height l =
    pairs_of l.pairs.items ++ pairs_from (λ h t. list_any (stands_at h t) (lists_of l.points)) l.height (greatest (lists_of l.points) - l.height)
    ≡ pairs_from (λ h t. list_any (stands_at h t) (lists_of l.points)) 0 (greatest (lists_of l.points))
