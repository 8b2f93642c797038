use Rattle.std.proofs.Common.{◌≡◌, ◌++◌, ◌+◌, drop, slice_get}
use Rattle.wa_types.specs.Frames.{slot_places}
use Rattle.call_graph.specs.Settings.{policy_of}
use Rattle.frame_sizes.specs.Points.{lists_of}
use Rattle.frame_sizes.specs.Slots.{pairs_of}
use Rattle.frame_sizes.specs.Frames.{keep_slot, places_of}
use Rattle.frame_sizes.proofs.frames.put_slots.Given as goal

abbrev pub invariant-loop-index : goal.invariant-loop-index
invariant-loop-index l =
    places_of l.places.items ++ slot_places (keep_slot (policy_of l.policy) (slice_get (lists_of l.calls) l.place)) (l.first + l.index) (pairs_of (drop l.index l.slots))
    ≡ places_of l.fn.places.items ++ slot_places (keep_slot (policy_of l.policy) (slice_get (lists_of l.calls) l.place)) l.first (pairs_of l.slots)
