use Rattle.std.proofs.Common.{◌≡◌, ◌≤◌, drop, length, take}
use Rattle.call_frames.specs.FrameParts.{parts_loaded, shared_size}
use Rattle.call_frames.specs.PlainFrames.{parts_of}
use Rattle.local_spill.specs.Putting.{Puts}
use Rattle.call_frames.specs.Views.{part_views}
use Rattle.live_frames.proofs.loading.put_parts_loaded.Given as goal

abbrev pub invariant-loop-left : goal.invariant-loop-left
invariant-loop-left l =
    (l.left ≤ length l.parts) × (l.offset ≡ shared_size (parts_of l.index (part_views (take l.left l.parts))))
    × Puts l.fn.out.items l.out.items (parts_loaded l.scratch l.offset (parts_of l.index (part_views (drop l.left l.parts))))

abbrev pub decreases-loop-left : goal.decreases-loop-left
decreases-loop-left l = l.left
