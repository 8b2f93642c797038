use Rattle.std.proofs.Common.{◌≡◌, take}
use Rattle.call_frames.specs.FrameParts.{parts_stored, shared_size}
use Rattle.call_frames.specs.PlainFrames.{parts_of}
use Rattle.local_spill.specs.Putting.{Puts}
use Rattle.call_frames.specs.Views.{part_views}
use Rattle.live_frames.proofs.storing.put_parts_stored.Given as goal

abbrev pub invariant-loop-part : goal.invariant-loop-part
invariant-loop-part l =
    (l.offset ≡ shared_size (parts_of l.index (part_views (take l.part-index l.parts))))
    × Puts l.fn.out.items l.out.items (parts_stored l.scratch 0 (parts_of l.index (part_views (take l.part-index l.parts))))
