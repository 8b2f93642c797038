use Rattle.std.proofs.Common.{◌≡◌, ℕ, take}
use Rattle.call_frames.specs.FrameParts.{shared_size}
use Rattle.call_frames.specs.PlainFrames.{parts_of}
use Rattle.call_frames.specs.Views.{part_views}
use Rattle.live_frames.proofs.fields.shared_of.Given as goal

abbrev pub invariant-loop-part : goal.invariant-loop-part
invariant-loop-part l = (index : ℕ) → l.size ≡ shared_size (parts_of index (part_views (take l.part-index l.parts)))
