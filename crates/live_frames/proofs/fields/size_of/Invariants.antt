use Rattle.std.proofs.Common.{◌≡◌, take}
use Rattle.frame_laws.specs.Layout.{fields_size}
use Rattle.call_frames.specs.Views.{fields_of}
use Rattle.live_frames.proofs.fields.size_of.Given as goal

abbrev pub invariant-loop-field : goal.invariant-loop-field
invariant-loop-field l = l.size ≡ fields_size (fields_of (take l.field-index l.fields))
