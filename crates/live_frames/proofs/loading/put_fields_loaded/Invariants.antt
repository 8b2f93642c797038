use Rattle.std.proofs.Common.{◌≡◌, ◌+◌, take}
use Rattle.frame_laws.specs.Layout.{fields_size, loads}
use Rattle.local_spill.specs.Putting.{Puts}
use Rattle.call_frames.specs.Views.{fields_of}
use Rattle.live_frames.proofs.loading.put_fields_loaded.Given as goal

abbrev pub invariant-loop-field : goal.invariant-loop-field
invariant-loop-field l =
    (l.place ≡ l.offset + fields_size (fields_of (take l.field-index l.fields)))
    × Puts l.fn.out.items l.out.items (loads l.scratch l.offset (fields_of (take l.field-index l.fields)))
