use Rattle.std.proofs.Common.{◌≡◌, ◌+◌, take}
use Rattle.frame_laws.specs.Layout.{fields_size, stores}
use Rattle.local_spill.specs.Putting.{Puts}
use Rattle.call_frames.specs.Views.{fields_of}
use Rattle.live_frames.proofs.storing.put_fields_stored.Given as goal

abbrev pub invariant-loop-field : goal.invariant-loop-field
invariant-loop-field l =
    (l.place ≡ l.offset + fields_size (fields_of (take l.field-index l.fields)))
    × Puts l.fn.out.items l.out.items (stores l.scratch l.offset (fields_of (take l.field-index l.fields)))
