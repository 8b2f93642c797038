-- The codes as they are put, with the size of what all calls keep told.
use Rattle.std.proofs.Common.{ℕ, ◌+◌, List}
use Rattle.wa_types.specs.declared.values.ValType.TheVariants.{I32}
use Rattle.wa_types.specs.declared.values.Value.TheVariants as V
use Rattle.wa_types.specs.Syntax.{const, basic, local_set, Code, plain}
use Rattle.local_spill.specs.Spilling.{loaded_value, index_saved, location_raised}
use Rattle.call_frames.specs.FrameParts.{parts_stored, parts_loaded, location_lowered}
use Rattle.call_frames.specs.PlainFrames.{SavedPart, own_weights, parts_of, weights_added}
use Rattle.live_frames.specs.Putting.{location_noted, room_tested}

abbrev pub saved_with : (base address : ℕ) → List SavedPart → (shared : ℕ) → Code → Code
saved_with base address ps n rest =
    plain (basic (const (V.I32 (n + 4)))) (weights_added base (own_weights ps) (room_tested address (base + 1)
    (parts_stored (base + 1) 0 (parts_of base ps) (index_saved base (base + 1) n (location_raised address (base + 1) (n + 4) rest)))))

abbrev pub restored_with : (base address : ℕ) → List SavedPart → (shared : ℕ) → Code → Code
restored_with base address ps n rest =
    location_noted address (base + 1) (n + 4) (loaded_value I32 n (plain (local_set base) (parts_loaded (base + 1) 0 (parts_of base ps) (location_lowered address (base + 1) rest))))
