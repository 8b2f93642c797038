-- Notes with their pauses shown, where an unwind traps by its stack's room alone: where that passes the area's length.
use Rattle.std.specs.Prelude.{ℕ, nat_lt, List, Option}
use Rattle.wa_types.specs.Frames.{Suspended}
use Rattle.wa_model.specs.Blocking.{Note}
use Rattle.wa_model.specs.Expected.{shown, shown_at}

-- a note with what stands behind it
abbrev pub shown_within_at : (room used : List Suspended → ℕ) → (len : ℕ) → Note → Option ℕ → (rest : List Note) → List Note
shown_within_at room used len x pause rest = shown_at (λ stack. nat_lt len (room stack)) room used len x pause rest

-- notes with their pauses, or the trap and nothing more
abbrev pub shown_within : (room used : List Suspended → ℕ) → (len : ℕ) → List Note → List Note
shown_within room used len notes = shown (λ stack. nat_lt len (room stack)) room used len notes
