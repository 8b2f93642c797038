-- Functions flattened, guarded and given frames: how large and how deep they are, and what they cost at a pause.
use Rattle.std.specs.Prelude.{◌≡◌, ◌≤◌, ℕ, ◌+◌, ◌*◌, List, length, Some, false, slice_get}
use Rattle.wa_types.specs.Bounds.{Weight}
use Rattle.wa_types.specs.Counts.{depth_of}
use Rattle.wa_types.specs.Frames.{SlotPairs}
use Rattle.wa_types.specs.Modules.{locals_of}
use Rattle.wa_types.specs.Pruned.{pruned}
use Rattle.wa_types.specs.Syntax.{Code, done, Func, Module}
use Rattle.wa_types.specs.Validity.{Valid}
use Rattle.wa_model.specs.Rewrites.{instructions_and_labels}
use Rattle.flat_laws.specs.Flatten.{flattened}
use Rattle.guard_form.specs.Bounds.{passing}
use Rattle.guard_form.specs.Guarded.{block_unit, guard_indices, guarded_body, guarded_code}
use Rattle.guard_form.specs.Pieces.{Units, first_piece, units}
use Rattle.frame_laws.specs.Function.{WrittenFunc, by_layout, function_code, result_type, unwinding, rewinding}
use Rattle.frame_laws.specs.Layout.{Layout, kept_count, restore_code}

-- the units of a flat function of plain pieces: its own block
abbrev pub plain_units : Module → (x : ℕ) → Func → (places : List ℕ) → Units
plain_units m x f places = block_unit (first_piece places 0 (flattened m x f).body) (units places 0 (flattened m x f).body) (flattened m x f).result

-- the guarded code of a flat function of plain pieces, with the code that restores its frame in the first test
abbrev pub plain_guarded : Module → (x : ℕ) → Func → (state : ℕ) → (places : List ℕ) → (restoring : Code → Code) → Code
plain_guarded m x f st places restoring = guarded_body (guard_indices st (length (flattened m x f).locals) false (plain_units m x f places)) restoring done (plain_units m x f places)

-- what becomes of a function of a module, where the calls at these places are numbered, and frames have this layout
abbrev pub rewritten : Module → (x : ℕ) → Func → (state : ℕ) → (places : List ℕ) → Layout → WrittenFunc
rewritten m x f st places l = by_layout l (plain_guarded m x f st places (restore_code l)) (result_type (flattened m x f).locals (flattened m x f).result)

-- frames keep no more than parameters, locals and slots
abbrev pub KeepsFew : Module → Func → Layout → Type 0
KeepsFew m f l = kept_count l.fields ≤ length (locals_of m f) + length (SlotPairs m f)

-- what rewinding its guarded code costs at most
abbrev pub seek_cost : Module → (x : ℕ) → Func → (places : List ℕ) → ℕ
seek_cost m x f places = passing done (plain_units m x f places) + 3

-- The bounds of a rewritten function: on the size of its guarded code where the frame is restored in front of it; on its whole size and its
-- nesting, the codes of its frame included; and on its cost at a pause, for unwinding and rewinding together.
pub record IsSmall (m : Module) (x : ℕ) (f : Func) (st : ℕ) (places : List ℕ) (l : Layout) : Type 0 where
  pub guarded : instructions_and_labels (guarded_code st places (flattened m x f)) ≤ 112 * (Weight m f + 4)
  pub size : instructions_and_labels (function_code (rewritten m x f st places l)) ≤ 112 * (Weight m f + 4)
  pub nesting : depth_of (function_code (rewritten m x f st places l)) ≤ 3 * depth_of (pruned f.body) + 8
  pub cost : unwinding (rewritten m x f st places l) 4 + rewinding (rewritten m x f st places l) (seek_cost m x f places) ≤ 112 * (Weight m f + 4)

-- ---- laws

-- A function whose frame keeps few locals is so small, rewritten.
abbrev pub RewrittenIsSmall : Type 0
RewrittenIsSmall =
    (m : Module) (i x : ℕ) (f : Func) (st : ℕ) (places : List ℕ) (l : Layout) → Valid m → slice_get m.funcs i ≡ Some f → KeepsFew m f l → IsSmall m x f st places l
