-- What parts that keep the sets of calls are to the laws of frames.
use Rattle.std.specs.Prelude.{◌≡◌, ◌≤◌, ◌<◌, ◌^◌, ℕ, ◌+◌, ◌*◌, List, [], length, get_or, Option, Some, Bool, true, slice_get}
use Rattle.wa_types.specs.declared.values.ValType.{ValType}
use Rattle.wa_types.specs.declared.values.ValType.TheVariants.{I32}
use Rattle.wa_types.specs.Syntax.{Code, done}
use Rattle.wa_types.specs.Typing.{Around}
use Rattle.wa_model.specs.Rewrites.{instructions_and_labels}
use Rattle.frame_laws.specs.Function.{FrameCodes}
use Rattle.frame_laws.specs.Layout.{kept_count}
use Rattle.call_frames.specs.ByCall.{by_call}
use Rattle.call_frames.specs.FrameParts.{CallFrames, fields_at, saving_by_call, save_bound_at, restoring_by_call, restore_bound_at}
use Rattle.call_frames.specs.PlainFrames.{frames_of}
use Rattle.call_frames.specs.PlainLaws.{PlainTyped, PlainSmall}
use Rattle.call_frames.specs.declared.frames.FrameParts.{FrameParts}
use Rattle.call_frames.specs.CallParts.{tests_most}
use Rattle.call_frames.specs.Classes.{KeepCheaply}
use Rattle.call_frames.specs.Views.{fields_in, kept_total, parts_view, told_frames}

-- the frames of the calls of these sets
abbrev pub set_frames : (sets : List (List Bool)) → (base address : ℕ) → FrameParts → CallFrames
set_frames sets base address p = frames_of (told_frames (length sets) base address p)

-- At call k the codes save and restore exactly the locals of its set, in order, and cost little.
pub record FramedAt (types : List ValType) (sets : List (List Bool)) (base address : ℕ) (p : FrameParts) (k : ℕ) : Type 0 where
  pub codes : (body : Code) (result : Option ValType) → FrameCodes (by_call (set_frames sets base address p) k body result) k
  pub fields : fields_at k (set_frames sets base address p).parts ≡ fields_in 0 (get_or sets k []) types
  pub cost : save_bound_at (set_frames sets base address p) k + restore_bound_at (set_frames sets base address p) k
      ≤ 32 + tests_most (length types) (length sets) + 6 * kept_count (fields_in 0 (get_or sets k []) types)

-- A function's locals have these types first, and there are a memory, the address, the index and the scratch local.
pub record HasPlaces (c : Around) (types : List ValType) (base adr : ℕ) : Type 0 where
  pub memory : c.memory ≡ true
  pub address : slice_get c.globals adr ≡ Some (record { ty = I32; mutable = true })
  pub index : slice_get c.locals base ≡ Some I32
  pub scratch : slice_get c.locals (base + 1) ≡ Some I32
  pub first : (i : ℕ) (t : ValType) → slice_get types i ≡ Some t → slice_get c.locals i ≡ Some t

-- So it is at each call; and both codes are small, and have what is asked of written code.
pub record SetsFramed (types : List ValType) (sets : List (List Bool)) (base address : ℕ) (p : FrameParts) : Type 0 where
  pub calls : (k : ℕ) → k < length sets → FramedAt types sets base address p k
  pub size : instructions_and_labels (saving_by_call (set_frames sets base address p) done) + instructions_and_labels (restoring_by_call (set_frames sets base address p) done)
      ≤ 32 + 30 * kept_total types sets
  pub small : PlainSmall (told_frames (length sets) base address p)
  pub typed : (c : Around) → HasPlaces c types base address → PlainTyped c (told_frames (length sets) base address p)

-- The parts that are answered for sets are such.
abbrev pub SetsAreFramed : Type 0
SetsAreFramed =
    (types : List ValType) (sets : List (List Bool)) (base address : ℕ) (p : FrameParts) → KeepCheaply types sets (parts_view p) → 1 ≤ length sets → length types ≤ 50000 → base ≤ 50000
    → address < 2 ^ 32 → length sets < 2 ^ 32 → SetsFramed types sets base address p
