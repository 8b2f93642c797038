-- The module that the policy `live` emits: its pieces are slim, its frames are told by numbers of calls, and keep at each call what the policy saves there.
use Rattle.std.specs.Prelude.{◌≡◌, ◌≤◌, ℕ, suc, ◌+◌, ◌*◌, List, length, Some, Bool, true, slice_get}
use Rattle.std.specs.List.{sum_by}
use Rattle.wa_types.specs.Frames.{Saved}
use Rattle.wa_types.specs.Modules.{defined_at}
use Rattle.wa_types.specs.Pausing.{Numbered, Settings, is_told, save_live}
use Rattle.wa_types.specs.Runtime.{global_space}
use Rattle.wa_types.specs.Syntax.{done, Func, Module}
use Rattle.flat_laws.specs.Flatten.{flattened}
use Rattle.call_frames.specs.CallParts.{tests_most}
use Rattle.call_frames.specs.Classes.{NumbersBelow}
use Rattle.call_frames.specs.FrameParts.{restoring_by_call, saving_by_call}
use Rattle.call_frames.specs.PlainFrames.{SavedParts, call_fields, frames_of}
use Rattle.call_frames.specs.PlainLaws.{NameCalls, parts_size, sizes_size, tests_cost}
use Rattle.emitted_form.specs.LiveFrames.{fields_at}
use Rattle.slim_laws.specs.SlimModule.{Pieces}
use Rattle.emitted_form.specs.EmittedBy.{FrameCode, asyncified_by}

-- ---- the module

-- the pieces of each function, and the codes of its frames
abbrev pub live_codes : (pieces : (index : ℕ) → Pieces) → (parts : (index : ℕ) → SavedParts) → (index : ℕ) → Func → FrameCode
live_codes pieces parts x f = record { pieces = pieces x; restoring = restoring_by_call (frames_of (parts x)) done; saving = saving_by_call (frames_of (parts x)) done }

-- The module in which each function that may pause is written with these pieces and such frames, `which` telling them.
abbrev pub live_asyncified : Module → Settings → (which : List Bool) → (pieces : (index : ℕ) → Pieces) → (parts : (index : ℕ) → SavedParts) → Module
live_asyncified m s which pieces parts = asyncified_by m s which (live_codes pieces parts)

-- ---- what parts owe

-- how many locals the frames of these calls save together
abbrev pub saved_total : Module → Func → (places : List ℕ) → ℕ
saved_total m f places = sum_by (λ place. length (Saved m save_live f place)) places

-- The parts of a function's frames: those of each numbered call are in a row what the policy saves there, each names a numbered call; what
-- their tests cost is bounded by the locals and the calls, and the codes by what the calls save.
pub record LiveParts (m : Module) (s : Settings) (which : List Bool) (x : ℕ) (f : Func) (p : SavedParts) : Type 0 where
  pub count : p.count ≡ length (Numbered m s which f)
  pub address : p.address ≡ suc (global_space m)
  pub index : p.index ≡ length (flattened m x f).locals
  pub scratch : p.scratch ≡ suc (length (flattened m x f).locals)
  pub fields : (k place : ℕ) → slice_get (Numbered m s which f) k ≡ Some place → call_fields k p.parts ≡ fields_at m f place
  pub below : NumbersBelow (length (Numbered m s which f)) p.parts
  pub named : NameCalls p.parts
  pub tests : tests_cost p.parts ≤ tests_most (length (flattened m x f).locals) (length (Numbered m s which f))
  pub size : sizes_size p.parts + 2 * parts_size p.parts ≤ 30 * saved_total m f (Numbered m s which f)

-- so do those of each told function
abbrev pub AllLiveParts : Module → Settings → (which : List Bool) → (parts : (index : ℕ) → SavedParts) → Type 0
AllLiveParts m s which parts = (x : ℕ) (f : Func) → defined_at m x ≡ Some f → is_told (slice_get which x) ≡ true → LiveParts m s which x f (parts x)
