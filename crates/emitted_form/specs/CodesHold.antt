-- What pieces and the codes of frames owe, so that the module that is emitted with them is valid, and no deeper and no larger than it may be.
use Rattle.std.specs.Prelude.{◌≡◌, ◌≤◌, ◌<◌, ◌^◌, ℕ, suc, ◌+◌, ◌*◌, List, [], ◌∷◌, ◌++◌, Option, Some, Bool, true, slice_get}
use Rattle.wa_types.specs.declared.values.ValType.{ValType}
use Rattle.wa_types.specs.declared.values.ValType.TheVariants.{I32, I64}
use Rattle.wa_types.specs.Bounds.{Weight}
use Rattle.wa_types.specs.Counts.{depth_of}
use Rattle.wa_types.specs.Modules.{defined_at}
use Rattle.wa_types.specs.Pausing.{Settings, is_told, Numbered, calls_of}
use Rattle.wa_types.specs.Runtime.{global_space}
use Rattle.wa_types.specs.Sizes.{code_lists}
use Rattle.wa_types.specs.Syntax.{Code, Func, Module}
use Rattle.wa_types.specs.Typing.{Around, Types}
use Rattle.wa_model.specs.Rewrites.{frames_size, instructions_and_labels}
use Rattle.flat_laws.specs.Flatten.{flattened}
use Rattle.slim_laws.specs.SlimModule.{Pieces, SlimPieces}
use Rattle.emitted_form.specs.EmittedBy.{FrameCode}

-- behind the flat locals: the call index, and a scratch local of each type
abbrev pub three : List ValType
three = I32 ∷ I32 ∷ I64 ∷ []

-- The code takes nothing and leaves nothing, where there is a memory, the address stands behind the global of the state, and the locals
-- are those of the written function.
abbrev pub CodeTyped : Module → (index : ℕ) → Func → Code → Type 0
CodeTyped m x f code =
    (c : Around) (ls : List (Option ValType)) → c.memory ≡ true → slice_get c.globals (suc (global_space m)) ≡ Some (record { ty = I32; mutable = true })
    → c.locals ≡ (flattened m x f).locals ++ three → Types c ls code [] []

-- It has no call and no branch table, and nests one construct deep at most.
pub record CodeQuiet (code : Code) : Type 0 where
  pub calls : calls_of code ≡ []
  pub lists : (n : ℕ) → code_lists n code
  pub depth : depth_of code ≤ 1

-- the size of both codes
abbrev pub codes_size : FrameCode → ℕ
codes_size c = instructions_and_labels c.restoring + instructions_and_labels c.saving

-- Pieces are the flat function's, or slim. The codes of its frame: their types, what they hold, and how large they may be beside the
-- function's weight.
pub record CodesHold (m : Module) (s : Settings) (which : List Bool) (x : ℕ) (f : Func) (c : FrameCode) : Type 0 where
  pub slim : SlimPieces m (Numbered m s which f) x f c.pieces
  pub restoring_typed : CodeTyped m x f c.restoring
  pub saving_typed : CodeTyped m x f c.saving
  pub restoring_quiet : CodeQuiet c.restoring
  pub saving_quiet : CodeQuiet c.saving
  pub size : codes_size c ≤ 64 * (Weight m f + 4) + frames_size m s.policy f (Numbered m s which f)

-- so do those of each told function
abbrev pub AllCodesHold : Module → Settings → (which : List Bool) → (codes : (index : ℕ) → Func → FrameCode) → Type 0
AllCodesHold m s which codes = (x : ℕ) (f : Func) → defined_at m x ≡ Some f → is_told (slice_get which x) ≡ true → CodesHold m s which x f (codes x f)

-- The pieces of each told function are slim.
abbrev pub AllSlim : Module → Settings → (which : List Bool) → (pieces : (index : ℕ) → Pieces) → Type 0
AllSlim m s which pieces = (x : ℕ) (f : Func) → defined_at m x ≡ Some f → is_told (slice_get which x) ≡ true → SlimPieces m (Numbered m s which f) x f (pieces x)

-- so are those that its codes go with
abbrev pub AllCodesSlim : Module → Settings → (which : List Bool) → (codes : (index : ℕ) → Func → FrameCode) → Type 0
AllCodesSlim m s which codes = (x : ℕ) (f : Func) → defined_at m x ≡ Some f → is_told (slice_get which x) ≡ true → SlimPieces m (Numbered m s which f) x f (codes x f).pieces

-- they are smaller than any code that can be stored
abbrev pub AllCodesSmall : Module → (which : List Bool) → (codes : (index : ℕ) → Func → FrameCode) → Type 0
AllCodesSmall m which codes = (x : ℕ) (f : Func) → defined_at m x ≡ Some f → is_told (slice_get which x) ≡ true → codes_size (codes x f) < 2 ^ 53
