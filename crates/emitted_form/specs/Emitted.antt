-- The module that rewriting emits under policy `all`, for any pieces of its functions.
use Rattle.std.specs.Prelude.{◌≡◌, ℕ, suc, List, [], length, map, Option, Some, None, Bool, ◌||◌, slice_get, nat_lt, nat_eq, if◌then◌else◌}
use Rattle.std.specs.List.{list_any}
use Rattle.wa_types.specs.Frames.{Place, Saved}
use Rattle.wa_types.specs.Modules.{locals_of}
use Rattle.wa_types.specs.Pausing.{save_all, Settings, Numbered}
use Rattle.wa_types.specs.Runtime.{global_space}
use Rattle.wa_types.specs.Syntax.{done, Func, Module}
use Rattle.run_theory.specs.Flat.{FlatFunc}
use Rattle.flat_laws.specs.Flatten.{flattened}
use Rattle.flat_laws.specs.FlatModule.{stacks_in}
use Rattle.frame_laws.specs.Layout.{FrameField, kept, gap, Layout, save_code, restore_code}
use Rattle.slim_laws.specs.SlimModule.{Pieces, SlimPieces}
use Rattle.emitted_form.specs.EmittedBy.{FrameCode, asyncified_by, written_by}

-- ---- frames

-- a list that is told, else an empty one
abbrev pub or_none : Option (List ℕ) → List ℕ
or_none None = []
or_none (Some stack) = stack

-- a local holds an operand at one of the calls at these places
abbrev pub holds_operand : FlatFunc → (places : List ℕ) → ℕ → Bool
holds_operand f places x = list_any (λ place. list_any (nat_eq x) (or_none (slice_get (stacks_in f.body) place))) places

-- A frame keeps the parameters, the declared locals, and the slots that hold an operand at a numbered call.
abbrev pub is_kept : Module → Settings → (which : List Bool) → (index : ℕ) → Func → ℕ → Bool
is_kept m s which x f l = nat_lt l (length (locals_of m f)) || holds_operand (flattened m x f) (Numbered m s which f) l

-- in the place of a local that isn't kept stands a gap
abbrev pub field_where : (ℕ → Bool) → Place → FrameField
field_where keep p = if keep p.local then kept p.local p.ty else gap p.ty

-- The frame of a function: all saved locals have their places. The address stands in the last global, the call index in the
-- local behind the flat ones, and a scratch local behind it.
abbrev pub frame_layout : Module → Settings → (which : List Bool) → (index : ℕ) → Func → Layout
frame_layout m s which x f = record {
  address = suc (global_space m);
  index = length (flattened m x f).locals;
  scratch = suc (length (flattened m x f).locals);
  fields = map (field_where (is_kept m s which x f)) (Saved m save_all f 0);
}

-- ---- functions

module _ (m : Module) (s : Settings) (which : List Bool) (pieces : (index : ℕ) → Pieces) where
  -- its pieces, and its codes
  abbrev pub layout_codes : (index : ℕ) → Func → FrameCode
  layout_codes x f = record { pieces = pieces x; restoring = restore_code (frame_layout m s which x f) done; saving = save_code (frame_layout m s which x f) done }

  -- The module in which each function that may pause is written, `which` telling them, with the runtime's parts behind its own.
  abbrev pub asyncified : Module
  asyncified = asyncified_by m s which layout_codes

-- A function as it is written from these pieces. Behind its locals stand the slots, the result locals, the call index and a scratch local of each type.
abbrev pub written_func : Module → Settings → (which : List Bool) → (index : ℕ) → Func → Pieces → Func
written_func m s which x f p = written_by m s which (layout_codes m s which (λ y. p)) x f

-- The second function is the first, of this index, as it is written from some slim pieces.
pub record IsAllWritten (m : Module) (s : Settings) (which : List Bool) (x : ℕ) (f g : Func) : Type 0 where
  pub pieces : Pieces
  pub slim : SlimPieces m (Numbered m s which f) x f pieces
  pub is : g ≡ written_func m s which x f pieces
