-- The written module of one whose functions may pause: each function that may pause is its flat function with guards and frames,
-- every other one stays, and the runtime's parts stand behind. How pieces and frames are written is given for each function.
use Rattle.std.specs.Prelude.{◌≡◌, ℕ, suc, ◌+◌, ◌^◌, ◌<◌, ◌++◌, List, [], ◌∷◌, length, map, drop, Option, Some, None, Bool, true, false, All, Contains, slice_get, if◌then◌else◌}
use Rattle.wa_types.specs.Base.{Base}
use Rattle.wa_types.specs.Frames.{Place, Saved}
use Rattle.wa_types.specs.Modules.{declared_locals, defined_at, func_imports, locals_of}
use Rattle.wa_types.specs.Pausing.{Settings, Numbered, is_told, save_all}
use Rattle.wa_types.specs.Points.{func_call_points}
use Rattle.wa_types.specs.Runtime.{global_space, with_runtime}
use Rattle.wa_types.specs.Syntax.{Code, done, Func, Module}
use Rattle.wa_types.specs.declared.values.ValType.{ValType}
use Rattle.wa_types.specs.declared.values.ValType.TheVariants.{I32, I64}
use Rattle.run_theory.specs.Flat.{FlatFunc, followed_by}
use Rattle.frame_laws.specs.Function.{result_type, value_code}
use Rattle.guard_form.specs.Guarded.{block_unit}
use Rattle.flat_laws.specs.FlatModule.{flat_func}
use Rattle.flat_laws.specs.Flatten.{flattened, names, slots}
use Rattle.slim_laws.specs.SlimModule.{AllSlimPieces, Pieces, module_terms, slim_module}
use Rattle.slim_laws.specs.Slim.{Terms}
use Rattle.frame_laws.specs.Layout.{FrameField, kept, gap, Layout, save_code, restore_code}
use Rattle.guard_form.specs.Functions.{GuardedFunc, Role, as_is, with_guards, written_code}
use Rattle.guard_runs.specs.Joined.{CallFrame, one_frame}

-- How a function is written: its pieces between its units, the codes that restore and that save its frames, and the frame of the call at
-- each place.
pub record Framing : Type 0 where
  pub pieces : Pieces
  pub restoring : Code
  pub saving : Code
  pub frame_at : (place : ℕ) → CallFrame

-- the places of a function's numbered calls
abbrev pub places_in : Module → Settings → (which : List Bool) → (index : ℕ) → Func → List ℕ
places_in m s which x f = Numbered m s which f

module _ (m : Module) (s : Settings) (which : List Bool) (frames : (index : ℕ) → Framing) where
  -- the flat function of this index
  abbrev pub flat_of : ℕ → Func → FlatFunc
  flat_of x f = flattened (Base m) x f

  -- The flat function with guards around its numbered calls, and with the code of its frames.
  abbrev pub guarded_of : ℕ → Func → GuardedFunc
  guarded_of x f = record {
    size = length (flat_of x f).locals;
    exits = (frames x).pieces.exits;
    restoring = (frames x).restoring;
    saving = followed_by (frames x).saving (value_code (result_type (flat_of x f).locals (flat_of x f).result));
    first = done;
    body = block_unit (frames x).pieces.first (frames x).pieces.units (flat_of x f).result;
  }

  -- the pieces of each function
  abbrev pub pieces_in : (index : ℕ) → Pieces
  pieces_in x = (frames x).pieces

  -- the flat module with these pieces, and the terms of its code
  abbrev pub slim_of : Module
  slim_of = slim_module (Base m) which (places_in m s which) pieces_in

  abbrev pub terms_of : (index : ℕ) → Terms
  terms_of = module_terms (Base m) which (places_in m s which) pieces_in

  -- the function of an index: guarded where it is told, else as it is
  abbrev pub role_at : Bool → ℕ → Option Func → Role
  role_at told x None = as_is 0 done
  role_at true x (Some f) = with_guards (guarded_of x f)
  role_at false x (Some f) = as_is (length (locals_of m f)) f.body

  -- A function that is told, as it is written.
  pub record Guarded (x : ℕ) (f g : Func) : Type 0 where
    pub sort : g.sort ≡ f.sort
    pub locals : declared_locals g.locals ≡ declared_locals (flat_func (Base m) x f).locals ++ I32 ∷ I32 ∷ I64 ∷ []
    pub body : g.body ≡ written_code (global_space m) (with_guards (guarded_of x f))

  -- one that isn't told
  pub record Stays (f g : Func) : Type 0 where
    pub sort : g.sort ≡ f.sort
    pub locals : declared_locals g.locals ≡ declared_locals f.locals
    pub body : g.body ≡ f.body

  abbrev pub WrittenAs : Bool → ℕ → (f g : Func) → Type 0
  WrittenAs true x f g = Guarded x f g
  WrittenAs false x f g = Stays f g

  -- p is such a module.
  pub record Emitted (p : Module) : Type 0 where
    pub types : p.types ≡ (with_runtime m).types
    pub imports : p.imports ≡ m.imports
    pub tables : p.tables ≡ m.tables
    pub memories : p.memories ≡ (with_runtime m).memories
    pub globals : p.globals ≡ (with_runtime m).globals
    pub exports : p.exports ≡ (with_runtime m).exports
    pub start : p.start ≡ m.start
    pub elems : p.elems ≡ m.elems
    pub segments : p.segments ≡ m.segments
    pub runtime : drop (length m.funcs) p.funcs ≡ drop (length m.funcs) (with_runtime m).funcs
    pub sorts : map (λ (f : Func). f.sort) p.funcs ≡ map (λ (f : Func). f.sort) (with_runtime m).funcs
    pub written : (j : ℕ) (f g : Func) → slice_get m.funcs j ≡ Some f → slice_get p.funcs j ≡ Some g → WrittenAs (is_told (slice_get which (func_imports m + j))) (func_imports m + j) f g
    -- pieces are those of the flat function, or slim
    pub slim : AllSlimPieces (Base m) which (places_in m s which) pieces_in
    -- numbers are written as an i32
    pub few : (x : ℕ) (f : Func) → defined_at m x ≡ Some f → is_told (slice_get which x) ≡ true → length (Numbered m s which f) < 2 ^ 32

-- ---- frames of one layout

-- the saved locals that pass are kept, in the places of the others stand gaps
abbrev pub fields_of : (ℕ → Bool) → List Place → List FrameField
fields_of keep [] = []
fields_of keep (p ∷ ps) = (if keep p.local then kept p.local p.ty else gap p.ty) ∷ fields_of keep ps

-- one layout for all calls
abbrev pub one_framing : Pieces → Layout → (result : Option ValType) → Framing
one_framing pieces l result = record { pieces = pieces; restoring = restore_code l done; saving = save_code l done; frame_at = λ place. one_frame l result }

-- Frames for the policy that saves all, where each function keeps these of its saved locals.
module _ (m : Module) (s : Settings) (which : List Bool) (keep : (func local : ℕ) → Bool) where
  -- The address stands behind the state's global, the call index and the scratch local behind the flat locals.
  abbrev pub layout_of : ℕ → Func → Layout
  layout_of x f = record {
    address = suc (global_space m);
    index = length (flattened (Base m) x f).locals;
    scratch = suc (length (flattened (Base m) x f).locals);
    fields = fields_of (keep x) (Saved (Base m) save_all f 0);
  }

  abbrev pub lay_at : ℕ → Option Func → Layout
  lay_at x None = record { address = 0; index = 0; scratch = 0; fields = [] }
  lay_at x (Some f) = layout_of x f

  abbrev pub result_at : ℕ → Option Func → Option ValType
  result_at x None = None
  result_at x (Some f) = result_type (flattened (Base m) x f).locals (flattened (Base m) x f).result

  -- They keep each parameter and declared local, and each slot of an operand that stands at a numbered call.
  pub record KeepsEnough (x : ℕ) (f : Func) : Type 0 where
    pub own : (y : ℕ) → y < length (locals_of m f) → keep x y ≡ true
    pub stacked : (place : ℕ) (ops : List ValType) → Contains (Numbered m s which f) place → slice_get (func_call_points (Base m) f) place ≡ Some ops
        → All (λ y. keep x y ≡ true) (slots (names (Base m) f) ops)

  abbrev pub AllKeepEnough : Type 0
  AllKeepEnough = (x : ℕ) (f : Func) → defined_at m x ≡ Some f → is_told (slice_get which x) ≡ true → KeepsEnough x f

-- with these pieces
abbrev pub kept_frames : (m : Module) (s : Settings) (which : List Bool) (pieces : (index : ℕ) → Pieces) (keep : (func local : ℕ) → Bool) → (index : ℕ) → Framing
kept_frames m s which pieces keep x = one_framing (pieces x) (lay_at m s which keep x (defined_at m x)) (result_at m s which keep x (defined_at m x))
