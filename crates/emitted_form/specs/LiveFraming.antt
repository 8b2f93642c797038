-- What the frames of an emitted module owe for the policy `live`.
use Rattle.std.specs.Prelude.{◌≡◌, ℕ, suc, ◌+◌, ◌*◌, ◌≤◌, List, length, Some, Bool, true, slice_get}
use Rattle.wa_types.specs.Bounds.{Weight}
use Rattle.wa_types.specs.Modules.{defined_at}
use Rattle.wa_types.specs.Pausing.{Numbered, Settings, is_told}
use Rattle.wa_types.specs.Runtime.{global_space}
use Rattle.wa_types.specs.Syntax.{Func, Module}
use Rattle.flat_laws.specs.Flatten.{flattened}
use Rattle.frame_laws.specs.Function.{FrameCodes}
use Rattle.guard_runs.specs.Joined.{written_of}
use Rattle.emitted_form.specs.LiveFrames.{fields_at}
use Rattle.headline.specs.EmittedModule.{Framing, guarded_of}

module _ (m : Module) (s : Settings) (which : List Bool) (frames : (index : ℕ) → Framing) where
  -- At call k, which has this place, the codes of the function save and restore the frame; it keeps what the policy saves there, behind the
  -- flat locals stand the call index and the scratch local, and both ways cost no more than 64 for each unit of weight and for four more.
  pub record LiveFrame (x : ℕ) (f : Func) (k place : ℕ) : Type 0 where
    pub codes : FrameCodes (written_of (global_space m) (guarded_of m s which frames x f) ((frames x).frame_at place)) k
    pub address : ((frames x).frame_at place).layout.address ≡ suc (global_space m)
    pub index : ((frames x).frame_at place).layout.index ≡ length (flattened m x f).locals
    pub scratch : ((frames x).frame_at place).layout.scratch ≡ suc (length (flattened m x f).locals)
    pub fields : ((frames x).frame_at place).layout.fields ≡ fields_at m f place
    pub cost : ((frames x).frame_at place).save_most + ((frames x).frame_at place).restore_most ≤ 64 * (Weight m f + 4)

  -- so does each numbered call of a told function
  abbrev pub LiveFraming : Type 0
  LiveFraming =
      (x : ℕ) (f : Func) → defined_at m x ≡ Some f → is_told (slice_get which x) ≡ true → (k place : ℕ) → slice_get (Numbered m s which f) k ≡ Some place → LiveFrame x f k place
