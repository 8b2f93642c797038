-- What the frames of an emitted module owe at each numbered call, whatever the policy and however they are written.
use Rattle.std.specs.Prelude.{◌≡◌, ℕ, suc, ◌+◌, ◌*◌, ◌<◌, ◌≤◌, List, length, Some, Bool, true, All, slice_get}
use Rattle.wa_types.specs.Base.{Base}
use Rattle.wa_types.specs.Bounds.{Weight}
use Rattle.wa_types.specs.Frames.{Saved}
use Rattle.wa_types.specs.Modules.{defined_at, locals_of}
use Rattle.wa_types.specs.Pausing.{Settings, Numbered, is_told}
use Rattle.wa_types.specs.Points.{func_call_points}
use Rattle.wa_types.specs.Runtime.{global_space}
use Rattle.wa_types.specs.Syntax.{Func, Module}
use Rattle.wa_types.specs.declared.values.ValType.{ValType}
use Rattle.flat_laws.specs.Flatten.{flattened, names, slots}
use Rattle.frame_laws.specs.Function.{FrameCodes, rewinding, unwinding}
use Rattle.guard_form.specs.Bounds.{passing}
use Rattle.guard_form.specs.Functions.{GuardedFunc}
use Rattle.guard_runs.specs.Joined.{CallFrame, written_of}
use Rattle.headline.specs.EmittedModule.{Framing, fields_of, guarded_of}

-- what unwinding and rewinding a guarded function costs at most, from a call with this frame
abbrev pub pause_cost : (state : ℕ) → GuardedFunc → CallFrame → ℕ
pause_cost st f l = unwinding (written_of st f l) 4 + rewinding (written_of st f l) (passing f.first f.body + 3)

module _ (m : Module) (s : Settings) (which : List Bool) (frames : (index : ℕ) → Framing) where
  -- At call k, which has this place, the codes save and restore the frame: it keeps the locals that the policy saves there, own ones and
  -- the slots of the call's operands among them; gaps may stand for other slots.
  pub record Framed (x : ℕ) (f : Func) (k place : ℕ) : Type 0 where
    pub codes : FrameCodes (written_of (global_space m) (guarded_of m s which frames x f) ((frames x).frame_at place)) k
    pub address : ((frames x).frame_at place).layout.address ≡ suc (global_space m)
    pub index : ((frames x).frame_at place).layout.index ≡ length (flattened (Base m) x f).locals
    pub scratch : ((frames x).frame_at place).layout.scratch ≡ suc (length (flattened (Base m) x f).locals)
    pub keep : ℕ → Bool
    pub fields : ((frames x).frame_at place).layout.fields ≡ fields_of keep (Saved (Base m) s.policy f place)
    pub own : (y : ℕ) → y < length (locals_of m f) → keep y ≡ true
    pub stacked : (ops : List ValType) → slice_get (func_call_points (Base m) f) place ≡ Some ops → All (λ y. keep y ≡ true) (slots (names (Base m) f) ops)
    pub cost : pause_cost (global_space m) (guarded_of m s which frames x f) ((frames x).frame_at place) ≤ 112 * (Weight m f + 4)

  -- so does each numbered call of a told function
  abbrev pub FramedCalls : Type 0
  FramedCalls =
      (x : ℕ) (f : Func) → defined_at m x ≡ Some f → is_told (slice_get which x) ≡ true → (k place : ℕ) → slice_get (Numbered m s which f) k ≡ Some place → Framed x f k place
