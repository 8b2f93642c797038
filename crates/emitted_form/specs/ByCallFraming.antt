-- Frames of parts that some calls keep, as frames of the policy `live`.
use Rattle.std.specs.Prelude.{◌≡◌, ℕ, suc, ◌+◌, ◌*◌, ◌≤◌, List, length, Option, Some, Bool, slice_get, unwrap_or}
use Rattle.wa_types.specs.Base.{Base}
use Rattle.wa_types.specs.Bounds.{Weight}
use Rattle.wa_types.specs.Frames.{call_number}
use Rattle.wa_types.specs.Pausing.{Numbered, Settings}
use Rattle.wa_types.specs.Runtime.{global_space}
use Rattle.wa_types.specs.Syntax.{Code, done, Func, Module}
use Rattle.wa_types.specs.declared.values.ValType.{ValType}
use Rattle.run_theory.specs.Flat.{followed_by}
use Rattle.call_frames.specs.ByCall.{FramesTell}
use Rattle.call_frames.specs.FrameParts.{CallFrames, layout_at, restore_bound_at, restoring_by_call, save_bound_at, saving_by_call}
use Rattle.call_frames.specs.FrameParts as Parts
use Rattle.flat_laws.specs.Flatten.{flattened}
use Rattle.frame_laws.specs.Function.{result_type, value_given}
use Rattle.emitted_form.specs.LiveFrames.{fields_at}
use Rattle.guard_runs.specs.Joined.{CallFrame}
use Rattle.slim_laws.specs.SlimModule.{Pieces}
use Rattle.headline.specs.EmittedModule.{Framing}
use Rattle.emitted_form.specs.LiveFraming.{LiveFrame}

-- the frame of call k, with what its codes cost there
abbrev pub call_frame : CallFrames → (result : Option ValType) → (k : ℕ) → CallFrame
call_frame c result k = record { layout = layout_at c k; given = value_given result; save_most = save_bound_at c k + 1; restore_most = restore_bound_at c k }

-- these pieces, and the codes of such frames; the frame at a place is that of its call's number
abbrev pub framing_by_call : Module → Settings → List Bool → (index : ℕ) → Func → Pieces → CallFrames → Framing
framing_by_call m s which x f pieces c = record {
  pieces = pieces;
  restoring = restoring_by_call c done;
  saving = saving_by_call c done;
  frame_at = λ place. call_frame c (result_type (flattened (Base m) x f).locals (flattened (Base m) x f).result) (unwrap_or (call_number m s which f place) 0);
}

-- The parts that a call keeps are in a row what the policy saves there, and the codes cost no more there than they may, with a value for
-- the result. They are such in front of whatever stands behind them.
pub record PartsKeepLive (m : Module) (s : Settings) (which : List Bool) (x : ℕ) (f : Func) (c : CallFrames) : Type 0 where
  pub tells : FramesTell c
  pub count : length (Numbered m s which f) ≤ c.count
  pub address : c.address ≡ suc (global_space m)
  pub index : c.index ≡ length (flattened m x f).locals
  pub scratch : c.scratch ≡ suc (length (flattened m x f).locals)
  pub fields : (k place : ℕ) → slice_get (Numbered m s which f) k ≡ Some place → Parts.fields_at k c.parts ≡ fields_at m f place
  pub cost : (k place : ℕ) → slice_get (Numbered m s which f) k ≡ Some place → save_bound_at c k + 1 + restore_bound_at c k ≤ 64 * (Weight m f + 4)
  pub saves_on : (next : Code) → followed_by (saving_by_call c done) next ≡ saving_by_call c next
  pub restores_on : (next : Code) → followed_by (restoring_by_call c done) next ≡ restoring_by_call c next

-- Such frames are what the policy `live` asks of frames.
abbrev pub FramesByCallAreLive : Type 0
FramesByCallAreLive =
    (m : Module) (s : Settings) (which : List Bool) (frames : (index : ℕ) → Framing) (x : ℕ) (f : Func) (pieces : Pieces) (c : CallFrames) → frames x ≡ framing_by_call m s which x f pieces c
    → PartsKeepLive m s which x f c
    → (k place : ℕ) → slice_get (Numbered m s which f) k ≡ Some place → LiveFrame m s which frames x f k place
