-- Frames of parts that some calls keep are frames of the policy `live`.
use Rattle.std.proofs.Common.{◌≡◌, ℕ, ◌+◌, ◌*◌, ◌≤◌, ◌<◌, List, length, Option, Some, Bool, sym, ap, ◌∙◌, subst, arith}
use Rattle.std.specs.Prelude.{slice_get, unwrap_or}
use Rattle.std.proofs.lemmas.Option.{slice_get_within}
use Rattle.wa_types.specs.Base.{Base}
use Rattle.wa_types.specs.Bounds.{Weight}
use Rattle.wa_types.specs.Frames.{call_number}
use Rattle.wa_types.specs.Pausing.{Numbered, Settings}
use Rattle.wa_types.specs.Runtime.{global_space}
use Rattle.wa_types.specs.Syntax.{Code, done, Func, Module}
use Rattle.wa_types.specs.declared.values.ValType.{ValType}
use Rattle.run_theory.specs.Flat.{followed_by}
use Rattle.call_frames.specs.FrameParts.{CallFrames, layout_at, restore_bound_at, restoring_by_call, save_bound_at, saving_by_call}
use Rattle.call_frames.proofs.Codes.{codes_law}
use Rattle.flat_laws.specs.Flatten.{flattened}
use Rattle.frame_laws.specs.Function.{FrameCodes, WrittenFunc, result_type, value_code, value_given}
use Rattle.guard_form.specs.Functions.{GuardedFunc, indices_of}
use Rattle.guard_form.specs.Guarded.{block_unit, guarded_body}
use Rattle.guard_runs.specs.Joined.{CallFrame, written_of}
use Rattle.emitted_form.specs.LiveFrames.{fields_at}
use Rattle.slim_laws.specs.SlimModule.{Pieces}
use Rattle.headline.specs.EmittedModule.{Framing}
use Rattle.headline.proofs.WantedFields.{number_is}
use Rattle.emitted_form.specs.ByCallFraming.{FramesByCallAreLive, PartsKeepLive, call_frame, framing_by_call}
use Rattle.emitted_form.specs.LiveFraming.{LiveFrame}

module _ (m : Module) (s : Settings) (which : List Bool) (x : ℕ) (f : Func) (pieces : Pieces) (c : CallFrames) (h : PartsKeepLive m s which x f c) (k place : ℕ)
    (at : slice_get (Numbered m s which f) k ≡ Some place) where
  -- the type of its result
  abbrev result : Option ValType
  result = result_type (flattened (Base m) x f).locals (flattened (Base m) x f).result

  -- the function, and the frame of a call
  abbrev guards : Framing → GuardedFunc
  guards z = record {
    size = length (flattened (Base m) x f).locals;
    exits = z.pieces.exits;
    restoring = z.restoring;
    saving = followed_by z.saving (value_code result);
    first = done;
    body = block_unit z.pieces.first z.pieces.units (flattened (Base m) x f).result;
  }

  abbrev frame : Option ℕ → CallFrame
  frame o = call_frame c result (unwrap_or o 0)

  abbrev here : Framing
  here = framing_by_call m s which x f pieces c

  number : call_number m s which f place ≡ Some k
  number = number_is m s which f k place at

  -- as its frames at call k find it, with these codes
  abbrev with_codes : (body : Code) → (saving : Code) → (restoring : Code → Code) → WrittenFunc
  with_codes body saving restoring = record {
    layout = layout_at c k;
    body = body;
    given = value_given result;
    saving = saving;
    restoring = restoring;
    save_most = save_bound_at c k + 1;
    restore_most = restore_bound_at c k;
  }

  joined : (body : Code) → k < c.count → FrameCodes (with_codes body (followed_by (saving_by_call c done) (value_code result)) (followed_by (restoring_by_call c done))) k
  joined body lt =
      subst (λ r. FrameCodes (with_codes body (followed_by (saving_by_call c done) (value_code result)) r) k) (λ i next. sym (h.restores_on next) i)
      (subst (λ z. FrameCodes (with_codes body z (restoring_by_call c)) k) (sym (h.saves_on (value_code result))) (codes_law c k body result h.tells lt))

  codes : FrameCodes (written_of (global_space m) (guards here) (here.frame_at place)) k
  codes =
      let gf : GuardedFunc = guards here in
      let lt = slice_get_within (Numbered m s which f) k place at in
      let few = h.count in
      subst (λ o. FrameCodes (written_of (global_space m) (guards here) (frame o)) k) (sym number)
      (joined (guarded_body (indices_of (global_space m) gf) (followed_by gf.restoring) gf.first gf.body) (omega arith))

  fields : (here.frame_at place).layout.fields ≡ fields_at m f place
  fields = ap (λ o. (frame o).layout.fields) number ∙ h.fields k place at

  cost : (here.frame_at place).save_most + (here.frame_at place).restore_most ≤ 64 * (Weight m f + 4)
  cost = subst (λ o. (frame o).save_most + (frame o).restore_most ≤ 64 * (Weight m f + 4)) (sym number) (h.cost k place at)

  framed : (frames : (index : ℕ) → Framing) → frames x ≡ framing_by_call m s which x f pieces c → LiveFrame m s which frames x f k place
  framed frames e = record {
    codes = subst (λ z. FrameCodes (written_of (global_space m) (guards z) (z.frame_at place)) k) (sym e) codes;
    address = ap (λ (z : Framing). (z.frame_at place).layout.address) e ∙ h.address;
    index = ap (λ (z : Framing). (z.frame_at place).layout.index) e ∙ h.index;
    scratch = ap (λ (z : Framing). (z.frame_at place).layout.scratch) e ∙ h.scratch;
    fields = ap (λ (z : Framing). (z.frame_at place).layout.fields) e ∙ fields;
    cost = subst (λ (z : Framing). (z.frame_at place).save_most + (z.frame_at place).restore_most ≤ 64 * (Weight m f + 4)) (sym e) cost;
  }

pub by_call_framed : FramesByCallAreLive
by_call_framed m s which frames x f pieces c e h k place at = framed m s which x f pieces c h k place at frames e
