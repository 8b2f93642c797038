-- The parts that are made from the sets are those of the policy `live`, and the function is as it is written with them.
use Rattle.std.proofs.Common.{◌≡◌, ◌∙◌, ℕ, suc, ◌+◌, ◌<◌, List, [], ◌∷◌, ◌++◌, length, map, drop, None, Bool, refl, ap, subst, arith}
use Rattle.std.specs.Prelude.{slice_get}
use Rattle.std.proofs.lemmas.Option.{slice_get_within}
use Rattle.wa_types.specs.declared.syntax.Run.{Run}
use Rattle.wa_types.specs.declared.values.ValType.TheVariants.{I32, I64}
use Rattle.wa_types.specs.Pausing.{Numbered, Settings}
use Rattle.wa_types.specs.Runtime.{global_space}
use Rattle.wa_types.specs.Sizes.{StrictSizeRule}
use Rattle.wa_types.specs.Syntax.{a_block, Code, done, Func, Module, nest}
use Rattle.wa_types.specs.Validity.{Valid}
use Rattle.run_theory.specs.Flat.{FlatFunc, followed_by}
use Rattle.run_theory.specs.FlatFits.{one_run}
use Rattle.run_theory.specs.FlatView.{flat_func_of}
use Rattle.flat_laws.specs.Flatten.{flattened}
use Rattle.flatten.specs.declared.whole.Flattened.{Flattened}
use Rattle.local_spill.specs.Ids.{ids_behind}
use Rattle.local_spill.specs.declared.RuntimeIds.{RuntimeIds}
use Rattle.frame_laws.specs.Function.{result_type, value_code}
use Rattle.guard_form.specs.Guarded.{block_unit, guard_indices, guarded_body}
use Rattle.guard_form.specs.Pieces.{Units}
use Rattle.call_frames.specs.FrameParts.{restoring_by_call, saving_by_call}
use Rattle.call_frames.specs.PlainFrames.{SavedParts, frames_of}
use Rattle.slim_laws.specs.SlimModule.{Pieces, SlimPieces}
use Rattle.live_locals.specs.LiveAt.{LiveAtCalls}
use Rattle.call_frames.specs.declared.frames.FrameParts.{FrameParts}
use Rattle.call_frames.specs.Classes.{KeepCheaply, NumbersBelow}
use Rattle.call_frames.specs.Views.{parts_view, told_frames}
use Rattle.emitted_form.specs.EmittedAs.{IsLiveWritten, live_written}
use Rattle.emitted_form.specs.LiveParts.{LiveParts}
use Rattle.func_rewrite.specs.Bodies.{IsSlimBody}
use Rattle.func_rewrite.specs.Frames.{IsFlattened}
use Rattle.func_rewrite.proofs.WrittenFuncs.{func_is, mk_func, runs_same}
use Rattle.func_rewrite.proofs.SetFields.{fields_saved, total_saved}

module _ (m : Module) (s : Settings) (which : List Bool) (f : Func) (v : Flattened) (valid : Valid m) (sizes : StrictSizeRule m) (h : IsFlattened m f v)
    (ns : List ℕ) (sets : List (List Bool)) (en : ns ≡ Numbered m s which f) (live : LiveAtCalls (flat_func_of v.func) ns sets)
    (ids : RuntimeIds) (ei : ids ≡ ids_behind m) (parts : FrameParts) (cheap : KeepCheaply v.func.locals.items sets (parts_view parts)) where
  abbrev x : ℕ
  x = v.func.func

  abbrev base : ℕ
  base = length v.func.locals.items

  abbrev told : SavedParts
  told = told_frames (length ns) base ids.address parts

  many : length sets ≡ length (Numbered m s which f)
  many = live.calls ∙ ap length en

  base_is : base ≡ length (flattened m x f).locals
  base_is = ap (λ (g : FlatFunc). length g.locals) h.flat

  pub owed : LiveParts m s which x f told
  owed = record {
    count = ap length en;
    address = ap (λ (i : RuntimeIds). i.address) ei ∙ (let z : global_space m + 1 ≡ suc (global_space m) = omega arith in z);
    index = base_is;
    scratch = (let e = base_is in let z : base + 1 ≡ suc (length (flattened m x f).locals) = omega (arith, e) in z);
    fields = λ k place at.
        let here = ap (λ ps. slice_get ps k) en ∙ at in
        let lt = slice_get_within ns k place here in
        let few : k < length sets = (let c = live.calls in omega (arith, lt, c)) in
        cheap.keep.fields k few ∙ fields_saved m s which f v valid h ns sets en live k place here;
    below = subst (λ n. NumbersBelow n (parts_view parts)) many cheap.keep.below;
    named = cheap.keep.named;
    tests = (let a = cheap.tests in let e = many in let l = base_is in omega (arith, a, e, l));
    size = (let a = cheap.size in let e = total_saved m s which f v valid h ns sets en live in omega (arith, a, e));
  }

  abbrev units : Pieces → Units
  units p = block_unit p.first p.units (flattened m x f).result

  abbrev front_of : Pieces → (state : ℕ) → Code
  front_of p g = guarded_body (guard_indices g (length (flattened m x f).locals) p.exits (units p)) (followed_by (restoring_by_call (frames_of told) done)) done (units p)

  abbrev whole : Code → Code
  whole guarded = nest a_block None guarded (followed_by (saving_by_call (frames_of told) done) (value_code (result_type (flattened m x f).locals (flattened m x f).result)))

  pub live_is : (locals : List Run) (body : Code) → locals ≡ f.locals ++ map one_run (drop v.first_slot v.func.locals.items ++ I32 ∷ I32 ∷ I64 ∷ [])
      → IsSlimBody m ns ids.state x f (restoring_by_call (frames_of told) done) (saving_by_call (frames_of told) done) body → IsLiveWritten m s which x f (mk_func f.sort locals body)
  live_is locals body el b =
      let p : Pieces = b.slim.pieces in
      record {
        pieces = p;
        slim = subst (λ ks. SlimPieces m ks x f p) en b.slim.slim;
        parts = told;
        live = owed;
        is = func_is (live_written m s which x f p told) f.sort locals body refl (el ∙ runs_same m s which f v valid sizes h v.first_slot refl)
            (b.is ∙ ap whole b.slim.code ∙ ap (λ (i : RuntimeIds). whole (front_of p i.state)) ei);
      }
