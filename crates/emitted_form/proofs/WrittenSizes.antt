-- Under the policy `all` the codes of frames hold what they owe.
use Rattle.std.proofs.Common.{◌≡◌, ◌∙◌, ℕ, suc, ◌+◌, ◌*◌, ◌<◌, ◌≤◌, List, [], ◌∷◌, length, map, None, Bool, true, false, refl, sym, ap, subst, arith, length-append}
use Rattle.std.specs.Prelude.{Some, slice_get, if◌then◌else◌}
use Rattle.wa_types.specs.declared.values.ValType.{ValType}
use Rattle.wa_types.specs.Bounds.{code_weight}
use Rattle.wa_types.specs.Counts.{depth_of}
use Rattle.wa_types.specs.Frames.{Pair, Place, SlotPairs, named_places, slot_places, Saved}
use Rattle.wa_types.specs.Modules.{locals_of}
use Rattle.wa_types.specs.Pausing.{save_all, Settings}
use Rattle.wa_types.specs.Pruned.{pruned}
use Rattle.wa_types.specs.Syntax.{Code, done, Func, Module}
use Rattle.wa_types.specs.Validity.{Valid}
use Rattle.run_theory.specs.Growth.{Each}
use Rattle.wa_model.specs.Rewrites.{instructions_and_labels}
use Rattle.frame_laws.specs.Layout.{kept, gap, kept_count, Layout, fields_size, placed, spilled_by, restore_code, save_code}
use Rattle.frame_laws.proofs.FrameSizes.{function_size, function_depth, restore_size, restore_depth}
use Rattle.slot_laws.proofs.Few.{slots_are_few}
use Rattle.emitted_form.specs.CodesHold.{AllCodesHold, AllSlim, CodeQuiet, codes_size}
use Rattle.emitted_form.specs.Emitted.{is_kept, field_where, frame_layout, layout_codes}
use Rattle.emitted_form.proofs.EmittedBy.{defined_where}
use Rattle.emitted_form.proofs.Marks.{Marking, marks_of, marks_saving, marks_restoring, call_marking, calls_are, table_marking, lists_few}
use Rattle.emitted_form.proofs.SizesBy.{code_weighs, counts_less}
use Rattle.slim_laws.specs.SlimModule.{Pieces}
use Rattle.emitted_form.proofs.WrittenTypes.{restoring_typed, saving_typed}

-- ---- saved locals

named_count : (x : ℕ) (ts : List ValType) → length (named_places (λ x. true) x ts) ≡ length ts
named_count x [] = refl
named_count x (t ∷ ts) = ap suc (named_count (suc x) ts)

slot_count : (x : ℕ) (ps : List Pair) → length (slot_places (λ p. true) x ps) ≡ length ps
slot_count x [] = refl
slot_count x (p ∷ ps) = ap suc (slot_count (suc x) ps)

pub saved_count : (m : Module) (f : Func) → length (Saved m save_all f 0) ≡ length (locals_of m f) + length (SlotPairs m f)
saved_count m f =
    let n = named_count 0 (locals_of m f) in
    let k = slot_count (length (locals_of m f)) (SlotPairs m f) in
    let l = length-append (named_places (λ x. true) 0 (locals_of m f)) (slot_places (λ p. true) (length (locals_of m f)) (SlotPairs m f)) in
    omega arith

kept_few : (keep : ℕ → Bool) (ps : List Place) → kept_count (map (field_where keep) ps) ≤ length ps
kept_few keep [] = omega arith
kept_few keep (p ∷ ps) = by (keep p.local) (kept_few keep ps)
  where
    by : (b : Bool) → kept_count (map (field_where keep) ps) ≤ length ps → kept_count ((if b then kept p.local p.ty else gap p.ty) ∷ map (field_where keep) ps) ≤ suc (length ps)
    by true le = omega arith
    by false le = omega arith

-- ---- the codes of a layout

module _ (l : Layout) where
  abbrev restoring : Code
  restoring = restore_code l done

  abbrev saving : Code
  saving = save_code l done

  both_size : instructions_and_labels restoring + instructions_and_labels saving ≡ 28 + 6 * kept_count l.fields
  unfolding instructions_and_labels
  both_size =
      let a = function_size l done None in
      let b = restore_size l done in omega arith

  pub restoring_depth : depth_of restoring ≤ 1
  unfolding depth_of
  restoring_depth = let a = restore_depth l done in omega arith

  pub saving_depth : depth_of saving ≤ 1
  unfolding depth_of
  saving_depth = let a = function_depth l done None in omega arith

  unmarked_restoring : {X : Type 0} (k : Marking X) → marks_of k restoring ≡ []
  unmarked_restoring k = marks_restoring k (spilled_by l) (fields_size l.fields) (placed 0 l.fields) done

  unmarked_saving : {X : Type 0} (k : Marking X) → marks_of k saving ≡ []
  unmarked_saving k = marks_saving k (spilled_by l) (fields_size l.fields) (placed 0 l.fields) done

  quiet : (c : Code) → depth_of c ≤ 1 → marks_of call_marking c ≡ [] → marks_of table_marking c ≡ [] → CodeQuiet c
  quiet c d e g = record {
    calls = sym (calls_are c) ∙ e;
    lists = λ n. lists_few n c (subst (Each (λ x. x < n)) (sym g) tt);
    depth = d;
  }

  restoring_quiet : CodeQuiet restoring
  restoring_quiet = quiet restoring restoring_depth (unmarked_restoring call_marking) (unmarked_restoring table_marking)

  saving_quiet : CodeQuiet saving
  saving_quiet = quiet saving saving_depth (unmarked_saving call_marking) (unmarked_saving table_marking)

-- ---- a function

module _ (m : Module) (s : Settings) (which : List Bool) (pieces : (index : ℕ) → Pieces) where
  pub layout_size : (x : ℕ) (f : Func) (v : Valid m) (i : ℕ) → slice_get m.funcs i ≡ Some f
      → codes_size (layout_codes m s which pieces x f) ≤ 6 * code_weight m (pruned f.body) + 6 * length (locals_of m f) + 34
  layout_size x f v i e =
      let a = both_size (frame_layout m s which x f) in
      let b = kept_few (is_kept m s which x f) (Saved m save_all f 0) in
      let c = saved_count m f in
      let d = slots_are_few m i f v e in
      let k = counts_less (pruned f.body) in
      let l = code_weighs m (pruned f.body) in omega arith

  pub layouts_hold : Valid m → AllSlim m s which pieces → AllCodesHold m s which (layout_codes m s which pieces)
  layouts_hold v slim x f is told =
      let at = defined_where m x f is in
      let z = layout_size x f v at.0 at.1 in
      record {
        slim = slim x f is told;
        restoring_typed = restoring_typed m s which x f;
        saving_typed = saving_typed m s which x f;
        restoring_quiet = restoring_quiet (frame_layout m s which x f);
        saving_quiet = saving_quiet (frame_layout m s which x f);
        size = omega arith;
      }
