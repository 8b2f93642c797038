-- A function as it is written is the definition's, part by part.
use Rattle.std.proofs.Common.{◌≡◌, ◌∙◌, ℕ, suc, ◌+◌, ◌-◌, ◌^◌, ◌<◌, ◌≤◌, List, [], ◌∷◌, ◌++◌, length, length-append, map, filter, take, drop, None, Bool, All, refl, sym, ap, subst, arith}
use Rattle.std.specs.Prelude.{nat_lt, ◌||◌}
use Rattle.std.proofs.lemmas.List.{append_assoc, length-map}
use Rattle.std.proofs.Math.Seq.{take-append_seam, drop-append_seam}
use Rattle.wa_types.specs.declared.syntax.Run.{Run}
use Rattle.wa_types.specs.declared.values.ValType.{ValType}
use Rattle.wa_types.specs.declared.values.ValType.TheVariants.{I32, I64}
use Rattle.wa_types.specs.Frames.{Pair, SlotPairs, ResultPairs, Saved}
use Rattle.wa_types.specs.Modules.{locals_of}
use Rattle.wa_types.specs.Pausing.{save_all, calls_of, calls_in, Listed, Settings, places_from, Numbered}
use Rattle.wa_types.specs.Runtime.{global_space}
use Rattle.wa_types.specs.Sizes.{StrictSizeRule}
use Rattle.wa_types.specs.Syntax.{a_block, Code, done, Func, Module, nest}
use Rattle.wa_types.specs.Validity.{Valid}
use Rattle.run_theory.specs.Flat.{FlatFunc, code_of, followed_by}
use Rattle.run_theory.specs.FlatFits.{FlatFits, one_run}
use Rattle.run_theory.specs.FlatView.{flat_func_of}
use Rattle.flat_laws.proofs.Calls.{calls_stay}
use Rattle.flat_laws.proofs.Whole.{meets, counted}
use Rattle.flat_laws.specs.Flatten.{flattened}
use Rattle.flat_laws.specs.FlatModule.{extra_types}
use Rattle.flatten.specs.declared.whole.Flattened.{Flattened}
use Rattle.local_spill.specs.Ids.{ids_behind}
use Rattle.local_spill.specs.Laying.{in_a_row, row_size, saved_local}
use Rattle.local_spill.specs.Spilling.{SpillIndices, spill_indices, restoring, saving}
use Rattle.local_spill.specs.declared.RuntimeIds.{RuntimeIds}
use Rattle.local_spill.specs.declared.frames.Layout.{Layout as LayoutValue}
use Rattle.local_spill.specs.declared.frames.Place.{Place}
use Rattle.frame_laws.specs.Layout.{FrameField, Layout as FrameLayout, fields_size, placed, spilled_by}
use Rattle.frame_laws.specs.Function.{result_type, value_code}
use Rattle.guard_form.specs.Guarded.{block_unit, guard_indices, guarded_body}
use Rattle.guard_form.specs.Pieces.{Units, call_total}
use Rattle.flow_rewrite.specs.Numbering.{callees, gets_number}
use Rattle.emitted_form.specs.Emitted.{IsAllWritten, holds_operand, is_kept, field_where, frame_layout, written_func}
use Rattle.slim_laws.specs.SlimModule.{Pieces, SlimPieces}
use Rattle.func_rewrite.specs.WrittenFrames.{numbered_places, AllFrames}
use Rattle.func_rewrite.specs.Marking.{StacksFit}
use Rattle.func_rewrite.specs.Bodies.{IsSlimBody}
use Rattle.func_rewrite.specs.Frames.{IsFlattened, FramesUnder}
use Rattle.func_rewrite.proofs.CallNumbers.{total_is, numbers_are, stacks_fit}
use Rattle.func_rewrite.proofs.FrameChoice.{saved_are, chosen_places, chosen_size, row_below, frames_at}

abbrev pub mk_func : ℕ → List Run → Code → Func
mk_func sort locals body = record { sort = sort; locals = locals; body = body }

pub func_is : (g : Func) (sort : ℕ) (locals : List Run) (body : Code) → sort ≡ g.sort → locals ≡ g.locals → body ≡ g.body → mk_func sort locals body ≡ g
func_is g sort locals body a b c = λ i. record { sort = a i; locals = b i; body = c i }

module _ (m : Module) (s : Settings) (which : List Bool) (f : Func) (v : Flattened) (valid : Valid m) (sizes : StrictSizeRule m) (h : IsFlattened m f v) where
  abbrev x : ℕ
  x = v.func.func

  abbrev flat : FlatFunc
  flat = flat_func_of v.func

  abbrev slots : List ValType
  slots = map (λ (p : Pair). p.ty) (SlotPairs m f)

  abbrev results : List ValType
  results = map (λ (p : Pair). p.ty) (ResultPairs m f)

  pub same_locals : v.func.locals.items ≡ (locals_of m f ++ slots) ++ results
  same_locals = ap (λ (g : FlatFunc). g.locals) h.flat

  locals_few : length (flattened m x f).locals ≤ 50000
  locals_few = let e = counted m x f in let k = h.few in omega arith

  pub fits : FlatFits flat
  fits = subst FlatFits (sym h.flat) (meets m x f valid sizes h.defined locals_few).fits

  calls : calls_of (code_of flat.body) ≡ calls_in f
  calls = ap (λ (g : FlatFunc). calls_of (code_of g.body)) h.flat ∙ calls_stay m x f

  pub few_calls : call_total flat.body < 2 ^ 32
  few_calls = let e = total_is (length flat.locals) 1 flat.body fits.statements in let k = fits.few_calls in omega arith

  pub stacks : StacksFit (length v.func.locals.items) flat.body
  stacks = stacks_fit (length flat.locals) 1 flat.body fits.statements

  pub numbers : places_from (gets_number which (Listed m s) s.ignore_indirect) 0 (callees flat.body) ≡ Numbered m s which f
  numbers = numbers_are m s which f (length flat.locals) 1 flat.body fits.statements calls

  pub slots_told : v.first_slot ≤ v.first_result
  slots_told = let a = h.first_slot in let b = h.first_result in omega arith

  pub own_few : v.first_slot ≤ length v.func.locals.items
  own_few =
      let e = h.first_slot in
      let k = ap length same_locals in
      let l = length-append (locals_of m f ++ slots) results in
      let n = length-append (locals_of m f) slots in omega arith

  slots_count : length (locals_of m f ++ slots) ≡ v.first_result
  slots_count =
      let e = h.first_result in
      let n = length-append (locals_of m f) slots in
      let k = length-map (SlotPairs m f) (λ (p : Pair). p.ty) in omega arith

  pub saved_few : v.first_result ≤ length v.func.locals.items
  saved_few = let k = ap length same_locals in let l = length-append (locals_of m f ++ slots) results in let e = slots_count in omega arith

  -- the saved locals are the first ones
  first_are : take v.first_result v.func.locals.items ≡ locals_of m f ++ slots
  first_are = ap (λ n. take n v.func.locals.items) (sym slots_count) ∙ ap (take (length (locals_of m f ++ slots))) same_locals ∙ take-append_seam (locals_of m f ++ slots) results

  pub saved : numbered_places 0 (take v.first_result v.func.locals.items) ≡ Saved m save_all f 0
  saved = ap (numbered_places 0) first_are ∙ sym (saved_are m f 0)

  numbered_count : (k : ℕ) (ts : List ValType) → length (numbered_places k ts) ≡ length ts
  numbered_count k [] = refl
  numbered_count k (t ∷ ts) = ap suc (numbered_count (suc k) ts)

  -- ---- the locals

  pub runs_same : (own : ℕ) → own ≡ v.first_slot → f.locals ++ map one_run (drop own v.func.locals.items ++ I32 ∷ I32 ∷ I64 ∷ []) ≡ f.locals ++ map one_run (extra_types m f ++ I32 ∷ I32 ∷ I64 ∷ [])
  runs_same own e =
      let rest : drop own v.func.locals.items ≡ extra_types m f =
      ap (λ n. drop n v.func.locals.items) (e ∙ h.first_slot) ∙ ap (drop (length (locals_of m f))) (same_locals ∙ append_assoc (locals_of m f) slots results)
      ∙ drop-append_seam (locals_of m f) (slots ++ results) in
      ap (λ ts. f.locals ++ map one_run (ts ++ I32 ∷ I32 ∷ I64 ∷ [])) rest

  module _ (places : List Place) (ep : map saved_local places ≡ numbered_places 0 (take v.first_result v.func.locals.items)) where
    same_saved : map saved_local places ≡ Saved m save_all f 0
    same_saved = ep ∙ saved

    pub places_few : length places ≤ 50000
    places_few =
        let a = ap length ep in
        let b = length-map places saved_local in
        let c = numbered_count 0 (take v.first_result v.func.locals.items) in
        let d = ap length first_are in
        let e = slots_count in let k = saved_few in let l = fits.few in omega arith

    pub row_fits : All (λ (p : Place). p.local < length v.func.locals.items) (in_a_row 0 places)
    row_fits =
        let d = ap length first_are in
        let e = slots_count in let k = saved_few in
        row_below (length v.func.locals.items) (take v.first_result v.func.locals.items) (omega arith) places ep

    pub frames_are : (numbers : List ℕ) (count : ℕ) (ls : List LayoutValue) → numbers ≡ Numbered m s which f → count ≡ length numbers → AllFrames places count ls → FramesUnder save_all m s which f ls
    frames_are ns count ls en ec a = frames_at m f places same_saved 0 (Numbered m s which f) ls (a.many ∙ ec ∙ ap length en) a.each

    -- ---- the body

    abbrev keep : ℕ → Bool
    keep = is_kept m s which x f

    abbrev fields : List FrameField
    fields = map (field_where keep) (Saved m save_all f 0)

    pub kept_is : (own : ℕ) (numbers : List ℕ) (y : ℕ) → own ≡ v.first_slot → numbers ≡ Numbered m s which f → (nat_lt y own || holds_operand flat numbers y) ≡ keep y
    kept_is own ns y eo en =
        ap (λ k. nat_lt y k || holds_operand flat ns y) (eo ∙ h.first_slot)
        ∙ ap (λ (g : FlatFunc). nat_lt y (length (locals_of m f)) || holds_operand g ns y) h.flat
        ∙ ap (λ ks. nat_lt y (length (locals_of m f)) || holds_operand (flattened m x f) ks y) en

    abbrev units : Pieces → Units
    units p = block_unit p.first p.units (flattened m x f).result

    abbrev front_of : Pieces → (state : ℕ) → SpillIndices → ℕ → List Place → Code
    front_of p g i k ps = guarded_body (guard_indices g (length (flattened m x f).locals) p.exits (units p)) (followed_by (restoring i k ps done)) done (units p)

    abbrev whole : SpillIndices → ℕ → List Place → Code → Code
    whole i k ps guarded = nest a_block None guarded (followed_by (saving i k ps done) (value_code (result_type (flattened m x f).locals (flattened m x f).result)))

    abbrev body_with : Pieces → (state : ℕ) → SpillIndices → ℕ → List Place → Code
    body_with p g i k ps = whole i k ps (front_of p g i k ps)

    abbrev layout : FrameLayout
    layout = frame_layout m s which x f

    pub is_written : (ids : RuntimeIds) (numbers : List ℕ) (chosen row : List Place) (kept : Place → Bool) (size rows : ℕ) (locals : List Run) (body : Code) → ids ≡ ids_behind m
        → numbers ≡ Numbered m s which f → row ≡ in_a_row 0 places → rows ≡ row_size places + 4 → size ≡ rows → ((p : Place) → kept p ≡ keep p.local) → chosen ≡ filter kept row
        → locals ≡ f.locals ++ map one_run (drop v.first_slot v.func.locals.items ++ I32 ∷ I32 ∷ I64 ∷ [])
        → IsSlimBody m numbers ids.state x f (restoring (spill_indices (length v.func.locals.items) ids) (size - 4) chosen done)
        (saving (spill_indices (length v.func.locals.items) ids) (size - 4) chosen done) body
        → IsAllWritten m s which x f (mk_func f.sort locals body)
    is_written ids ns chosen row kept size rows locals body ei en er es ez same ec el b =
        let n : ℕ = length (flattened m x f).locals in
        let g : ℕ = global_space m in
        let p : Pieces = b.slim.pieces in
        let one : g + 1 ≡ suc g = omega arith in
        let two : n + 1 ≡ suc n = omega arith in
        let bytes : size - 4 ≡ fields_size fields = (let z = chosen_size keep places (Saved m save_all f 0) same_saved in omega arith) in
        let spots : chosen ≡ placed 0 fields = ec ∙ ap (filter kept) er ∙ chosen_places keep places (Saved m save_all f 0) same_saved kept same in
        let indices : spill_indices (length v.func.locals.items) (ids_behind m) ≡ spilled_by layout =
        ap (λ k. spill_indices k (ids_behind m)) (ap (λ (q : FlatFunc). length q.locals) h.flat) ∙ (λ i. record { address = one i; index = n; scratch = two i }) in
        let code =
        b.is
        ∙ ap (whole (spill_indices (length v.func.locals.items) ids) (size - 4) chosen) b.slim.code
        ∙ ap (λ (j : RuntimeIds). body_with p j.state (spill_indices (length v.func.locals.items) j) (size - 4) chosen) ei
        ∙ ap (λ j. body_with p g j (size - 4) chosen) indices
        ∙ ap (λ k. body_with p g (spilled_by layout) k chosen) bytes
        ∙ ap (body_with p g (spilled_by layout) (fields_size fields)) spots in
        record {
          pieces = p;
          slim = subst (λ ks. SlimPieces m ks x f p) en b.slim.slim;
          is = func_is (written_func m s which x f p) f.sort locals body refl (el ∙ runs_same v.first_slot refl) code;
        }
