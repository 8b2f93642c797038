-- The codes of frames of the policy `live` hold what they owe.
use Rattle.std.proofs.Common.{◌≡◌, ◌≢◌, ◌∙◌, ℕ, zero, suc, ◌+◌, ◌*◌, ◌^◌, ◌<◌, ◌≤◌, List, [], ◌∷◌, ◌++◌, length, Some, Bool, true, refl, sym, ap, subst, arith, length-append}
use Rattle.std.specs.Prelude.{slice_get}
use Rattle.wa_types.specs.declared.values.ValType.{ValType}
use Rattle.wa_types.specs.declared.values.ValType.TheVariants.{I32}
use Rattle.wa_types.specs.Bounds.{Weight, code_weight}
use Rattle.wa_types.specs.Frames.{Count, Place, Saved, is_on_stack}
use Rattle.wa_types.specs.Liveness.{is_live_after}
use Rattle.wa_types.specs.Modules.{defined_at, locals_of}
use Rattle.wa_types.specs.Pausing.{Numbered, Policy, Settings, save_live}
use Rattle.wa_types.specs.Points.{func_call_points}
use Rattle.wa_types.specs.Pruned.{pruned}
use Rattle.wa_types.specs.Runtime.{global_space}
use Rattle.wa_types.specs.Sizes.{FuncSizes, StrictSizeRule}
use Rattle.wa_types.specs.Syntax.{done, Func, Module}
use Rattle.wa_types.specs.Typing.{Around, Types}
use Rattle.wa_types.specs.Validity.{Valid}
use Rattle.wa_types.proofs.SizeBounds.{weight_fits}
use Rattle.wa_model.specs.Rewrites.{frames_size}
use Rattle.run_theory.proofs.RuntimeValid.{behind}
use Rattle.slot_laws.proofs.Few.{slots_are_few}
use Rattle.flat_laws.specs.Flatten.{flattened}
use Rattle.flat_laws.proofs.Whole.{counted}
use Rattle.frame_laws.specs.Layout.{fields_size, kept_count}
use Rattle.call_frames.specs.FrameParts.{restore_bound_at, restoring_by_call, save_bound_at, saving_by_call, shared_size}
use Rattle.call_frames.specs.PlainFrames.{FramesSmall, SavedParts, call_fields, frames_of, parts_of}
use Rattle.call_frames.specs.PlainLaws.{PlainCodes, PlainSmall, PlainTyped}
use Rattle.call_frames.proofs.PlainBounds.{cost_law, size_law}
use Rattle.call_frames.proofs.PlainHeld.{depth_law, held_law}
use Rattle.call_frames.proofs.PlainTold.{calls_small as named_small, fields_law, tell_law}
use Rattle.call_frames.proofs.PlainTypes.{restore_law, save_law}
use Rattle.emitted_form.specs.LiveFrames as Live
use Rattle.slim_laws.specs.SlimModule.{Pieces, SlimPieces}
use Rattle.guard_form.specs.Bounds.{reads}
use Rattle.emitted_form.specs.EmittedBy.{FrameCode}
use Rattle.emitted_form.specs.CodesHold.{codes_size, CodeTyped, CodesHold, three}
use Rattle.emitted_form.proofs.EmittedBy.{defined_where}
use Rattle.emitted_form.proofs.SizesBy.{code_weighs, counts_less}
use Rattle.emitted_form.proofs.WrittenTypes.{fields_typed, places_written}
use Rattle.emitted_form.proofs.BasicCode.{fits_basic}
use Rattle.emitted_form.proofs.FitsBy.{CodesFit, one_of_all}
use Rattle.emitted_form.proofs.Spaces.{globals_counted}
use Rattle.emitted_form.specs.ByCallFraming.{PartsKeepLive}
use Rattle.emitted_form.proofs.CallTails.{restoring_then, saving_then}
use Rattle.emitted_form.specs.LiveParts.{LiveParts, live_codes, saved_total}
use Rattle.emitted_form.proofs.CallCounts.{numbers_few, saved_few, total_few}
use Rattle.emitted_form.proofs.PartRows.{EachPart, GoodFields, all_kept, each_part, good_first, good_rest, kept_bytes, parts_small, parts_typed, shared_few}

-- the element at a place that is there
there_is : (xs : List ℕ) (k : ℕ) → k < length xs → (x : ℕ) × (slice_get xs k ≡ Some x)
there_is [] k lt = absurd (omega (arith, lt))
there_is (x ∷ xs) zero lt = (x, refl)
there_is (x ∷ xs) (suc k) lt = there_is xs k (omega (arith, lt))

module _ (m : Module) (s : Settings) (which : List Bool) (valid : Valid m) (sizes : StrictSizeRule m) (x : ℕ) (f : Func) (ps : Pieces) (p : SavedParts)
    (is : defined_at m x ≡ Some f) (some : 0 < length (Numbered m s which f)) (few : Count m f ≤ 50000) (slim : SlimPieces m (Numbered m s which f) x f ps) (owed : LiveParts m s which x f p) where
  abbrev n : ℕ
  n = length (Numbered m s which f)

  abbrev w : ℕ
  w = code_weight m (pruned f.body)

  abbrev codes : FrameCode
  codes = live_codes (λ y. ps) (λ y. p) x f

  abbrev locals : List ValType
  locals = (flattened m x f).locals ++ three

  own_few : length (flattened m x f).locals + 3 ≤ 50000
  own_few = let c = counted m x f in omega (arith, c, few)

  locals_few : length locals ≤ 50000
  locals_few = let a = length-append (flattened m x f).locals three in let b = own_few in omega (arith, a, b)

  weight_small : w + length (locals_of m f) < 2 ^ 31
  weight_small =
      let at = defined_where m x f is in
      weight_fits (2 ^ 31) (2 ^ 31) m f (one_of_all (FuncSizes (2 ^ 31) (2 ^ 31) m) m.funcs at.0 f sizes.each_func at.1)

  -- ---- the fields of a call

  abbrev saved : (place : ℕ) → List Place
  saved place = Saved m save_live f place

  kept_few : (place : ℕ) → length (saved place) ≤ 50000
  kept_few place = let a = saved_few m f place in omega (arith, a, few)

  good_place : (place : ℕ) → GoodFields locals (Live.fields_at m f place)
  good_place place = (
    fields_typed locals (λ y. true) (saved place) (places_written m x f locals (is_live_after f place) (is_on_stack (slice_get (func_call_points m f) place)) refl),
    let a = kept_bytes (saved place) in let b = kept_few place in omega (arith, a, b),
  )

  good_call : (k : ℕ) → k < n → GoodFields locals (call_fields k p.parts)
  good_call k lt =
      let here = there_is (Numbered m s which f) k lt in
      subst (GoodFields locals) (sym (owed.fields k here.0 here.1)) (good_place here.0)

  good_parts : EachPart (GoodFields locals) p.parts
  good_parts = each_part (GoodFields locals) (good_first locals) (good_rest locals) n p.parts some good_call owed.below owed.named

  -- ---- types

  module _ (c : Around) (memory : c.memory ≡ true) (address : slice_get c.globals (suc (global_space m)) ≡ Some (record { ty = I32; mutable = true })) (same : c.locals ≡ locals) where
    plain_typed : PlainTyped c p
    plain_typed =
        let l : ℕ = length (flattened m x f).locals in
        record {
          memory = memory;
          address = ap (slice_get c.globals) owed.address ∙ address;
          index = ap (slice_get c.locals) owed.index ∙ ap (λ ls. slice_get ls l) same ∙ behind (flattened m x f).locals three l 0 (omega arith);
          scratch = ap (slice_get c.locals) owed.scratch ∙ ap (λ ls. slice_get ls (suc l)) same ∙ behind (flattened m x f).locals three (suc l) 1 (omega arith);
          parts = parts_typed c.locals p.parts (subst (λ ls. EachPart (GoodFields ls) p.parts) (sym same) good_parts);
        }

  restoring_typed : CodeTyped m x f (restoring_by_call (frames_of p) done)
  unfolding Types
  restoring_typed c ls memory address same = restore_law c ls p done [] (plain_typed c memory address same) refl

  saving_typed : CodeTyped m x f (saving_by_call (frames_of p) done)
  unfolding Types
  saving_typed c ls memory address same = save_law c ls p done [] (plain_typed c memory address same) refl

  -- ---- numbers

  shared_small : shared_size (parts_of p.index p.parts) ≤ 400000
  shared_small =
      let a = shared_few p.index 0 p.parts in
      let b = (good_call 0 some).1 in omega (arith, a, b)

  calls_small : n < 2 ^ 31
  calls_small = let a = numbers_few m s which f in let b = weight_small in omega (arith, a, b)

  plain_small : PlainSmall p
  plain_small =
      let a = owed.address in
      let i = owed.index in
      let sp = owed.scratch in
      let g = globals_counted m in
      let most = sizes.globals in
      let own = own_few in
      let many = locals_few in
      let shared = shared_small in
      let calls = calls_small in
      record {
        address = omega (arith, a, g, most);
        index = omega (arith, i, own);
        scratch = omega (arith, sp, own);
        shared = omega (arith, shared);
        parts = parts_small locals (shared_size (parts_of p.index p.parts)) n p.parts (omega (arith, many)) shared (omega (arith, calls)) owed.below good_parts;
      }

  saving_fits : PlainCodes p (saving_by_call (frames_of p) done)
  saving_fits = held_law.saving p plain_small

  restoring_fits : PlainCodes p (restoring_by_call (frames_of p) done)
  restoring_fits = held_law.restoring p plain_small

  state_apart : p.address ≢ global_space m
  state_apart e = let a = owed.address in omega (arith, a, e)

  -- they don't read the state
  pub live_unread : (reads (global_space m) codes.restoring ≡ 0) × (reads (global_space m) codes.saving ≡ 0)
  live_unread = (restoring_fits.reads_none (global_space m) state_apart, saving_fits.reads_none (global_space m) state_apart)

  -- ---- sizes

  -- as the size law counts them
  both_size : codes_size codes ≤ 32 + 30 * saved_total m f (Numbered m s which f)
  both_size =
      let a = size_law.saving p in
      let b = size_law.restoring p in
      let c = owed.size in omega (arith, a, b, c)

  own_size : s.policy ≡ save_live → codes_size codes ≤ 64 * (Weight m f + 4) + frames_size m s.policy f (Numbered m s which f)
  own_size policy =
      subst (λ (q : Policy). codes_size codes ≤ 64 * (Weight m f + 4) + frames_size m q f (Numbered m s which f))
      (sym policy) (let a = both_size in omega (arith, a))

  -- by how many calls there are
  pub live_few : codes_size codes ≤ 32 + 1500000 * n
  live_few =
      let a = both_size in
      let b = total_few m f (Numbered m s which f) few in omega (arith, a, b)

  pub live_small : codes_size codes < 2 ^ 53
  live_small = let a = live_few in let c = calls_small in omega (arith, a, c)

  pub live_fits : CodesFit codes
  live_fits = (fits_basic (restoring_by_call (frames_of p) done) restoring_fits.fits, fits_basic (saving_by_call (frames_of p) done) saving_fits.fits)

  pub live_hold : s.policy ≡ save_live → CodesHold m s which x f codes
  live_hold policy = record {
    slim = slim;
    restoring_typed = restoring_typed;
    saving_typed = saving_typed;
    restoring_quiet = record { calls = restoring_fits.calls; lists = restoring_fits.lists; depth = depth_law.restoring p plain_small };
    saving_quiet = record { calls = saving_fits.calls; lists = saving_fits.lists; depth = depth_law.saving p plain_small };
    size = own_size policy;
  }

  -- ---- as the headline asks

  apart : p.index ≢ p.scratch
  apart e = let i = owed.index in let sp = owed.scratch in omega (arith, i, sp, e)

  frames_small : FramesSmall p
  frames_small k lt =
      let c = owed.count in
      let good = (good_call k (omega (arith, lt, c))).1 in
      let e = ap fields_size (fields_law p.index k p.parts) in omega (arith, good, e)

  call_cost : (k place : ℕ) → slice_get (Numbered m s which f) k ≡ Some place → save_bound_at (frames_of p) k + 1 + restore_bound_at (frames_of p) k ≤ 64 * (Weight m f + 4)
  call_cost k place at =
      let a = cost_law p k in
      let b = owed.tests in
      let c = numbers_few m s which f in
      let l = counted m x f in
      let d = ap kept_count (owed.fields k place at) in
      let e = all_kept (saved place) in
      let g = saved_few m f place in
      let where_ = defined_where m x f is in
      let h = slots_are_few m where_.0 f valid where_.1 in
      let i = counts_less (pruned f.body) in
      let j = code_weighs m (pruned f.body) in omega (arith, a, b, c, l, d, e, g, h, i, j)

  pub live_kept : PartsKeepLive m s which x f (frames_of p)
  live_kept = record {
    tells =
        let c = owed.count in
        let n = calls_small in
        tell_law p apart (omega (arith, c, n)) (named_small (shared_size (parts_of p.index p.parts)) p.parts plain_small.parts) frames_small;
    count = let c = owed.count in omega (arith, c);
    address = owed.address;
    index = owed.index;
    scratch = owed.scratch;
    fields = λ k place at. fields_law p.index k p.parts ∙ owed.fields k place at;
    cost = call_cost;
    saves_on = saving_then p;
    restores_on = restoring_then p;
  }
