-- What a pause costs in a guarded function of the emitted module, and that the module behaves like its original.
use Rattle.std.proofs.Common.{◌≡◌, ◌≢◌, ℕ, suc, ◌+◌, ◌*◌, ◌≤◌, List, [], ◌∷◌, length, Bool, true, false, Option, Some, refl, ap, subst, arith, length-append, sym, ◌∙◌}
use Rattle.std.specs.Prelude.{if◌then◌else◌, slice_get}
use Rattle.wa_types.specs.Base.{Base}
use Rattle.wa_types.specs.Bounds.{Weight}
use Rattle.wa_types.specs.Frames.{Pair, Place, Saved, SlotPairs, named_places, slot_places}
use Rattle.wa_types.specs.Modules.{defined_at, locals_of}
use Rattle.wa_types.specs.Pausing.{Numbered, Settings, save_all, is_told}
use Rattle.wa_types.specs.Runtime.{global_space}
use Rattle.wa_types.specs.Syntax.{Code, Func, Module}
use Rattle.wa_types.specs.Validity.{Valid}
use Rattle.wa_types.specs.declared.values.ValType.{ValType}
use Rattle.run_theory.specs.Flat.{FlatFunc, followed_by, result_got}
use Rattle.flat_laws.specs.Flatten.{flattened}
use Rattle.flat_laws.proofs.RuntimeModules.{base_flattened, base_slots}
use Rattle.frame_laws.specs.Function.{FrameCodes, value_code, value_given}
use Rattle.frame_laws.specs.Layout.{gap, kept, kept_count, Layout, restore_code, restore_cost, save_code, save_cost}
use Rattle.guard_form.specs.Bounds.{over, passing}
use Rattle.guard_form.specs.Pieces.{first_piece, units}
use Rattle.headline.specs.Rewritten.{KeepsFew}
use Rattle.headline.proofs.Sizes.{small_law}
use Rattle.run_laws.proofs.BlockingRuns.{base_codes, well_formed_in}
use Rattle.slim_laws.specs.SlimModule.{AllSlimPieces, Pieces, flat_terms}
use Rattle.slim_laws.proofs.UnitsPassed.{passing_law}
use Rattle.headline.specs.EmittedModule.{places_in, Emitted, fields_of, guarded_of, layout_of, AllKeepEnough, Framing, kept_frames, lay_at, result_at}
use Rattle.headline.specs.EmittedLaws.{EmittedBehaves}
use Rattle.headline.proofs.Behaving.{says}
use Rattle.headline.proofs.FrameTails.{restore_then, save_then}
use Rattle.headline.proofs.PairedFlat.{base_defined, base_locals}
use Rattle.headline.proofs.StackAgain.{stacks_stand}
use Rattle.headline.proofs.WrittenLocals.{index_of}
use Rattle.slot_laws.proofs.Closed.{one_list}
use Rattle.std.proofs.lemmas.Option.{slice_get_within, get_or_from_slice_get}
use Rattle.frame_laws.proofs.OneFunction.{layout_codes}
use Rattle.guard_form.specs.Functions.{GuardedFunc, indices_of}
use Rattle.guard_form.specs.Guarded.{guarded_body}
use Rattle.guard_runs.specs.Joined.{one_frame}
use Rattle.headline.specs.Framed.{Framed, FramedCalls, pause_cost}

-- codes that are those of a layout
framed_codes : (l : Layout) (body saving restoring : Code) (r : Option ValType) (k : ℕ) → saving ≡ save_code l (value_code r)
    → ((c : Code) → followed_by restoring c ≡ restore_code l c) → l.index ≢ l.scratch
    → FrameCodes (record { layout = l; body = body; given = value_given r; saving = saving; restoring = followed_by restoring; save_most = save_cost l + 1; restore_most = restore_cost l }) k
framed_codes l body saving restoring r k saves restores apart =
    let saves_back = sym saves in
    let restores_back : (c : Code) → restore_code l c ≡ followed_by restoring c = λ c. sym (restores c) in
    subst (λ (w : Code × (Code → Code)). FrameCodes (record {
      layout = l;
      body = body;
      given = value_given r;
      saving = w.0;
      restoring = w.1;
      save_most = save_cost l + 1;
      restore_most = restore_cost l;
    }) k) (λ i. (saves_back i, λ c. restores_back c i)) (layout_codes l body r k apart)

kept_few : (keep : ℕ → Bool) (qs : List Place) → kept_count (fields_of keep qs) ≤ length qs
kept_few keep [] = omega arith
kept_few keep (q ∷ qs) = by (keep q.local) (kept_few keep qs)
  where
    by : (b : Bool) → kept_count (fields_of keep qs) ≤ length qs → kept_count ((if b then kept q.local q.ty else gap q.ty) ∷ fields_of keep qs) ≤ suc (length qs)
    by true ih = omega arith
    by false ih = omega arith

named_count : (x : ℕ) (ts : List ValType) → length (named_places (λ y. true) x ts) ≡ length ts
named_count x [] = refl
named_count x (t ∷ ts) = ap suc (named_count (suc x) ts)

slot_count : (x : ℕ) (ps : List Pair) → length (slot_places (λ p. true) x ps) ≡ length ps
slot_count x [] = refl
slot_count x (p ∷ ps) = ap suc (slot_count (suc x) ps)

pub keeps_few : (m : Module) (s : Settings) (which : List Bool) (keep : (func local : ℕ) → Bool) → Valid m → (x : ℕ) (f : Func) → defined_at m x ≡ Some f
    → KeepsFew m f (layout_of m s which keep x f)
keeps_few m s which keep valid x f is =
    let k = kept_few (keep x) (Saved (Base m) save_all f 0) in
    let l = length-append (named_places (λ y. true) 0 (locals_of (Base m) f)) (slot_places (λ p. true) (length (locals_of (Base m) f)) (SlotPairs (Base m) f)) in
    let n = named_count 0 (locals_of (Base m) f) in
    let c = slot_count (length (locals_of (Base m) f)) (SlotPairs (Base m) f) in
    let o = ap length (base_locals m f) in
    let q = ap length (base_slots m valid x f is) in
    omega arith

module _ (m : Module) (s : Settings) (which : List Bool) (pieces : (index : ℕ) → Pieces) (keep : (func local : ℕ) → Bool) (valid : Valid m)
    (slim : AllSlimPieces (Base m) which (places_in m s which) pieces) where
  abbrev frames : (index : ℕ) → Framing
  frames = kept_frames m s which pieces keep

  costs : (x : ℕ) (f : Func) → defined_at m x ≡ Some f → is_told (slice_get which x) ≡ true
      → pause_cost (global_space m) (guarded_of m s which frames x f) (one_frame (layout_of m s which keep x f) (result_at m s which keep x (defined_at m x))) ≤ 112 * (Weight m f + 4)
  costs x f is told =
      let q = index_of m x f is in
      let ps = Numbered m s which f in
      let small = small_law m q.0 x f (global_space m) ps (layout_of m s which keep x f) valid q.2 (keeps_few m s which keep valid x f is) in
      let cost = small.cost in
      let same : passing (first_piece ps 0 (flattened (Base m) x f).body) (units ps 0 (flattened (Base m) x f).body)
      ≡ passing (first_piece ps 0 (flattened m x f).body) (units ps 0 (flattened m x f).body) =
      ap (λ (z : FlatFunc). passing (first_piece ps 0 z.body) (units ps 0 z.body)) (base_flattened m valid x f is) in
      let same_end : over (result_got (flattened (Base m) x f).result) ≡ over (result_got (flattened m x f).result) =
      ap (λ (z : FlatFunc). over (result_got z.result)) (base_flattened m valid x f is) in
      let body = (flattened (Base m) x f).body in
      let sp = slim x f (base_defined m x ∙ is) told in
      let less = passing_law (flat_terms (Base m) ps x f) 0 (sp.out ∷ []) sp.out sp.here (first_piece ps 0 body) (pieces x).first (units ps 0 body) (pieces x).units sp.slim in
      omega arith

  module _ (keeps : AllKeepEnough m s which keep) (policy : s.policy ≡ save_all) where
    one : (x : ℕ) (f : Func) → defined_at m x ≡ Some f → is_told (slice_get which x) ≡ true → (k place : ℕ) → slice_get (Numbered m s which f) k ≡ Some place → Framed m s which frames x f k place
    one x f is told k place number =
        let l : Layout = lay_at m s which keep x (defined_at m x) in
        let gf : GuardedFunc = guarded_of m s which frames x f in
        let same : layout_of m s which keep x f ≡ lay_at m s which keep x (defined_at m x) = sym (ap (lay_at m s which keep x) is) in
        let enough = keeps x f is told in
        let index : l.index ≡ length (flattened (Base m) x f).locals = sym (ap (λ (z : Layout). z.index) same) in
        let scratch : l.scratch ≡ suc (length (flattened (Base m) x f).locals) = sym (ap (λ (z : Layout). z.scratch) same) in
        record {
          codes = framed_codes l (guarded_body (indices_of (global_space m) gf) (followed_by gf.restoring) gf.first gf.body) gf.saving gf.restoring (result_at m s which keep x (defined_at m x)) k
              (save_then l (value_code (result_at m s which keep x (Some f))) ∙ ap (λ o. save_code l (value_code (result_at m s which keep x o))) (sym is)) (restore_then l)
              (λ e. let z : l.index ≡ l.scratch = e in omega arith);
          address = sym (ap (λ (z : Layout). z.address) same);
          index = index;
          scratch = scratch;
          keep = keep x;
          fields = sym (ap (λ (z : Layout). z.fields) same) ∙ ap (λ z. fields_of (keep x) (Saved (Base m) z f place)) (sym policy);
          own = enough.own;
          stacked = λ ops points. enough.stacked place ops (k, slice_get_within (Numbered m s which f) k place number, get_or_from_slice_get (Numbered m s which f) k place place number) points;
          cost = subst (λ (z : Layout). pause_cost (global_space m) (guarded_of m s which frames x f) (one_frame z (result_at m s which keep x (defined_at m x))) ≤ 112 * (Weight m f + 4)) same (costs x f is told);
        }

    -- each call's frame is what is asked
    pub kept_framed : FramedCalls m s which (kept_frames m s which pieces keep)
    kept_framed = one

-- THE EMITTED MODULE BEHAVES like its original
pub emitted_behave : EmittedBehaves
emitted_behave m s told pieces keep p valid written_valid written_codes policy tells0 em0 keeps0 wf which tells plan os n cmp pauses =
    let same = one_list m s told which tells0 tells in
    let em = subst (λ w. Emitted m s w (kept_frames m s w pieces keep) p) same em0 in
    let keeps = subst (λ w. AllKeepEnough m s w keep) same keeps0 in
    let codes = well_formed_in m wf in
    says m s which (kept_frames m s which pieces keep) p valid written_valid codes written_codes tells em plan cmp.given
    (stacks_stand m s which pieces keep plan p valid tells em cmp.given (base_codes m codes) keeps (kept_framed m s which pieces keep valid em.slim keeps policy)) os n cmp pauses
