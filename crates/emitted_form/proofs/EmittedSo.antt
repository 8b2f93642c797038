-- The emitted module, as it is defined, is one that the headline speaks of, whatever the codes of frames.
use Rattle.std.proofs.Common.{◌≡◌, replicate, ℕ, suc, ◌+◌, ◌^◌, ◌<◌, ◌≤◌, List, [], ◌∷◌, ◌++◌, length, map, Some, Bool, true, false, refl, sym, ap, ◌∙◌, subst, arith}
use Rattle.std.specs.Prelude.{slice_get, if◌then◌else◌}
use Rattle.std.proofs.lemmas.List.{append_assoc, map-append}
use Rattle.std.proofs.lemmas.List.Concat.{flat_map-append}
use Rattle.wa_types.specs.Base.{Base}
use Rattle.wa_types.specs.Frames.{Count, Pair, ResultPairs, SlotPairs}
use Rattle.wa_types.specs.Modules.{declared_locals, defined_at, func_imports, locals_of}
use Rattle.wa_types.specs.Pausing.{Callee, Numbered, Settings, TellsMayPause, calls_in, has_number, is_told, places_from}
use Rattle.wa_types.specs.Runtime.{global_space, runtime_funcs, with_runtime}
use Rattle.wa_types.specs.Sizes.{StrictSizeRule}
use Rattle.wa_types.specs.Syntax.{done, Func, Module}
use Rattle.wa_types.specs.Validity.{Valid}
use Rattle.wa_types.specs.declared.syntax.Run.{Run}
use Rattle.wa_types.specs.declared.values.ValType.{ValType}
use Rattle.wa_types.specs.declared.values.ValType.TheVariants.{I32, I64}
use Rattle.run_theory.specs.Flat.{FlatFunc, followed_by}
use Rattle.run_theory.specs.FlatFits.{one_run}
use Rattle.run_theory.specs.Quiet.{FreeOfNames}
use Rattle.flat_laws.specs.FlatModule.{extra_types, flat_func, stacks_in}
use Rattle.flat_laws.specs.Flatten.{Names, flattened, names}
use Rattle.flat_laws.proofs.FlatModules.{is_flat}
use Rattle.flat_laws.proofs.RuntimeModules.{base_flattened, base_names, base_results, base_slots}
use Rattle.flat_laws.proofs.Calls.{calls_stay}
use Rattle.flat_laws.proofs.Whole.{counted, meets}
use Rattle.frame_laws.specs.Function.{result_type, value_code}
use Rattle.guard_form.specs.Functions.{GuardedFunc, with_guards, written_code}
use Rattle.guard_form.specs.Guarded.{block_unit}
use Rattle.guard_form.specs.Pieces.{first_piece, units}
use Rattle.slim_laws.specs.Slim.{Terms}
use Rattle.slim_laws.specs.SlimUnitLaws.{ToHeld}
use Rattle.slim_laws.specs.SlimUnits.{SlimUnits}
use Rattle.slim_laws.specs.SlimModule.{Pieces, SlimPieces, fixed_at, flat_terms, is_slot}
use Rattle.headline.specs.EmittedModule.{Emitted, WrittenAs, guarded_of, Framing}
use Rattle.headline.proofs.PairedFlat.{base_defined, base_locals, defined_by}
use Rattle.emitted_form.specs.CodesHold.{AllCodesHold}
use Rattle.emitted_form.specs.EmittedBy.{FrameCode, asyncified_by, func_by, guarded_by, written_by}
use Rattle.emitted_form.specs.Sizes.{FewWritten}
use Rattle.emitted_form.proofs.EmittedBy.{emitted_at, funcs_are, inner, not_told, runtime, same_sorts, told}
use Rattle.emitted_form.proofs.EmittedRewritten.{rewritten_but_runs}

-- ---- lists

runs_are : (ts : List ValType) → declared_locals (map one_run ts) ≡ ts
runs_are [] = refl
runs_are (t ∷ ts) = ap (λ us. t ∷ us) (runs_are ts)

pub numbered_few : (test : Callee → Bool) (n : ℕ) (cs : List Callee) → length (places_from test n cs) ≤ length cs
numbered_few test n [] = omega arith
numbered_few test n (c ∷ cs) = by (test c) (numbered_few test (suc n) cs)
  where
    by : (b : Bool) → length (places_from test (suc n) cs) ≤ length cs → length (if b then n ∷ places_from test (suc n) cs else places_from test (suc n) cs) ≤ suc (length cs)
    by true ih = omega arith
    by false ih = omega arith

grown_funcs : (m : Module) → (with_runtime m).funcs ≡ m.funcs ++ runtime_funcs (length m.types) (global_space m) (global_space m + 1)
unfolding with_runtime
grown_funcs m = refl

-- ---- the emitted module

abbrev terms_from : (places : List ℕ) → Names → FlatFunc → ℕ → Terms
terms_from places n z own = record { slot = is_slot n; size = length z.locals; fixed = fixed_at places own (stacks_in z.body) }

-- With the memory that it is compared with a module has the same terms, and slim pieces are such pieces.
pub based_slim : (m : Module) (places : List ℕ) (x : ℕ) (f : Func) (p : Pieces) → Valid m → defined_at m x ≡ Some f → SlimPieces m places x f p → SlimPieces (Base m) places x f p
based_slim m places x f p valid is sp =
    let same : flattened m x f ≡ flattened (Base m) x f = sym (base_flattened m valid x f is) in
    let terms : flat_terms m places x f ≡ flat_terms (Base m) places x f =
    ap (λ n. terms_from places n (flattened m x f) (length (locals_of m f))) (sym (base_names m valid x f is)) ∙ ap (λ z. terms_from places (names (Base m) f) z (length (locals_of m f))) same
    ∙ ap (λ ts. terms_from places (names (Base m) f) (flattened (Base m) x f) (length ts)) (sym (base_locals m f)) in
    record {
      out = sp.out;
      here = sp.here;
      slim = subst (λ t. SlimUnits t 0 (sp.out ∷ []) sp.out sp.here [] (first_piece places 0 (flattened (Base m) x f).body) (units places 0 (flattened (Base m) x f).body) p.first p.units) terms
          (subst (λ (z : FlatFunc). SlimUnits (flat_terms m places x f) 0 (sp.out ∷ []) sp.out sp.here [] (first_piece places 0 z.body) (units places 0 z.body) p.first p.units) same sp.slim);
      result = subst (λ (z : FlatFunc). ToHeld sp.out z.result) same sp.result;
    }

-- these pieces, and frames with these codes
abbrev pub HaveCodes : Module → (codes : (index : ℕ) → Func → FrameCode) → (frames : (index : ℕ) → Framing) → Type 0
HaveCodes m codes frames = (x : ℕ) (f : Func) → defined_at m x ≡ Some f → codes x f ≡ record { pieces = (frames x).pieces; restoring = (frames x).restoring; saving = (frames x).saving }

module _ (m : Module) (s : Settings) (which : List Bool) (codes : (index : ℕ) → Func → FrameCode) (frames : (index : ℕ) → Framing) (valid : Valid m) (have : HaveCodes m codes frames) where
  abbrev p : Module
  p = asyncified_by m s which codes

  module _ (x : ℕ) (f : Func) (is : defined_at m x ≡ Some f) where
    abbrev ps : List ℕ
    ps = Numbered m s which f

    same_flat : flattened (Base m) x f ≡ flattened m x f
    same_flat = base_flattened m valid x f is

    abbrev guards : FlatFunc → FrameCode → GuardedFunc
    guards z c = record {
      size = length z.locals;
      exits = c.pieces.exits;
      restoring = c.restoring;
      saving = followed_by c.saving (value_code (result_type z.locals z.result));
      first = done;
      body = block_unit c.pieces.first c.pieces.units z.result;
    }

    same_guarded : guarded_by m s which codes x f ≡ guarded_of m s which frames x f
    same_guarded =
        ap (λ z. guards z (codes x f)) (sym same_flat) ∙ ap (guards (flattened (Base m) x f)) (have x f is)

    abbrev types : List Pair → List ValType
    types qs = map (λ (q : Pair). q.ty) qs

    same_locals : declared_locals (written_by m s which codes x f).locals ≡ declared_locals (flat_func (Base m) x f).locals ++ I32 ∷ I32 ∷ I64 ∷ []
    same_locals =
        let three : List ValType = I32 ∷ I32 ∷ I64 ∷ [] in
        let ds = declared_locals f.locals in
        let extra : extra_types m f ≡ extra_types (Base m) f =
        ap (λ qs. types qs ++ types (ResultPairs m f)) (sym (base_slots m valid x f is)) ∙ ap (λ qs. types (SlotPairs (Base m) f) ++ types qs) (sym (base_results m valid x f is)) in
        flat_map-append (λ (r : Run). replicate r.count r.ty) f.locals (map one_run (extra_types m f ++ three)) ∙ ap (λ ts. ds ++ ts) (runs_are (extra_types m f ++ three))
        ∙ sym (append_assoc ds (extra_types m f) three) ∙ ap (λ ts. (ds ++ ts) ++ three) extra ∙ ap (λ ts. ts ++ three) (sym (is_flat (Base m) x f).1)

    few_numbers : StrictSizeRule m → Count m f ≤ 50000 → length (Numbered m s which f) < 2 ^ 32
    few_numbers sizes few =
        let c = counted m x f in
        let me = meets m x f valid sizes is (omega arith) in
        let calls = (me.fits).few_calls in
        let same = ap length (calls_stay m x f) in
        let n = numbered_few (has_number m s which) 0 (calls_in f) in
        omega arith

  written_as : (told_so : Bool) (x : ℕ) (f : Func) → defined_at m x ≡ Some f → is_told (slice_get which x) ≡ told_so → WrittenAs m s which frames told_so x f (func_by m s which codes x f)
  written_as true x f is e =
      subst (WrittenAs m s which frames true x f) (sym (told m s which codes x f e))
      (record { sort = refl; locals = same_locals x f is; body = ap (λ z. written_code (global_space m) (with_guards z)) (same_guarded x f is) })
  written_as false x f is e = subst (WrittenAs m s which frames false x f) (sym (not_told m s which codes x f e)) (record { sort = refl; locals = refl; body = refl })

  the_func : (x y : Func) → Some x ≡ Some y → x ≡ y
  the_func x y e = cc

  written_at : (i : ℕ) (f g : Func) → slice_get m.funcs i ≡ Some f → slice_get p.funcs i ≡ Some g → WrittenAs m s which frames (is_told (slice_get which (func_imports m + i))) (func_imports m + i) f g
  written_at i f g e e2 =
      let x = func_imports m + i in
      let same : func_by m s which codes x f ≡ g = the_func (func_by m s which codes x f) g (sym (emitted_at m s which codes i f e) ∙ e2) in
      subst (WrittenAs m s which frames (is_told (slice_get which x)) x f) same (written_as (is_told (slice_get which x)) x f (defined_by m i f e) refl)

  abbrev sorts_in : List Func → List ℕ
  sorts_in fs = map (λ (f : Func). f.sort) fs

  sorts_same : sorts_in p.funcs ≡ sorts_in (with_runtime m).funcs
  sorts_same =
      ap sorts_in (funcs_are m s which codes) ∙ map-append (λ (f : Func). f.sort) (inner m s which codes).funcs (runtime m s which codes)
      ∙ ap (λ ks. ks ++ sorts_in (runtime m s which codes)) (same_sorts m s which codes)
      ∙ sym (map-append (λ (f : Func). f.sort) m.funcs (runtime m s which codes)) ∙ ap sorts_in (sym (grown_funcs m))

  pub emitted_so : AllCodesHold m s which codes → FreeOfNames m → StrictSizeRule m → FewWritten m which → TellsMayPause m s which → Emitted m s which frames p
  emitted_so hold free sizes few tells =
      let r = rewritten_but_runs m s which codes valid hold tells free in
      record {
        types = r.types;
        imports = r.imports;
        tables = r.tables;
        memories = r.memories;
        globals = r.globals;
        exports = r.exports;
        start = r.start;
        elems = r.elems;
        segments = r.segments;
        runtime = r.runtime;
        sorts = sorts_same;
        written = written_at;
        slim = λ x f is told.
            let here = sym (base_defined m x) ∙ is in
            subst (SlimPieces (Base m) (Numbered m s which f) x f) (ap (λ (c : FrameCode). c.pieces) (have x f here))
            (based_slim m (Numbered m s which f) x f (codes x f).pieces valid here (hold x f here told).slim);
        few = λ x f is told. few_numbers x f is sizes (few x f is told);
      }
