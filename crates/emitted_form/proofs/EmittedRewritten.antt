-- The emitted module is valid, and has each part of a rewriting but its runs, where the codes of its frames hold what they owe.
use Rattle.std.proofs.Common.{◌≡◌, ◌∙◌, ℕ, ◌+◌, ◌-◌, ◌<◌, List, ◌++◌, length, map, Option, Some, None, Bool, true, false, refl, sym, ap, subst, arith, ⊎_elim}
use Rattle.std.specs.Prelude.{slice_get}
use Rattle.std.specs.List.{flat_map}
use Rattle.std.specs.Option.{option_map, option_to_list}
use Rattle.std.proofs.lemmas.Bool.{cases_lt}
use Rattle.std.proofs.lemmas.Option.{slice_get-map, slice_get_within}
use Rattle.std.proofs.Math.Seq.{drop-append_seam}
use Rattle.wa_types.specs.declared.syntax.Export.{Export}
use Rattle.wa_types.specs.declared.syntax.Space.TheVariants.{Func as a_func}
use Rattle.wa_types.specs.Modules.{imported, imported_func, func_imports, around}
use Rattle.wa_types.specs.Pausing.{Settings, MayPause, TellsMayPause, is_told}
use Rattle.wa_types.specs.Runtime.{with_runtime, runtime_exports}
use Rattle.wa_types.specs.Syntax.{Func, Elem, Module}
use Rattle.wa_types.specs.Typing.{Typed}
use Rattle.wa_types.specs.Validity.{Valid, all_below, start_fits, exported}
use Rattle.run_theory.specs.Quiet.{FreeOfNames}
use Rattle.wa_model.specs.Rewrites.{RewritesButRuns, SameFunc, RewrittenFunc}
use Rattle.run_theory.proofs.GrownSteps.{front}
use Rattle.run_theory.proofs.NamedModules.{valid_named}
use Rattle.run_theory.proofs.RuntimeValid.{behind, runtime_valid}
use Rattle.emitted_form.specs.CodesHold.{AllCodesHold}
use Rattle.emitted_form.specs.Emitted.{layout_codes}
use Rattle.emitted_form.specs.EmittedBy.{FrameCode, func_by}
use Rattle.emitted_form.specs.Rewritten.{EmittedIsValid, EmittedIsRewritten}
use Rattle.emitted_form.proofs.EmittedBy.{defined_of, sort_of, inner, emitted, runtime, told, not_told, same_length, inner_at, emitted_at, runtime_behind, own_sorts, all_sorts, all_types, same_around}
use Rattle.emitted_form.proofs.WrittenBy.{written_typed, written_length}
use Rattle.emitted_form.proofs.SizesBy.{written_size, written_depth}
use Rattle.emitted_form.proofs.WrittenSizes.{layouts_hold}
use Rattle.slot_laws.proofs.Closed.{one_list}

-- what stands where a function is found
mapped : (k : Func → Func) (o : Option Func) (g : Func) → option_map k o ≡ Some g → (f : Func) × (o ≡ Some f) × (k f ≡ g)
mapped k None g e = cc
mapped k (Some f) g e = let z : k f ≡ g = cc in (f, refl, z)

module _ (m : Module) (s : Settings) (which : List Bool) (v : Valid m) where
  -- the type of a defined function is there
  pub sort_there : (i : ℕ) (f : Func) → slice_get m.funcs i ≡ Some f → f.sort < length m.types
  sort_there i f e =
      (valid_named m v).sorts (func_imports m + i) f.sort
      (behind (imported imported_func m) (map sort_of m.funcs) (func_imports m + i) i refl ∙ slice_get-map sort_of m.funcs i ∙ ap (option_map sort_of) e)

module _ (m : Module) (s : Settings) (which : List Bool) (codes : (index : ℕ) → Func → FrameCode) (v : Valid m) where
  pub same_exports : (emitted m s which codes).exports ≡ (with_runtime m).exports
  unfolding with_runtime
  same_exports = ap (λ ks. m.exports ++ runtime_exports (length ks)) (own_sorts m s which codes)

  -- ---- bodies

  module _ (w : Valid (with_runtime m)) (hold : AllCodesHold m s which codes) where
    own_body : (b : Bool) (i : ℕ) (f g : Func) → is_told (slice_get which (func_imports m + i)) ≡ b → slice_get m.funcs i ≡ Some f → func_by m s which codes (func_imports m + i) f ≡ g
        → Typed (around (emitted m s which codes) g) g.body
    unfolding with_runtime
    own_body true i f g b e is =
        subst (λ (h : Func). Typed (around (emitted m s which codes) h) h.body) (sym (told m s which codes (func_imports m + i) f b) ∙ is)
        (let h = hold (func_imports m + i) f (defined_of m i f e) b in
        written_typed m s which codes (func_imports m + i) f v (sort_there m s which v i f e) (v.bodies i f e) h.slim h.restoring_typed h.saving_typed)
    own_body false i f g b e is =
        subst (λ (h : Func). Typed (around (emitted m s which codes) h) h.body) (sym (not_told m s which codes (func_imports m + i) f b) ∙ is)
        (subst (λ c. Typed c f.body) (sym (same_around m s which codes f)) (w.bodies i f (front m.funcs (runtime m s which codes) i (slice_get_within m.funcs i f e) ∙ e)))

    each_body : (i : ℕ) (g : Func) → slice_get (emitted m s which codes).funcs i ≡ Some g → Typed (around (emitted m s which codes) g) g.body
    unfolding with_runtime
    each_body i g e =
        let n = same_length m s which codes in
        let fs : List Func = (inner m s which codes).funcs in
        let more : List Func = runtime m s which codes in
        ⊎_elim
        (λ lt.
        let f = mapped (func_by m s which codes (func_imports m + i)) (slice_get m.funcs i) g (sym (inner_at m s which codes i) ∙ sym (front fs more i (omega arith)) ∙ e) in
        own_body (is_told (slice_get which (func_imports m + i))) i f.0 g refl f.1 f.2)
        (λ le.
        let here : slice_get (m.funcs ++ more) i ≡ Some g = behind m.funcs more i (i - length m.funcs) (omega arith) ∙ sym (behind fs more i (i - length m.funcs) (omega arith)) ∙ e in
        subst (λ c. Typed c g.body) (sym (same_around m s which codes g)) (w.bodies i g here))
        (cases_lt i (length m.funcs))

    -- the module with the runtime's parts, but with these functions
    abbrev replaced : Module
    replaced = record (with_runtime m) { funcs = (emitted m s which codes).funcs }

    same_module : replaced ≡ emitted m s which codes
    unfolding with_runtime
    same_module = ap (λ (es : List Export). record replaced { exports = es }) (sym same_exports)

    replaced_valid : Valid replaced
    unfolding with_runtime
    replaced_valid = record {
      types = w.types;
      sorts = ap (all_below (length (with_runtime m).types)) (all_sorts m s which codes) ∙ w.sorts;
      bodies = each_body;
      limits = w.limits;
      single = w.single;
      constants = w.constants;
      globals = w.globals;
      tables = w.tables;
      memories = w.memories;
      funcs = ap (λ sorts. all_below (length sorts) (exported a_func (with_runtime m) ++ option_to_list m.start ++ flat_map (λ (e : Elem). e.funcs) m.elems)) (all_sorts m s which codes) ∙ w.funcs;
      start = ap (start_fits m.start) (all_types m s which codes) ∙ w.start;
      names = w.names;
    }

  pub emitted_valid : AllCodesHold m s which codes → FreeOfNames m → Valid (emitted m s which codes)
  emitted_valid hold free = let w = runtime_valid m v free in subst Valid (same_module w hold) (replaced_valid w hold)

  -- ---- functions

  abbrev n : ℕ
  n = func_imports m

  found : (i : ℕ) (f g : Func) → slice_get m.funcs i ≡ Some f → slice_get (emitted m s which codes).funcs i ≡ Some g → func_by m s which codes (n + i) f ≡ g
  found i f g e h = let z : Some (func_by m s which codes (n + i) f) ≡ Some g = sym (emitted_at m s which codes i f e) ∙ h in cc

  is_true : (o : Option Bool) → is_told o ≡ true → o ≡ Some true
  is_true None e = cc
  is_true (Some b) e = ap Some e

  same_func : (f : Func) → SameFunc f f
  same_func f = record { sort = refl; locals = refl; body = refl }

  module _ (hold : AllCodesHold m s which codes) (tells : TellsMayPause m s which) where
    stays : (i : ℕ) (f g : Func) → slice_get m.funcs i ≡ Some f → slice_get (emitted m s which codes).funcs i ≡ Some g → ¬ MayPause m s (n + i) → SameFunc f g
    stays i f g e h never = by (is_told (slice_get which (n + i))) refl
      where
        by : (b : Bool) → is_told (slice_get which (n + i)) ≡ b → SameFunc f g
        by true b = absurd (never ((tells.each (n + i)).0 (is_true (slice_get which (n + i)) b)))
        by false b = subst (SameFunc f) (sym (not_told m s which codes (n + i) f b) ∙ found i f g e h) (same_func f)

    is_written : (i : ℕ) (f g : Func) (others : List Bool) → slice_get m.funcs i ≡ Some f → slice_get (emitted m s which codes).funcs i ≡ Some g → TellsMayPause m s others → MayPause m s (n + i)
        → RewrittenFunc m s (emitted m s which codes) others f g
    is_written i f g others e h tells2 may =
        let x : ℕ = n + i in
        let b : is_told (slice_get which x) ≡ true = ap is_told ((tells.each x).1 may) in
        let owed = hold x f (defined_of m i f e) b in
        let size = owed.size in
        subst (λ us. RewrittenFunc m s (emitted m s which codes) us f g) (one_list m s which others tells tells2)
        (subst (RewrittenFunc m s (emitted m s which codes) which f) (sym (told m s which codes x f b) ∙ found i f g e h) (record {
          sort = refl;
          locals = written_length m s which codes x f v (sort_there m s which v i f e) (v.bodies i f e);
          nesting = let d = written_depth m s which codes x f owed.slim owed.restoring_quiet.depth owed.saving_quiet.depth in omega arith;
          size = let z = written_size m s which codes x f owed.slim in omega arith;
        }))

    pub rewritten_but_runs : FreeOfNames m → RewritesButRuns SameFunc m s (emitted m s which codes)
    unfolding with_runtime
    rewritten_but_runs free = record {
      valid = v;
      valid_rewritten = emitted_valid hold free;
      types = refl;
      imports = refl;
      tables = refl;
      memories = refl;
      globals = refl;
      exports = same_exports;
      start = refl;
      elems = refl;
      segments = refl;
      customs = refl;
      runtime = runtime_behind m s which codes ∙ sym (drop-append_seam m.funcs (runtime m s which codes));
      unchanged = stays;
      rewritten = is_written;
    }

pub valid_law : EmittedIsValid
valid_law m s which pieces v slim free = emitted_valid m s which (layout_codes m s which pieces) v (layouts_hold m s which pieces v slim) free

pub rewritten_law : EmittedIsRewritten
rewritten_law m s which pieces v slim free tells = rewritten_but_runs m s which (layout_codes m s which pieces) v (layouts_hold m s which pieces v slim) tells free
