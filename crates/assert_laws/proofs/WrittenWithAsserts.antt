-- What is emitted with asserts is the original, rewritten, in each part but its runs.
use Rattle.std.proofs.Common.{◌≡◌, ◌∙◌, ℕ, suc, ◌+◌, ◌*◌, ◌^◌, ◌≤◌, List, ◌++◌, length, Option, Some, None, Bool, true, false, refl, sym, ap, subst, arith, length-append}
use Rattle.std.specs.Prelude.{not, slice_get}
use Rattle.std.specs.Option.{option_map}
use Rattle.std.proofs.Math.Seq.{drop-append_seam}
use Rattle.wa_types.specs.Bounds.{code_weight}
use Rattle.wa_types.specs.Counts.{depth_of}
use Rattle.wa_types.specs.Modules.{defined_at, func_imports}
use Rattle.wa_types.specs.Pausing.{Callee, MayPause, Policy, Settings, TellsMayPause, callee, callee_onto, calls_of, has_number, is_told, save_all, save_live}
use Rattle.wa_types.specs.Pruned.{pruned}
use Rattle.wa_types.specs.Runtime.{global_space, runtime_funcs, with_runtime}
use Rattle.wa_types.specs.Sizes.{FuncSizes}
use Rattle.wa_types.specs.Syntax.{Code, branch, done, nest, plain, Func, Module}
use Rattle.wa_types.proofs.SizeBounds.{weight_fits}
use Rattle.wa_model.specs.Rewrites.{RewritesButRuns, RewrittenFunc, instructions_and_labels}
use Rattle.run_theory.specs.Quiet.{FreeOfNames}
use Rattle.guard_form.specs.Asserts.{Asserted, asserted, asserted_reached}
use Rattle.guard_form.proofs.Growing.{depths_grow, sizes_grow}
use Rattle.emitted_form.specs.CodesHold.{AllCodesHold, AllCodesSmall, codes_size}
use Rattle.emitted_form.specs.Emitted.{layout_codes}
use Rattle.emitted_form.specs.EmittedBy.{FrameCode, asyncified_by, func_by, written_by}
use Rattle.emitted_form.proofs.EmittedBy.{defined_of, defined_where, emitted_at, not_told, told}
use Rattle.emitted_form.proofs.EmittedRewritten.{rewritten_but_runs, sort_there}
use Rattle.emitted_form.proofs.EmittedSizes.{calls_same, layouts_small}
use Rattle.emitted_form.proofs.SizesBy.{code_weighs, written_depth, written_size}
use Rattle.emitted_form.proofs.WrittenBy.{written_length}
use Rattle.emitted_form.proofs.FitsBy.{one_of_all}
use Rattle.emitted_form.proofs.LengthBy.{entry}
use Rattle.emitted_form.proofs.WrittenSizes.{layout_size, layouts_hold}
use Rattle.emitted_form.proofs.WiderTypes.{state_there}
use Rattle.slot_laws.proofs.Closed.{one_list}
use Rattle.emitted_form.specs.EmittedAs.{EmittedAs, EmittedUnder}
use Rattle.emitted_form.specs.LiveParts.{live_codes}
use Rattle.emitted_form.specs.PolicyLaws.{CanBeEmitted}
use Rattle.emitted_form.proofs.LiveLength.{numbers_take}
use Rattle.emitted_form.proofs.LiveModules as Live
use Rattle.emitted_form.proofs.PolicyCases.{live_rewriting}
use Rattle.assert_laws.specs.EmittedWithAsserts.{asserted_body, func_with_asserts, module_with_asserts}
use Rattle.assert_laws.proofs.ModuleWithAsserts.{found_from, same_parts}
use Rattle.assert_laws.proofs.ValidWithAsserts.{globals_are, valid_too}

-- ---- whatever the policy

-- An emitted module is written from codes that hold what they owe.
pub record CodesOf (m : Module) (s : Settings) (which : List Bool) (p0 : Module) : Type 0 where
  pub codes : (index : ℕ) → Func → FrameCode
  pub is : p0 ≡ asyncified_by m s which codes
  pub hold : AllCodesHold m s which codes
  pub small : AllCodesSmall m which codes
  pub few : (x : ℕ) (f : Func) → defined_at m x ≡ Some f → is_told (slice_get which x) ≡ true → codes_size (codes x f) ≤ 2 ^ 36 + 1500000 * length (entry f)

pub codes_of : (m : Module) (s : Settings) (which : List Bool) (p0 : Module) → CanBeEmitted m s which → EmittedAs m s which p0 → CodesOf m s which p0
codes_of m s which p0 c = by s.policy refl
  where
    by : (p : Policy) → s.policy ≡ p → EmittedUnder p m s which p0 → CodesOf m s which p0
    by save_all e h = record {
      codes = layout_codes m s which h.pieces;
      is = h.is;
      hold = layouts_hold m s which h.pieces c.valid h.slim;
      small = layouts_small m s which h.pieces c.valid c.sizes;
      few = λ x f is told.
          let at = defined_where m x f is in
          let z = layout_size m s which h.pieces x f c.valid at.0 at.1 in
          let w = weight_fits (2 ^ 31) (2 ^ 31) m f (one_of_all (FuncSizes (2 ^ 31) (2 ^ 31) m) m.funcs at.0 f c.sizes.each_func at.1) in omega (arith, z, w);
    }
    by save_live e h =
        let r = live_rewriting m s which p0 c e h in
        record {
          codes = live_codes h.pieces h.parts;
          is = h.is;
          hold = Live.hold m s which h.pieces h.parts r;
          small = Live.small m s which h.pieces h.parts r;
          few = λ x f is told. let k = Live.few_codes m s which h.pieces h.parts r x f is told in let n = numbers_take m s which f in omega (arith, k, n);
        }

-- ---- calls of code

onto_few : (o : Option Callee) (cs : List Callee) → length (callee_onto o cs) ≤ suc (length cs)
onto_few None cs = omega arith
onto_few (Some x) cs = omega arith

pub calls_few : (c : Code) → length (calls_of c) ≤ instructions_and_labels c
unfolding calls_of instructions_and_labels
calls_few done = omega arith
calls_few (plain p rest) = let a = onto_few (callee p) (calls_of rest) in let b = calls_few rest in omega arith
calls_few (nest s r body rest) = let n = length-append (calls_of body) (calls_of rest) in let a = calls_few body in let b = calls_few rest in omega arith
calls_few (branch r a b rest) =
    let n = length-append (calls_of a ++ calls_of b) (calls_of rest) in let k = length-append (calls_of a) (calls_of b) in
    let x = calls_few a in let y = calls_few b in let z = calls_few rest in omega arith

-- ---- the module, by its codes

module _ (m : Module) (s : Settings) (which : List Bool) (codes : (index : ℕ) → Func → FrameCode) (c : CanBeEmitted m s which) (hold : AllCodesHold m s which codes)
    (small : AllCodesSmall m which codes) where
  abbrev p0 : Module
  p0 = asyncified_by m s which codes

  abbrev p : Module
  p = module_with_asserts m s which (asyncified_by m s which codes)

  abbrev tests : Callee → Bool
  tests = λ x. not (has_number m s which x)

  -- the function at a place among the original's
  pub asserted_at : (i : ℕ) (f : Func) → slice_get m.funcs i ≡ Some f
      → slice_get (module_with_asserts m s which (asyncified_by m s which codes)).funcs i ≡ Some (func_with_asserts m s which (func_imports m + i) (func_by m s which codes (func_imports m + i) f))
  unfolding with_runtime
  asserted_at i f e =
      found_from m s which (func_imports m) i (func_imports m + i) (asyncified_by m s which codes).funcs refl
      ∙ ap (option_map (func_with_asserts m s which (func_imports m + i))) (emitted_at m s which codes i f e)

  -- as it is written
  abbrev pub written_with : ℕ → Func → Func
  written_with x f = record (written_by m s which codes x f) { body = asserted (λ y. not (has_number m s which y)) (global_space m) (written_by m s which codes x f).body }

  pub told_with : (x : ℕ) (f : Func) → is_told (slice_get which x) ≡ true → func_with_asserts m s which x (func_by m s which codes x f) ≡ written_with x f
  told_with x f b =
      ap (λ t. record (func_by m s which codes x f) { body = asserted_body (λ y. not (has_number m s which y)) (global_space m) t (func_by m s which codes x f).body }) b
      ∙ ap (λ (g : Func). record g { body = asserted (λ y. not (has_number m s which y)) (global_space m) g.body }) (told m s which codes x f b)

  pub untold_with : (x : ℕ) (f : Func) → is_told (slice_get which x) ≡ false → func_with_asserts m s which x (func_by m s which codes x f) ≡ record f { body = asserted_reached (global_space m) f.body }
  untold_with x f b =
      ap (λ t. record (func_by m s which codes x f) { body = asserted_body (λ y. not (has_number m s which y)) (global_space m) t (func_by m s which codes x f).body }) b
      ∙ ap (λ (g : Func). record g { body = asserted_reached (global_space m) g.body }) (not_told m s which codes x f b)

  the_func : (x y : Func) → Some x ≡ Some y → x ≡ y
  the_func x y e = cc

  pub found : (i : ℕ) (f g : Func) → slice_get m.funcs i ≡ Some f → slice_get (module_with_asserts m s which (asyncified_by m s which codes)).funcs i ≡ Some g
      → func_with_asserts m s which (func_imports m + i) (func_by m s which codes (func_imports m + i) f) ≡ g
  found i f g e h = the_func (func_with_asserts m s which (func_imports m + i) (func_by m s which codes (func_imports m + i) f)) g (sym (asserted_at i f e) ∙ h)

  pub is_true : (o : Option Bool) → is_told o ≡ true → o ≡ Some true
  is_true None e = cc
  is_true (Some b) e = ap Some e

  -- A function that can't pause has tests behind its calls.
  stays : (i : ℕ) (f g : Func) → slice_get m.funcs i ≡ Some f → slice_get p.funcs i ≡ Some g → ¬ MayPause m s (func_imports m + i) → Asserted (global_space m) f g
  stays i f g e h never = by (is_told (slice_get which (func_imports m + i))) refl
    where
      by : (b : Bool) → is_told (slice_get which (func_imports m + i)) ≡ b → Asserted (global_space m) f g
      by true b = absurd (never ((c.tells.each (func_imports m + i)).0 (is_true (slice_get which (func_imports m + i)) b)))
      by false b = subst (Asserted (global_space m) f) (sym (untold_with (func_imports m + i) f b) ∙ found i f g e h) (record { sort = refl; locals = refl; body = refl })

  -- ---- sizes

  module _ (x : ℕ) (f : Func) (is : defined_at m x ≡ Some f) (b : is_told (slice_get which x) ≡ true) where
    -- calls are few
    pub calls_weigh : length (calls_of (written_by m s which codes x f).body) ≤ code_weight m (pruned f.body)
    calls_weigh =
        let a = ap length (calls_same m s which codes c.valid c.sizes hold small x f is b (c.few x f is b)) in
        let n = calls_few (pruned f.body) in
        let w = code_weighs m (pruned f.body) in omega arith

    pub asserted_size : instructions_and_labels (written_with x f).body ≤ 24 * code_weight m (pruned f.body) + codes_size (codes x f) + 11
    asserted_size =
        let a = sizes_grow (λ y. not (has_number m s which y)) (global_space m) (written_by m s which codes x f).body in
        let k = calls_weigh in
        let z = written_size m s which codes x f (hold x f is b).slim in omega arith

    pub asserted_depth : depth_of (written_with x f).body ≤ depth_of (pruned f.body) + 7
    asserted_depth =
        let owed = hold x f is b in
        let a = depths_grow (λ y. not (has_number m s which y)) (global_space m) (written_by m s which codes x f).body in
        let d = written_depth m s which codes x f owed.slim owed.restoring_quiet.depth owed.saving_quiet.depth in omega arith

  is_written : (i : ℕ) (f g : Func) (others : List Bool) → slice_get m.funcs i ≡ Some f → slice_get p.funcs i ≡ Some g → TellsMayPause m s others → MayPause m s (func_imports m + i)
      → RewrittenFunc m s p others f g
  unfolding with_runtime
  is_written i f g others e h tells2 may =
      let x : ℕ = func_imports m + i in
      let b : is_told (slice_get which (func_imports m + i)) ≡ true = ap is_told ((c.tells.each (func_imports m + i)).1 may) in
      let is = defined_of m i f e in
      let owed = hold (func_imports m + i) f is b in
      let size = owed.size in
      subst (λ us. RewrittenFunc m s p us f g) (one_list m s which others c.tells tells2)
      (subst (RewrittenFunc m s p which f) (sym (told_with (func_imports m + i) f b) ∙ found i f g e h) (record {
        sort = refl;
        locals = written_length m s which codes (func_imports m + i) f c.valid (sort_there m s which c.valid i f e) (c.valid.bodies i f e);
        nesting = let d = asserted_depth (func_imports m + i) f is b in omega arith;
        size = let z = asserted_size (func_imports m + i) f is b in omega arith;
      }))

  -- IT IS THE ORIGINAL, rewritten
  pub parts_with : FreeOfNames m → RewritesButRuns (Asserted (global_space m)) m s (module_with_asserts m s which (asyncified_by m s which codes))
  unfolding with_runtime
  parts_with free =
      let r = rewritten_but_runs m s which codes c.valid hold c.tells free in
      let seam = drop-append_seam m.funcs (runtime_funcs (length m.types) (global_space m) (global_space m + 1)) in
      let parts = same_parts m s which (asyncified_by m s which codes) (length m.funcs) (length m.types) (global_space m) (global_space m + 1) (r.runtime ∙ seam) in
      record {
        valid = c.valid;
        valid_rewritten = valid_too m s which (asyncified_by m s which codes)
            (ap (λ gs. slice_get gs (global_space m)) (globals_are m (asyncified_by m s which codes) r.imports r.globals) ∙ state_there m c.valid) r.valid_rewritten;
        types = r.types;
        imports = r.imports;
        tables = r.tables;
        memories = r.memories;
        globals = r.globals;
        exports = r.exports;
        start = r.start;
        elems = r.elems;
        segments = r.segments;
        customs = refl;
        runtime = parts.runtime ∙ r.runtime;
        unchanged = stays;
        rewritten = is_written;
      }
