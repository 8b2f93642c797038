-- A module with asserts, function by function: it behaves like the original.
use Rattle.std.proofs.Common.{◌≡◌, ◌∙◌, ℕ, ◌+◌, ◌++◌, List, [], ◌∷◌, length, Option, Some, None, Bool, true, false, refl, sym, ap, subst}
use Rattle.std.specs.Prelude.{not, slice_get}
use Rattle.wa_types.specs.Base.{Base}
use Rattle.wa_types.specs.Modules.{declared_locals, defined_at, func_type_at, locals_of}
use Rattle.wa_types.specs.Pausing.{Callee, Settings, TellsMayPause, calls_of, Numbered, has_number, is_told}
use Rattle.wa_types.specs.Pruned.{pruned}
use Rattle.wa_types.specs.Runtime.{global_space}
use Rattle.wa_types.specs.Syntax.{Code, Func, Module}
use Rattle.wa_types.specs.declared.values.ValType.{ValType}
use Rattle.wa_types.specs.Validity.{Valid}
use Rattle.wa_model.specs.Behaves.{BehavesOn}
use Rattle.wa_model.specs.Blocking.{Blocking}
use Rattle.wa_model.specs.Plan.{Outcome, Plan}
use Rattle.run_theory.proofs.FittingNames.{defined_type}
use Rattle.run_laws.specs.Ranges.{CodesIn}
use Rattle.run_laws.proofs.BlockingRuns.{base_codes}
use Rattle.guard_form.specs.AssertedRuns.{ExpectedWithAsserts}
use Rattle.assert_laws.specs.Beside as A
use Rattle.assert_laws.specs.Beside.{AllTested, Tested, Together}
use Rattle.assert_laws.proofs.TestedCode.{asserted_law, reached_law}
use Rattle.assert_laws.specs.Links.{assert_sides}
use Rattle.guard_form.specs.Numbers as F
use Rattle.guard_form.specs.Pieces.{Units, no_unit, call_unit, nest_unit, if_unit, first_piece, units}
use Rattle.frame_laws.specs.Function.{result_type, value_code}
use Rattle.guard_form.proofs.Counting.{calls_then, units_law}
use Rattle.slim_laws.proofs.UnitsAlike.{units_alike}
use Rattle.slim_laws.specs.SlimModule.{flat_terms}
use Rattle.headline.specs.Given.{ComparedGiven, Given}
use Rattle.headline.proofs.NumberedStmts.{flat_numbered}
use Rattle.guard_runs.specs.Stopped.{UnitsNumbered}
use Rattle.headline.specs.World.{World}
use Rattle.wa_model.specs.Configuration.{Configuration}
use Rattle.headline.specs.Core.{world_of}
use Rattle.headline.specs.CoreOf.{core_of}
use Rattle.headline.specs.EmittedModule.{Emitted, Framing, flat_of, guarded_of, role_at}
use Rattle.headline.proofs.PairedFlat.{base_defined, paired}
use Rattle.assert_laws.specs.EmittedWithAsserts.{asserted_body, module_with_asserts}
use Rattle.assert_laws.proofs.ModuleWithAsserts.{func_too, same_parts, same_types}
use Rattle.assert_laws.proofs.UntoldCalls.{runtime_there, untold_tested}
use Rattle.assert_laws.proofs.AssertedStacks.{SameLocals}
use Rattle.assert_laws.proofs.AssertedPairs.{asserted_paired, FuncToo, too_none, too_some, GuardsFit, SameTypes, StaysUntold}
use Rattle.assert_laws.proofs.AssertedBehaving.{behaves_with_asserts, StacksOwed}

some_func : (x y : Func) → Some x ≡ Some y → x ≡ y
some_func x y e = cc

locals_by : (q : Module) (x : ℕ) (f : Func) → defined_at q x ≡ Some f → locals_of q f ≡ (func_type_at q x).params ++ declared_locals f.locals
locals_by q x f e = ap (λ t. t.params ++ declared_locals f.locals) (sym (defined_type q x f e))

-- the units' own calls have numbers, as either crate says it
numbered_so : (n : Callee → Bool) (us : Units) → F.UnitsNumbered n us → UnitsNumbered n us
numbered_so n no_unit h = tt
numbered_so n (call_unit slots x to behind rest) h = (h.0, numbered_so n rest h.1)
numbered_so n (nest_unit t first body behind rest) h = (numbered_so n body h.0, numbered_so n rest h.1)
numbered_so n (if_unit c fa a fb b behind rest) h = (numbered_so n a h.0, numbered_so n b h.1, numbered_so n rest h.2)

-- their locals are the same
pub locals_so : (t : Callee → Bool) (st : ℕ) (told : ℕ → Bool) (p0 p : Module) → SameTypes p0 p → ((x : ℕ) → FuncToo t st told p0 p x) → SameLocals p0 p
locals_so t st told p0 p ty fs x g e = by (fs x)
  where
    by : FuncToo t st told p0 p x → (g0 : Func) × (defined_at p0 x ≡ Some g0) × (locals_of p0 g0 ≡ locals_of p g)
    by (too_none n1 n2) = let z : None ≡ Some g = sym n2 ∙ e in cc
    by (too_some g0 h e1 e2 l b) =
        let s : h ≡ g = some_func h g (sym e2 ∙ e) in (
          g0,
          e1,
          locals_by p0 x g0 e1 ∙ ap (λ z. z.params ++ declared_locals g0.locals) (sym (ty.func_type x)) ∙ ap (λ z. (func_type_at p x).params ++ z) (sym l)
              ∙ ap (λ (z : Func). (func_type_at p x).params ++ declared_locals z.locals) s ∙ sym (locals_by p x g e),
        )

-- each stands beside the one without asserts, where each call that can be reached of one that isn't told has no number
pub together_so : (w : World) (q : Module) (told : ℕ → Bool) → SameTypes w.flat q → ((x : ℕ) → FuncToo (λ c. not (w.numbered c)) (global_space w.original) told w.flat q x)
    → ((x : ℕ) (g : Func) → defined_at w.flat x ≡ Some g → told x ≡ false → AllTested (λ c. not (w.numbered c)) (calls_of (pruned g.body))) → Together (assert_sides w q)
together_so w q told ty fs free = record { imports = ty.imports; func_type = ty.func_type; sort = ty.sort; most = ty.most; twin = λ x. by x (fs x) }
  where
    tested : (t : Bool) (g : Func) → (t ≡ false → AllTested (λ c. not (w.numbered c)) (calls_of (pruned g.body)))
        → Tested (λ c. not (w.numbered c)) (global_space w.original) g.body (asserted_body (λ c. not (w.numbered c)) (global_space w.original) t g.body)
    tested true g h = asserted_law (λ c. not (w.numbered c)) (global_space w.original) g.body
    tested false g h = reached_law (λ c. not (w.numbered c)) (global_space w.original) g.body (h refl)

    by : (x : ℕ) → FuncToo (λ c. not (w.numbered c)) (global_space w.original) told w.flat q x → A.Twin (assert_sides w q) x
    by x (too_none n1 n2) = A.both_import n1 n2
    by x (too_some g h e1 e2 l b) = A.both_defined g h e1 e2 l (subst (Tested (λ c. not (w.numbered c)) (global_space w.original) g.body) (sym b) (tested (told x) g (free x g e1)))

module _ (m : Module) (s : Settings) (which : List Bool) (frames : (index : ℕ) → Framing) (p0 : Module) where
  abbrev told : ℕ → Bool
  told = λ x. is_told (slice_get which x)

  abbrev ask : Callee → Bool
  ask = λ x. not (has_number m s which x)

  stays : (t : Bool) (x : ℕ) (o : Option Func) → StaysUntold t (role_at m s which frames t x o)
  stays true x None = refl
  stays true x (Some f) = tt
  stays false x None = tt
  stays false x (Some f) = tt

  -- each unit's own call has a number
  own_so : Valid m → Emitted m s which frames p0 → (x : ℕ) (f : Func) → defined_at m x ≡ Some f → is_told (slice_get which x) ≡ true → UnitsNumbered (has_number m s which) (frames x).pieces.units
  own_so valid em x f is td =
      let ps = Numbered m s which f in
      let body = (flat_of m s which frames x f).body in
      let sp = em.slim x f (base_defined m x ∙ is) td in
      let alike = units_alike (flat_terms (Base m) ps x f) 0 (sp.out ∷ []) sp.out sp.here [] (first_piece ps 0 body) (frames x).pieces.first (units ps 0 body) (frames x).pieces.units sp.slim in
      numbered_so (has_number m s which) (frames x).pieces.units (alike.numbered (has_number m s which) (units_law (has_number m s which) ps 0 body (flat_numbered (Base m) x f (has_number m s which))))

  -- the codes of the frames of each told function make no call
  abbrev pub QuietFrames : Type 0
  QuietFrames = (x : ℕ) (f : Func) → defined_at m x ≡ Some f → is_told (slice_get which x) ≡ true → (calls_of (frames x).restoring ≡ []) × (calls_of (frames x).saving ≡ [])

  value_quiet : (t : Option ValType) → calls_of (value_code t) ≡ []
  unfolding calls_of
  value_quiet None = refl
  value_quiet (Some t) = refl

  -- nor does the code that saves, with a value behind it
  saving_quiet : (x : ℕ) (f : Func) → calls_of (frames x).saving ≡ [] → calls_of (guarded_of m s which frames x f).saving ≡ []
  saving_quiet x f e =
      let value : Code = value_code (result_type (flat_of m s which frames x f).locals (flat_of m s which frames x f).result) in
      calls_then (frames x).saving value ∙ ap (λ z. z ++ calls_of value) e ∙ value_quiet (result_type (flat_of m s which frames x f).locals (flat_of m s which frames x f).result)

  guards : Valid m → Emitted m s which frames p0 → QuietFrames → (x : ℕ) → GuardsFit (has_number m s which) (role_at m s which frames (is_told (slice_get which x)) x (defined_at m x))
  guards valid em quiet x = by (is_told (slice_get which x)) refl (defined_at m x) refl
    where
      by : (t : Bool) → is_told (slice_get which x) ≡ t → (o : Option Func) → defined_at m x ≡ o → GuardsFit (has_number m s which) (role_at m s which frames t x o)
      by true e None is = tt
      by true e (Some f) is = let none = quiet x f is e in (none.0, saving_quiet x f none.1, (own_so valid em x f is e, tt))
      by false e None is = tt
      by false e (Some f) is = tt

  abbrev flat_side : Plan → Module
  flat_side plan = (world_of (core_of m s which frames plan p0)).flat

  -- THE WRITTEN MODULE WITH ASSERTS BEHAVES like the original, whatever its policy
  pub asserted_behave : (valid : Valid m) (valid0 : Valid p0) (codes_in : CodesIn m) (codes0 : CodesIn p0) (tells : TellsMayPause m s which) (em : Emitted m s which frames p0)
      (plan : Plan) (plan_fits : Given m plan) (quiet : QuietFrames) (Live : Configuration → Configuration → Type 0) → StacksOwed m s which frames plan p0 Live
      → Valid (module_with_asserts m s which p0) → CodesIn (module_with_asserts m s which p0) → (os : List Outcome) (n : ℕ) → ComparedGiven m plan os n
      → BehavesOn m s (module_with_asserts m s which p0) plan os n which (ExpectedWithAsserts m s which plan.area (Blocking m plan os n).events)
  asserted_behave valid valid0 codes_in codes0 tells em plan plan_fits quiet Live owed written_valid written_codes os n cmp =
      let flat_types = same_types m s which (flat_side plan) in
      let flat_funcs = func_too m s which (flat_side plan) in
      behaves_with_asserts m s which frames p0 valid valid0 codes_in codes0 tells em plan plan_fits Live owed
      (module_with_asserts m s which (flat_side plan)) (module_with_asserts m s which p0) written_valid written_codes
      (same_parts m s which p0 (length m.funcs) (length m.types) (global_space m) (global_space m + 1) (runtime_there m s which frames p0 em))
      (together_so (world_of (core_of m s which frames plan p0)) (module_with_asserts m s which (flat_side plan)) told flat_types flat_funcs
      (untold_tested m s which frames plan p0 valid tells em plan_fits (base_codes m codes_in)))
      (locals_so ask (global_space m) told p0 (module_with_asserts m s which p0) (same_types m s which p0) (func_too m s which p0)) (own_so valid em)
      (λ top. asserted_paired (world_of (core_of m s which frames plan p0)) (module_with_asserts m s which (flat_side plan)) (module_with_asserts m s which p0)
      (core_of m s which frames plan p0).lay told top
      (paired m s which frames plan p0 valid tells em plan_fits (base_codes m codes_in) top) flat_types (same_types m s which p0) flat_funcs (func_too m s which p0)
      (λ x. stays (is_told (slice_get which x)) x (defined_at m x)) (guards valid em quiet)) os n cmp
