-- A module with asserts behaves like its original, whichever calls its activations stand at, for any policy whose frames stand for suspended stacks.
use Rattle.std.proofs.Common.{◌≡◌, ◌∙◌, ℕ, zero, suc, ◌≤◌, ◌<◌, List, [], ◌∷◌, length, Some, None, Bool, true, refl, sym, ap, arith}
use Rattle.std.specs.Prelude.{slice_get}
use Rattle.std.proofs.lemmas.List.{length-map}
use Rattle.wa_types.specs.Base.{Base}
use Rattle.wa_types.specs.Modules.{all_globals, defined_at}
use Rattle.wa_types.specs.Pausing.{Settings, TellsMayPause, has_number, is_told}
use Rattle.wa_types.specs.Runtime.{global_space}
use Rattle.wa_types.specs.Syntax.{Func, Module}
use Rattle.wa_types.specs.Typing.{GlobalType, type_of}
use Rattle.wa_types.specs.Validity.{Valid}
use Rattle.wa_types.specs.declared.values.Value.{Value}
use Rattle.wa_types.specs.declared.values.Value.TheVariants as V
use Rattle.wa_model.specs.Behaves.{BehavesOn}
use Rattle.wa_model.specs.Blocking.{Blocking}
use Rattle.wa_model.specs.Configuration.{Configuration}
use Rattle.wa_model.specs.Plan.{AreaFits, Outcome, Plan}
use Rattle.wa_model.specs.Plan as L
use Rattle.wa_model.specs.Store.{Store, value_at}
use Rattle.run_laws.specs.Ranges.{CodesIn}
use Rattle.run_laws.proofs.ProtocolRuns.{fits_areas}
use Rattle.guard_form.specs.AssertedRuns.{ExpectedWithAsserts}
use Rattle.assert_laws.specs.Beside.{Together}
use Rattle.assert_laws.specs.Links.{assert_sides, LinkedBeside, WaitsBeside}
use Rattle.assert_laws.proofs.AssertLinks.{asserts_law}
use Rattle.guard_runs.specs.Alike.{Paired, sides_of}
use Rattle.guard_runs.specs.Beside.{Twin, both_defined, both_import}
use Rattle.guard_runs.specs.Stopped.{UnitsNumbered}
use Rattle.headline.specs.Emitted.{Whole}
use Rattle.headline.specs.FlatLaw.{FlatLaw}
use Rattle.headline.specs.World.{World, setting}
use Rattle.headline.proofs.Headline.{headline_with_asserts}
use Rattle.headline.proofs.WorldParts.{world_fits}
use Rattle.run_laws.specs.FittingStates.{ExportsTyped}
use Rattle.guard_runs.specs.RuntimeParts.{HasRuntime}
use Rattle.run_laws.proofs.Exported.{parts_exported}
use Rattle.run_laws.proofs.PlanParts.{plans_fit_parts}
use Rattle.run_laws.proofs.RuntimeTyped.{runtime_typed}
use Rattle.headline.specs.Core.{Core, world_of}
use Rattle.headline.specs.Links.{GoodStore, L as Links, StandsLaw, W as WaitLinks}
use Rattle.headline.specs.LiveLaw.{LiveLaw}
use Rattle.headline.specs.LiveLaw as Between
use Rattle.headline.proofs.LiveSteps.{both}
use Rattle.headline.proofs.WrittenKnown.{KnownIf, written_law}
use Rattle.headline.specs.Given.{ComparedGiven, Given, LetsPause}
use Rattle.headline.proofs.GivenPlans.{given_fits}
use Rattle.headline.specs.CoreOf.{RunsBeside, WaitsBeside as SlimWaits, core_of}
use Rattle.headline.specs.EmittedModule.{Emitted, Framing}
use Rattle.headline.specs.Framed.{FramedCalls}
use Rattle.headline.proofs.Behaving as B0
use Rattle.assert_laws.proofs.AssertedStacks.{AgainMore, SameLocals, stacks_law, w2}
use Rattle.assert_laws.proofs.BareStacks.{bare_stack}
use Rattle.assert_laws.proofs.AssertedHalts.{halts_so}
use Rattle.assert_laws.specs.AssertedRoles.{AssertedModule}

past_end : (xs : List Value) (n : ℕ) → length xs ≤ n → value_at xs n ≡ V.I32 0
past_end [] n le = refl
past_end (x ∷ xs) zero le = absurd (omega arith)
past_end (x ∷ xs) (suc n) le = past_end xs n (omega arith)

globals_are : (m : Module) → length (all_globals (Base m)) ≡ global_space m
unfolding Base
globals_are m = refl

-- What a policy owes of suspended stacks: frames that stand for them, what comes back, and the step in between, which changes values alone.
pub record StacksOwed (m : Module) (s : Settings) (which : List Bool) (frames : (index : ℕ) → Framing) (plan : Plan) (p0 : Module) (Live : Configuration → Configuration → Type 0) : Type 0 where
  pub lives : LiveLaw (world_of (core_of m s which frames plan p0)) Live (WaitLinks (core_of m s which frames plan p0) (RunsBeside m s which frames plan p0) (SlimWaits m s which frames plan p0))
  pub stands : StandsLaw (core_of m s which frames plan p0) (RunsBeside m s which frames plan p0) (SlimWaits m s which frames plan p0) Live
  pub framed : FramedCalls m s which frames
  pub again : AgainMore m s which frames plan p0 Live
  pub alike : (c d : Configuration) → Live c d → bare_stack m c ≡ bare_stack m d

module _ (m : Module) (s : Settings) (which : List Bool) (frames : (index : ℕ) → Framing) (p0 : Module) (valid : Valid m) (valid0 : Valid p0) (codes_in : CodesIn m)
    (codes0 : CodesIn p0) (tells : TellsMayPause m s which) (em : Emitted m s which frames p0) (plan : Plan) (plan_fits : Given m plan)
    (Live : Configuration → Configuration → Type 0) (owed : StacksOwed m s which frames plan p0 Live) (q p : Module) (written_valid : Valid p) (written_codes : CodesIn p)
    (same : AssertedModule (length m.funcs) p0 p)
    (ok : Together (assert_sides (world_of (core_of m s which frames plan p0)) q)) (back : SameLocals p0 p)
    (own_numbered : (x : ℕ) (f : Func) → defined_at m x ≡ Some f → is_told (slice_get which x) ≡ true → UnitsNumbered (has_number m s which) (frames x).pieces.units) where
  abbrev k : Core
  k = core_of m s which frames plan p0

  abbrev base_in : CodesIn (Base m)
  base_in = B0.base_in m s which frames p0 valid valid0 codes_in codes0 tells em plan plan_fits

  abbrev B : (spare : ℕ) → Configuration → Configuration → Type 0
  B = RunsBeside m s which frames plan p0

  abbrev A : ℕ → Configuration → Configuration → Type 0
  A = SlimWaits m s which frames plan p0

  abbrev wa : World
  wa = w2 m s which frames plan p0 valid tells em plan_fits base_in q p ok back

  module _ (pairs : (top : ℕ) → Paired (setting wa top)) where
    runtime : HasRuntime m p
    runtime =
        let r = B0.runtime m s which frames p0 valid valid0 codes_in codes0 tells em plan plan_fits in
        record {
          types = same.types ∙ r.types;
          imports = same.imports ∙ r.imports;
          exports = same.exports ∙ r.exports;
          runtime = same.runtime ∙ r.runtime;
          start_unwind = r.start_unwind;
          stop_unwind = r.stop_unwind;
          start_rewind = r.start_rewind;
          stop_rewind = r.stop_rewind;
          get_state = r.get_state;
        }

    whole : Whole wa
    whole = record {
      parts = record { valid = valid; runtime = runtime; paired = pairs; funcs = B0.space_is m; least = λ lets. let area = plan_fits.area lets in area.least; few_tests = omega arith };
      instance = record {
        imports = same.imports ∙ em.imports ∙ sym (B0.same_imports m);
        tables = same.tables ∙ em.tables ∙ sym (B0.same_tables m);
        memories = same.memories ∙ em.memories;
        globals = same.globals ∙ em.globals;
        elems = same.elems ∙ em.elems ∙ sym (B0.same_elems m);
        segments = same.segments ∙ em.segments ∙ sym (B0.same_segments m);
      };
      start = same.start ∙ em.start;
      lawful = B0.lawful m s which frames p0 valid valid0 codes_in codes0 tells em plan plan_fits;
    }

    typed : ExportsTyped p
    typed = runtime_typed m p written_valid (same.types ∙ em.types) (parts_exported m p (same.imports ∙ em.imports) (same.exports ∙ em.exports) (same.runtime ∙ em.runtime) written_valid)

    written_fits : LetsPause plan → L.Fits p plan
    written_fits lets = plans_fit_parts m p plan valid (record {
      types = same.types ∙ em.types;
      imports = same.imports ∙ em.imports;
      memories = same.memories ∙ em.memories;
      exports = same.exports
          ∙ em.exports;
      sorts = same.sorts ∙ em.sorts;
    }) (given_fits m plan plan_fits lets)

    area : LetsPause plan → AreaFits p plan.area
    area lets = fits_areas m p plan (same.imports ∙ em.imports) (same.memories ∙ em.memories) (given_fits m plan plan_fits lets)

    zero_state : (st : Store) → GoodStore k st → value_at st.globals (global_space m) ≡ V.I32 0
    zero_state st good =
        let count : length st.globals ≡ length (all_globals (Base m)) =
        sym (length-map st.globals type_of) ∙ ap length (good.fits).globals ∙ length-map (all_globals (Base m)) (λ (g : GlobalType). g.ty) in
        let e = globals_are m in
        past_end st.globals (global_space m) (omega arith)

    there : (x : ℕ) (g : Func) → x < (world_of k).funcs → defined_at q x ≡ Some g → (g' : Func) × (defined_at p x ≡ Some g')
    there x g lt e = by ((pairs 0).twin x lt)
      where
        by : Twin (sides_of (setting wa 0)) x → (g' : Func) × (defined_at p x ≡ Some g')
        by (both_import none1 none2) = let z : None ≡ Some g = sym none1 ∙ e in cc
        by (both_defined g1 g2 is1 is2 b1 b2 ls size) = (g2, is2)

    -- without asserts, with the step in between
    slim_law : FlatLaw (world_of k) Live (Links k B A) (WaitLinks k B A) (GoodStore k)
    slim_law = B0.owed m s which frames p0 valid valid0 codes_in codes0 tells em plan plan_fits Live owed.stands

    abbrev La : (top spare : ℕ) → Configuration → Configuration → Type 0
    La = LinkedBeside (world_of k) q (Links k B A) (WaitLinks k B A)

    abbrev Wa : (top import : ℕ) → Configuration → Configuration → Type 0
    Wa = WaitsBeside (world_of k) q (Links k B A) (WaitLinks k B A)

    asserted_law : FlatLaw wa Live La Wa (GoodStore k)
    asserted_law =
        asserts_law (world_of k) q p wa.role k.lay Live (Links k B A) (WaitLinks k B A) (GoodStore k) slim_law refl ok zero_state there
        (stacks_law m s which frames plan p0 valid tells em plan_fits base_in q p ok back Live owed.framed owed.again)

    asserted_lives : LiveLaw wa Live Wa
    asserted_lives = let lv = owed.lives in record {
      same = lv.same;
      on = lv.on;
      store = lv.store;
      reach = lv.reach;
      steps_keep = lv.steps_keep;
      resumes = lv.resumes;
      numbered = lv.numbered;
      stand = λ top i c d f ws live wt h. lv.stand top i c d wt.between ws live wt.waits h;
      weigh = lv.weigh;
    }

    -- with the step in between
    asserted_both : FlatLaw wa (λ c d. c ≡ d) (Between.L2 Live La Wa) (Between.W2 Live La Wa) (GoodStore k)
    asserted_both = both wa Live La Wa (GoodStore k) asserted_lives asserted_law

    -- THE MODULE WITH ASSERTS BEHAVES like its original
    pub behaves_with_asserts : (os : List Outcome) (n : ℕ) → ComparedGiven m plan os n
        → BehavesOn m s p plan os n which (ExpectedWithAsserts m s which plan.area (Blocking m plan os n).events)
    behaves_with_asserts os n cmp =
        headline_with_asserts wa whole (KnownIf wa written_valid written_fits area typed written_codes) (written_law wa written_valid written_fits area typed written_codes) (GoodStore k)
        (B0.first m s which frames p0 valid valid0 codes_in codes0 tells em plan plan_fits) (Between.L2 Live La Wa) (Between.W2 Live La Wa) refl asserted_both
        (halts_so m s which frames plan p0 valid tells em plan_fits base_in q p ok back owed.framed own_numbered (world_fits wa whole.parts) Live owed.alike asserted_both) os n cmp
