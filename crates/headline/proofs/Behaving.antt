-- The written module behaves like its original, where suspended stacks stand as frames.
use Rattle.std.proofs.Common.{◌≡◌, ℕ, ◌*◌, ◌<◌, List, [], length, Some, Bool, refl, sym, ap, ◌∙◌, subst, arith}
use Rattle.std.specs.Prelude.{codes}
use Rattle.std.proofs.lemmas.List.{length-map}
use Rattle.std.proofs.lemmas.List.Elements.{All-nil}
use Rattle.wa_types.specs.Base.{Base}
use Rattle.wa_types.specs.Memory.{page_size}
use Rattle.wa_types.specs.Modules.{all_globals, all_memories, func_sorts, func_type_at, imported, imported_global}
use Rattle.wa_types.specs.Pausing.{Settings, TellsMayPause}
use Rattle.wa_types.specs.Runtime.{func_space, with_runtime}
use Rattle.wa_types.specs.Sizes.{value_fits}
use Rattle.wa_types.specs.Syntax.{Module}
use Rattle.wa_types.specs.Typing.{GlobalType, type_of}
use Rattle.wa_types.specs.Validity.{Valid}
use Rattle.wa_model.specs.Behaves.{BehavesOn, PausesNumbered, expected_notes}
use Rattle.wa_model.specs.Blocking.{Blocking}
use Rattle.wa_model.specs.Configuration.{Configuration}
use Rattle.run_theory.specs.Fitting.{global_types, types_of}
use Rattle.run_theory.specs.Growth.{Each, EntryNamed}
use Rattle.wa_model.specs.Instantiation.{Opening, fails_as, opens, opening, least_of}
use Rattle.wa_model.specs.Plan.{AreLawful, AreaFits, Outcome, Plan}
use Rattle.wa_model.specs.Plan as L
use Rattle.wa_model.specs.Protocol.{Held}
use Rattle.run_theory.specs.Quiet.{FreeOfNames}
use Rattle.wa_model.specs.Store.{Store}
use Rattle.run_theory.proofs.BaseValid.{base_valid}
use Rattle.run_theory.proofs.FittingOpenings.{openings_fit}
use Rattle.run_theory.proofs.NamedModules.{valid_instance}
use Rattle.run_laws.specs.Ranges.{CodesIn, OpeningIn}
use Rattle.run_laws.proofs.BlockingRuns.{base_codes}
use Rattle.run_laws.proofs.Host.{store_lower}
use Rattle.run_laws.proofs.Openings.{openings_in}
use Rattle.run_laws.proofs.ProtocolRuns.{fits_areas}
use Rattle.run_laws.specs.FittingStates.{ExportsTyped}
use Rattle.run_laws.proofs.Exported.{exports_free, none_found, parts_exported}
use Rattle.run_laws.proofs.PlanParts.{plans_fit_parts}
use Rattle.run_laws.proofs.RuntimeTyped.{runtime_typed}
use Rattle.run_laws.proofs.Stopping.{start_there}
use Rattle.run_laws.proofs.SpotRuns.{base_globals, listed_typed, start_takes_none}
use Rattle.guard_runs.specs.RuntimeParts.{HasRuntime}
use Rattle.headline.specs.Emitted.{FirstStore, Whole}
use Rattle.headline.specs.FlatLaw.{FlatLaw}
use Rattle.headline.specs.LiveLaw.{LiveLaw}
use Rattle.headline.proofs.Headline.{headline}
use Rattle.headline.proofs.LiveSteps.{equal_lives}
use Rattle.headline.specs.Given.{ComparedGiven, Given, LetsPause}
use Rattle.headline.proofs.GivenPlans.{given_fits}
use Rattle.headline.specs.Core.{Core, CoreFits, table_in, world_of}
use Rattle.headline.specs.Links.{GoodStore, L as Links, StandsLaw, W as WaitLinks}
use Rattle.headline.proofs.Owed.{flat_law}
use Rattle.headline.proofs.Spaces.{globals_same, sorts_same}
use Rattle.headline.proofs.WrittenKnown.{KnownIf, written_law}
use Rattle.headline.proofs.SlimLinks.{law}
use Rattle.headline.specs.CoreOf.{RunsBeside, WaitsBeside, core_of, flat_core}
use Rattle.headline.specs.EmittedModule.{Framing, Emitted, slim_of, terms_of}
use Rattle.headline.proofs.NumberedStacks.{space_of}
use Rattle.headline.proofs.PairedFlat.{core_fits, flat_fits, paired, slim_beside}

pub base_start : (m : Module) → (Base m).start ≡ m.start
unfolding Base
base_start m = refl

pub same_imports : (m : Module) → (with_runtime m).imports ≡ m.imports
unfolding with_runtime
same_imports m = refl

pub same_tables : (m : Module) → (with_runtime m).tables ≡ m.tables
unfolding with_runtime
same_tables m = refl

pub same_elems : (m : Module) → (with_runtime m).elems ≡ m.elems
unfolding with_runtime
same_elems m = refl

pub same_segments : (m : Module) → (with_runtime m).segments ≡ m.segments
unfolding with_runtime
same_segments m = refl

pub space_is : (m : Module) → func_space m ≡ length (func_sorts m)
space_is m = refl

module _ (m : Module) (s : Settings) (which : List Bool) (frames : (index : ℕ) → Framing) (p : Module) (valid : Valid m) (written_valid : Valid p) (codes_in : CodesIn m) (written_codes : CodesIn p)
    (tells : TellsMayPause m s which) (em : Emitted m s which frames p) (plan : Plan) (plan_fits : Given m plan) where
  abbrev pub k : Core
  k = core_of m s which frames plan p

  abbrev b : Module
  b = Base m

  abbrev B : (spare : ℕ) → Configuration → Configuration → Type 0
  B = RunsBeside m s which frames plan p

  abbrev A : ℕ → Configuration → Configuration → Type 0
  A = WaitsBeside m s which frames plan p

  pub base_in : CodesIn (Base m)
  base_in = base_codes m codes_in

  pub fit : CoreFits k
  fit = core_fits m s which frames plan p valid tells em plan_fits base_in

  pub free : FreeOfNames m
  free = exports_free m p em.exports written_valid

  pub runtime : HasRuntime m p
  runtime = record {
    types = em.types;
    imports = em.imports;
    exports = em.exports;
    runtime = em.runtime;
    start_unwind = none_found m.exports (codes "asyncify_start_unwind") (0, omega arith, refl) free;
    stop_unwind = none_found m.exports (codes "asyncify_stop_unwind") (1, omega arith, refl) free;
    start_rewind = none_found m.exports (codes "asyncify_start_rewind") (2, omega arith, refl) free;
    stop_rewind = none_found m.exports (codes "asyncify_stop_rewind") (3, omega arith, refl) free;
    get_state = none_found m.exports (codes "asyncify_get_state") (4, omega arith, refl) free;
  }

  pub typed : ExportsTyped p
  typed = runtime_typed m p written_valid em.types (parts_exported m p em.imports em.exports em.runtime written_valid)

  pub lawful : (x : ℕ) → (Base m).start ≡ Some x → AreLawful (func_type_at (Base m) x).params [] × (x < func_space m)
  lawful x e =
      let vb = base_valid m valid in (
        subst (λ ts. AreLawful ts []) (sym (start_takes_none b x vb e)) (record { typed = refl; ranges = All-nil value_fits }),
        subst (λ i. x < i) (space_of m) (start_there b x b.start (valid_instance b vb).start e),
      )

  pub whole : Whole (world_of k)
  whole = record {
    parts = record {
      valid = valid;
      runtime = runtime;
      paired = paired m s which frames plan p valid tells em plan_fits base_in;
      funcs = space_is m;
      least = λ lets. let area = plan_fits.area lets in area.least;
      few_tests = omega arith;
    };
    instance = record {
      imports = em.imports ∙ sym (same_imports m);
      tables = em.tables ∙ sym (same_tables m);
      memories = em.memories;
      globals = em.globals;
      elems = em.elems
          ∙ sym (same_elems m);
      segments = em.segments ∙ sym (same_segments m);
    };
    start = em.start;
    lawful = lawful;
  }

  -- the store that instantiation makes
  good_first : (st : Store) → opening b plan.globals ≡ opens st → GoodStore k st × (st.table ≡ table_in (opening b plan.globals))
  good_first st o =
      let globals : types_of plan.globals ≡ global_types (imported imported_global b) = listed_typed _ plan.globals (plan_fits.globals).typed ∙ ap global_types (sym (base_globals m)) in
      let fits = openings_fit b plan.globals st (base_valid m valid) globals o in
      let count : length st.globals ≡ length (all_globals b) = sym (length-map st.globals type_of) ∙ ap length fits.globals ∙ length-map (all_globals b) (λ (g : GlobalType). g.ty) in
      let ranges = subst (OpeningIn (least_of (all_memories b) * page_size)) o (openings_in b plan.globals base_in (plan_fits.globals).ranges) in (
        record {
          fits = fits;
          named = record { globals = count ∙ ap length (sym (globals_same k fit)); table = subst (λ ss. Each (EntryNamed (length ss)) st.table) (sym (sorts_same k fit)) fits.table };
          ranges = store_lower 0 (least_of (all_memories b) * page_size) st (omega arith) ranges;
        },
        sym (ap table_in o),
      )

  pub first : FirstStore (world_of k) (GoodStore k) (opening (Base m) plan.globals)
  first = by (opening b plan.globals) refl
    where
      by : (o : Opening) → opening b plan.globals ≡ o → FirstStore (world_of k) (GoodStore k) o
      by (fails_as e) q = tt
      by (opens st) q = good_first st q

  pub written_fits : LetsPause plan → L.Fits p plan
  written_fits lets =
      plans_fit_parts m p plan valid (record { types = em.types; imports = em.imports; memories = em.memories; exports = em.exports; sorts = em.sorts }) (given_fits m plan plan_fits lets)

  pub area : LetsPause plan → AreaFits p plan.area
  area lets = fits_areas m p plan em.imports em.memories (given_fits m plan plan_fits lets)

  -- what is known along the written side's runs
  abbrev pub KnownThere : Held → Type 0
  KnownThere = KnownIf (world_of (core_of m s which frames plan p)) written_valid written_fits area typed written_codes

  -- what flattening and slim pieces owe, where stacks stand and come back so
  pub owed : (Live : Configuration → Configuration → Type 0) → StandsLaw (core_of m s which frames plan p) (RunsBeside m s which frames plan p) (WaitsBeside m s which frames plan p) Live
      → FlatLaw (world_of (core_of m s which frames plan p)) Live
      (Links (core_of m s which frames plan p) (RunsBeside m s which frames plan p) (WaitsBeside m s which frames plan p))
      (WaitLinks (core_of m s which frames plan p) (RunsBeside m s which frames plan p) (WaitsBeside m s which frames plan p)) (GoodStore (core_of m s which frames plan p))
  owed Live stands =
      flat_law k fit Live B A (law (flat_core m s which frames plan p) (flat_fits m s which frames plan p valid tells em plan_fits base_in)
      (slim_of m s which frames) (terms_of m s which frames)
      (slim_beside m s which frames plan p valid tells em plan_fits base_in))
      (paired m s which frames plan p valid tells em plan_fits base_in) stands

  -- ALL FOUR FIELDS, from how stacks stand and come back, whatever step a policy puts in between
  pub says_with : (Live : Configuration → Configuration → Type 0) → LiveLaw (world_of k) Live (WaitLinks k B A) → StandsLaw k B A Live → (os : List Outcome) (n : ℕ) → ComparedGiven m plan os n
      → PausesNumbered m s which (Blocking m plan os n).events → BehavesOn m s p plan os n which (expected_notes m s plan os n)
  says_with Live lives stands os n cmp pauses =
      headline (world_of k) whole KnownThere (written_law (world_of k) written_valid written_fits area typed written_codes) (GoodStore k) first
      (Links k B A) (WaitLinks k B A) refl Live lives (owed Live stands) os n cmp pauses

  -- with nothing in between
  pub says : StandsLaw k B A (λ c d. c ≡ d) → (os : List Outcome) (n : ℕ) → ComparedGiven m plan os n → PausesNumbered m s which (Blocking m plan os n).events
      → BehavesOn m s p plan os n which (expected_notes m s plan os n)
  says stands os n cmp pauses = says_with (λ c d. c ≡ d) (equal_lives (world_of k) (WaitLinks k B A)) stands os n cmp pauses
