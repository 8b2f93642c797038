-- What is emitted with asserts behaves like the original, policy by policy.
use Rattle.std.proofs.Common.{◌≡◌, ◌∙◌, ℕ, ◌<◌, ◌^◌, List, [], ◌∷◌, map, Some, Bool, true, refl, sym, ap, subst, arith}
use Rattle.std.specs.Prelude.{slice_get}
use Rattle.wa_types.specs.Base.{Base}
use Rattle.wa_types.specs.Modules.{defined_at}
use Rattle.wa_types.specs.Pausing.{Policy, Settings, calls_of, is_told, save_all, save_live}
use Rattle.wa_types.specs.Runtime.{global_space}
use Rattle.wa_types.specs.Sizes.{WellFormed}
use Rattle.wa_types.specs.Syntax.{Func, Module}
use Rattle.wa_types.specs.Validity.{Valid}
use Rattle.wa_model.specs.Behaves.{BehavesOn}
use Rattle.wa_model.specs.Blocking.{Blocking}
use Rattle.wa_model.specs.Configuration.{Activation, Configuration, suspended, waiting}
use Rattle.wa_model.specs.Plan.{Outcome, Plan}
use Rattle.wa_model.specs.Rewrites.{RewritesButRuns}
use Rattle.run_theory.specs.Quiet.{FreeOfNames}
use Rattle.run_laws.specs.Ranges.{CodesIn}
use Rattle.run_laws.proofs.BlockingRuns.{base_codes, well_formed_in}
use Rattle.slot_laws.proofs.Closed.{one_list}
use Rattle.guard_form.specs.Asserts.{Asserted}
use Rattle.guard_form.specs.AssertedRuns.{ExpectedWithAsserts}
use Rattle.guard_form.proofs.Expecting.{same_law}
use Rattle.headline.specs.Core.{world_of}
use Rattle.headline.specs.CoreOf.{RunsBeside, WaitsBeside, core_of}
use Rattle.headline.specs.EmittedModule.{AllKeepEnough, Emitted, Framing, kept_frames}
use Rattle.headline.specs.Given.{BehavesGiven, ComparedGiven}
use Rattle.headline.specs.Links as N
use Rattle.headline.proofs.GivenPlans.{compared_given}
use Rattle.headline.proofs.LiveSteps.{equal_lives}
use Rattle.headline.proofs.PauseCosts.{kept_framed}
use Rattle.headline.proofs.StackAgain.{again_more, stacks_stand}
use Rattle.headline.proofs.UnpausedRuns.{runs_unpaused}
use Rattle.emitted_form.proofs.Asyncified as All
use Rattle.emitted_form.proofs.EmittedFits as Fits
use Rattle.emitted_form.proofs.Spaces.{globals_counted}
use Rattle.emitted_form.specs.EmittedAs.{EmittedAs, EmittedUnder, IsAllAsyncified, IsLiveAsyncified}
use Rattle.emitted_form.specs.LiveModuleLaws.{LiveRewriting}
use Rattle.emitted_form.specs.PolicyLaws.{CanBeEmitted}
use Rattle.emitted_form.specs.SameLive.{SameLive, SameUnder, also, none}
use Rattle.emitted_form.proofs.LiveAgain as Again
use Rattle.emitted_form.proofs.LiveFramed.{live_framed}
use Rattle.emitted_form.proofs.LiveModules as Live
use Rattle.emitted_form.proofs.LiveRelation.{live_stands, stack_same}
use Rattle.emitted_form.proofs.PolicyCases.{live_rewriting, valid_as}
use Rattle.assert_laws.specs.AssertedModules.{AssertedBehavesGiven, AssertedIsValid, AssertedIsWellFormed, AssertedRewrites, AssertedRunsUnpaused, BehavesGivenWithAsserts}
use Rattle.assert_laws.specs.EmittedWithAsserts.{EmittedWithAsserts, module_with_asserts}
use Rattle.assert_laws.proofs.AssertedBehaving.{StacksOwed}
use Rattle.assert_laws.proofs.AssertedFunctions.{asserted_behave}
use Rattle.assert_laws.proofs.BareStacks.{bare_stack, without_values}
use Rattle.assert_laws.proofs.FrameCalls.{restoring_none, saving_none}
use Rattle.assert_laws.proofs.ValidWithAsserts.{well_formed_too}
use Rattle.assert_laws.proofs.WrittenWithAsserts.{codes_of, parts_with}

-- ---- numbers in range

well_formed_as : (m : Module) (s : Settings) (which : List Bool) (p0 : Module) → CanBeEmitted m s which → EmittedAs m s which p0 → WellFormed m → WellFormed p0
well_formed_as m s which p0 c h wf = by s.policy refl h
  where
    by : (p : Policy) → s.policy ≡ p → EmittedUnder p m s which p0 → WellFormed p0
    by save_all e k = subst WellFormed (sym k.is) (Fits.emitted_fits m s which k.pieces c.valid k.slim wf c.sizes c.few)
    by save_live e k = subst WellFormed (sym k.is) (Live.well_formed_law m s which k.pieces k.parts (live_rewriting m s which p0 c e k) wf)

state_small : (m : Module) (s : Settings) (which : List Bool) → CanBeEmitted m s which → global_space m < 2 ^ 32
state_small m s which c = let n = globals_counted m in let sizes = c.sizes in let most = sizes.globals in omega arith

pub well_formed_law : AssertedIsWellFormed
well_formed_law m s which q c h wf =
    subst WellFormed (sym h.is) (well_formed_too m s which h.without (state_small m s which c) (well_formed_as m s which h.without c h.emitted wf))

-- ---- the original, rewritten

-- Each part but its runs.
pub parts_so : (m : Module) (s : Settings) (which : List Bool) (q : Module) → CanBeEmitted m s which → FreeOfNames m → EmittedWithAsserts m s which q
    → RewritesButRuns (Asserted (global_space m)) m s q
parts_so m s which q c free h =
    let f = codes_of m s which h.without c h.emitted in
    subst (RewritesButRuns (Asserted (global_space m)) m s) (sym (h.is ∙ ap (module_with_asserts m s which) f.is)) (parts_with m s which f.codes c f.hold f.small free)

pub valid_law : AssertedIsValid
valid_law m s which q c free h = let r = parts_so m s which q c free h in r.valid_rewritten

-- ---- under `live` values alone differ

bare_under : (b : Module) (us vs : List Activation) → SameUnder us vs → map without_values (map (suspended b) us) ≡ map without_values (map (suspended b) vs)
bare_under b _ _ none = refl
bare_under b _ _ (also {fn = fn} {ls = ls} {ops = ops} {taken = taken} {code = code} {labels = labels} {under = us} {under' = vs} e rest) =
    ap (λ z. without_values (suspended b (waiting fn ls ops taken code labels)) ∷ z) (bare_under b us vs rest)

live_bare : (m : Module) (c d : Configuration) → SameLive c d → bare_stack m c ≡ bare_stack m d
live_bare m c d h = bare_under (Base m) (c.here ∷ c.under) (d.here ∷ d.under) (stack_same c d h)

-- ---- behaviour

module _ (m : Module) (s : Settings) (which : List Bool) (p0 : Module) (c : CanBeEmitted m s which) (free : FreeOfNames m) (wf : WellFormed m) (valid0 : Valid p0) (codes0 : CodesIn p0)
    (valid1 : Valid (module_with_asserts m s which p0)) (codes1 : CodesIn (module_with_asserts m s which p0)) (plan : Plan) (os : List Outcome) (n : ℕ) (cmp : ComparedGiven m plan os n) where
  abbrev Goal : Type 0
  Goal = BehavesOn m s (module_with_asserts m s which p0) plan os n which (ExpectedWithAsserts m s which plan.area (Blocking m plan os n).events)

  -- the policy that saves all
  module _ (policy : s.policy ≡ save_all) (h : IsAllAsyncified m s which p0) where
    abbrev all_frames : (index : ℕ) → Framing
    all_frames = kept_frames m s which h.pieces (All.keep m s which h.pieces c.valid)

    all_emitted : Emitted m s which all_frames p0
    all_emitted = subst (Emitted m s which all_frames) (sym h.is) (All.emitted_so m s which h.pieces c.valid h.slim free c.sizes c.few c.tells)

    all_keep : AllKeepEnough m s which (All.keep m s which h.pieces c.valid)
    all_keep = All.all_keep_enough m s which h.pieces c.valid

    all_owed : StacksOwed m s which all_frames plan p0 (λ c d. c ≡ d)
    all_owed =
        let em = all_emitted in
        let codes = base_codes m (well_formed_in m wf) in
        let framed = kept_framed m s which h.pieces (All.keep m s which h.pieces c.valid) c.valid em.slim all_keep policy in
        record {
          lives = equal_lives (world_of (core_of m s which all_frames plan p0))
              (N.W (core_of m s which all_frames plan p0) (RunsBeside m s which all_frames plan p0) (WaitsBeside m s which all_frames plan p0));
          stands = stacks_stand m s which h.pieces (All.keep m s which h.pieces c.valid) plan p0 c.valid c.tells em cmp.given codes all_keep framed;
          framed = framed;
          again = again_more m s which h.pieces (All.keep m s which h.pieces c.valid) plan p0 c.valid c.tells em cmp.given codes all_keep framed;
          alike = λ c d e. ap (bare_stack m) e;
        }

    all_behave : Goal
    all_behave =
        asserted_behave m s which all_frames p0 c.valid valid0 (well_formed_in m wf) codes0 c.tells all_emitted plan cmp.given (λ x f is told. (restoring_none _ _ _, saving_none _ _ _))
        (λ c d. c ≡ d) all_owed valid1 codes1 os n cmp

  -- the policy that saves what lives
  module _ (policy : s.policy ≡ save_live) (h : IsLiveAsyncified m s which p0) where
    abbrev r : LiveRewriting m s which h.pieces h.parts
    r = live_rewriting m s which p0 c policy h

    abbrev live_frames : (index : ℕ) → Framing
    live_frames = Live.frames m s which h.pieces h.parts (live_rewriting m s which p0 c policy h)

    live_emitted : Emitted m s which live_frames p0
    live_emitted = subst (Emitted m s which live_frames) (sym h.is) (Live.live_emitted m s which h.pieces h.parts r free)

    live_owed : StacksOwed m s which live_frames plan p0 SameLive
    live_owed =
        let em = live_emitted in
        let codes = base_codes m (well_formed_in m wf) in
        let framed = Live.framed m s which h.pieces h.parts r in
        record {
          lives = live_stands (world_of (core_of m s which live_frames plan p0))
              (N.W (core_of m s which live_frames plan p0) (RunsBeside m s which live_frames plan p0) (WaitsBeside m s which live_frames plan p0)) policy (λ top i d f l. l.spots);
          stands = Again.live_stacks_stand m s which live_frames plan p0 c.valid c.tells em cmp.given codes policy framed;
          framed = live_framed m s which live_frames c.valid em.slim policy framed;
          again = Again.again_more m s which live_frames plan p0 c.valid c.tells em cmp.given codes policy framed;
          alike = live_bare m;
        }

    live_quiet : (x : ℕ) (f : Func) → defined_at m x ≡ Some f → is_told (slice_get which x) ≡ true → (calls_of (live_frames x).restoring ≡ []) × (calls_of (live_frames x).saving ≡ [])
    live_quiet x f is told =
        let owed = Live.hold m s which h.pieces h.parts r x f is told in
        let e = Live.frames_are m s which h.pieces h.parts r x f is in (
          ap (λ (z : Framing). calls_of z.restoring) e ∙ owed.restoring_quiet.calls,
          ap (λ (z : Framing). calls_of z.saving) e ∙ owed.saving_quiet.calls,
        )

    live_behave : Goal
    live_behave =
        asserted_behave m s which live_frames p0 c.valid valid0 (well_formed_in m wf) codes0 c.tells live_emitted plan cmp.given live_quiet SameLive live_owed valid1 codes1 os n cmp

-- WHAT IS EMITTED WITH ASSERTS BEHAVES like the original, whichever calls its activations stand at
behaves_at : (m : Module) (s : Settings) (which : List Bool) (q : Module) → CanBeEmitted m s which → FreeOfNames m → EmittedWithAsserts m s which q → WellFormed m
    → (plan : Plan) (os : List Outcome) (n : ℕ) → ComparedGiven m plan os n → BehavesOn m s q plan os n which (ExpectedWithAsserts m s which plan.area (Blocking m plan os n).events)
behaves_at m s which q c free h wf plan os n cmp =
    subst (λ z. BehavesOn m s z plan os n which (ExpectedWithAsserts m s which plan.area (Blocking m plan os n).events)) (sym h.is) (by s.policy refl h.emitted)
  where
    valid0 : Valid h.without
    valid0 = valid_as m s which h.without c free h.emitted

    wf0 : WellFormed h.without
    wf0 = well_formed_as m s which h.without c h.emitted wf

    valid1 : Valid (module_with_asserts m s which h.without)
    valid1 = subst Valid h.is (valid_law m s which q c free h)

    codes1 : CodesIn (module_with_asserts m s which h.without)
    codes1 = well_formed_in (module_with_asserts m s which h.without) (well_formed_too m s which h.without (state_small m s which c) wf0)

    by : (p : Policy) → s.policy ≡ p → EmittedUnder p m s which h.without
        → BehavesOn m s (module_with_asserts m s which h.without) plan os n which (ExpectedWithAsserts m s which plan.area (Blocking m plan os n).events)
    by save_all e k = all_behave m s which h.without c free wf valid0 (well_formed_in h.without wf0) valid1 codes1 plan os n cmp e k
    by save_live e k = live_behave m s which h.without c free wf valid0 (well_formed_in h.without wf0) valid1 codes1 plan os n cmp e k

pub given_law : AssertedBehavesGiven
given_law m s told q c free h wf which tells plan os n cmp =
    let same = one_list m s told which c.tells tells in
    behaves_at m s which q (subst (CanBeEmitted m s) same c) free (subst (λ us. EmittedWithAsserts m s us q) same h) wf plan os n cmp

-- where each pause finds numbered calls the same is expected as without asserts
numbered_given : (m : Module) (s : Settings) (p : Module) → BehavesGivenWithAsserts m s p → BehavesGiven m s p
numbered_given m s p h wf which tells plan os n cmp pauses =
    subst (BehavesOn m s p plan os n which) (same_law m s which plan.area (Blocking m plan os n).events pauses) (h wf which tells plan os n cmp)

pub unpaused_law : AssertedRunsUnpaused
unpaused_law m s which q c free h = runs_unpaused m s q which (numbered_given m s q (given_law m s which q c free h)) c.tells

pub rewrites_law : AssertedRewrites
rewrites_law m s which q c free h = record {
  parts = parts_so m s which q c free h;
  behaves = λ wf others tells plan os n cmp. given_law m s which q c free h wf others tells plan os n (compared_given m s plan os n cmp);
  unpaused = unpaused_law m s which q c free h;
}
