-- For the policy that saves all, suspended stacks of numbered calls stand as frames, and what came back of them stands beside the same
-- stack.
use Rattle.std.proofs.Common.{◌≡◌, ℕ, List, [], ◌∷◌, ◌++◌, length, Option, Some, Bool, All, refl, sym, ap, ◌∙◌, subst}
use Rattle.wa_types.specs.Base.{Base}
use Rattle.wa_types.specs.Frames.{Saved}
use Rattle.wa_types.specs.Modules.{defined_at}
use Rattle.wa_types.specs.Pausing.{Settings, TellsMayPause, save_all}
use Rattle.wa_types.specs.Syntax.{Func, Module}
use Rattle.wa_types.specs.Validity.{Valid}
use Rattle.wa_model.specs.Behaves.{StandsNumbered}
use Rattle.wa_model.specs.Configuration.{Activation, Configuration, stack_of}
use Rattle.run_theory.specs.Fitting.{results_of}
use Rattle.wa_model.specs.Plan.{Plan}
use Rattle.wa_model.specs.Plan as P
use Rattle.wa_model.specs.Store.{value_at}
use Rattle.run_laws.specs.Ranges.{CodesIn}
use Rattle.flat_runs.specs.Beside.{Locals}
use Rattle.slim_laws.specs.Beside.{moved}
use Rattle.slim_laws.specs.SlimModule.{Pieces}
use Rattle.flat_laws.specs.FlatModule.{flat_module}
use Rattle.frame_laws.specs.FrameMemory.{IsKept}
use Rattle.guard_runs.specs.Returned.{AllSameFlat, SameFlat}
use Rattle.guard_runs.specs.Stopped.{Stopped}
use Rattle.headline.specs.FlatLaw.{AllLocalsFit, FlatAgain}
use Rattle.headline.specs.World.{setting}
use Rattle.headline.specs.Core.{Core, world_of}
use Rattle.headline.specs.Links.{GoodStore, LinkedWaits, StandsLaw}
use Rattle.headline.specs.Links as N
use Rattle.headline.specs.Given.{Given}
use Rattle.headline.specs.CoreOf.{RunsBeside, WaitsBeside, core_of}
use Rattle.headline.specs.EmittedModule.{Emitted, fields_of, lay_at, layout_of, AllKeepEnough, Framing, kept_frames}
use Rattle.headline.proofs.NumberedStacks.{AllAtNumbers, AtNumber}
use Rattle.headline.proofs.MovedStacks.{AgainAt, AllAgain, callers_moved, fits_moved, moved_all, unders_moved}
use Rattle.headline.proofs.PairedStacks.{AllPairs, PairAt}
use Rattle.headline.proofs.PairedFlat.{base_defined}
use Rattle.headline.proofs.StandingAgain.{extra2, held_again, split}
use Rattle.headline.specs.Framed.{FramedCalls}
use Rattle.headline.proofs.WaitsAgain.{AllMore, all_told, flat_again, numbers, numbers_at, pairs_at, stands, written_fit}

module _ (m : Module) (s : Settings) (which : List Bool) (pieces : (index : ℕ) → Pieces) (keep : (func local : ℕ) → Bool) (plan : Plan) (p : Module) (valid : Valid m) (tells : TellsMayPause m s which)
    (em : Emitted m s which (kept_frames m s which pieces keep) p) (plan_fits : Given m plan) (codes : CodesIn (Base m)) (keeps : AllKeepEnough m s which keep)
    (framed : FramedCalls m s which (kept_frames m s which pieces keep)) where
  abbrev frames : (index : ℕ) → Framing
  frames = kept_frames m s which pieces keep

  abbrev k : Core
  k = core_of m s which (kept_frames m s which pieces keep) plan p

  the_func : (x y : Func) → Some x ≡ Some y → x ≡ y
  the_func x y e = cc

  abbrev B : (spare : ℕ) → Configuration → Configuration → Type 0
  B = RunsBeside m s which (kept_frames m s which pieces keep) plan p

  abbrev A : ℕ → Configuration → Configuration → Type 0
  A = WaitsBeside m s which (kept_frames m s which pieces keep) plan p

  -- ---- what came back

  again_at : (a v c : Activation) (table : List (Option ℕ)) (g : ℕ) → PairAt (Base m) which a v → AtNumber m s which valid table g a → SameFlat (k.lay v).layout v c → AgainAt (Base m) which a c
  again_at a v c table g pr num sm = record {
    func = num.func;
    is = num.is;
    extra = extra2 m s which keep valid keeps a table g num pr.told pr.extra held0 c.locals size kept;
    locals = split m s which keep valid keeps a table g num pr.told pr.extra held0 c.locals size kept;
    held = held_again m s which keep valid keeps a table g num pr.told pr.extra held0 c.locals size kept;
  }
    where
      same_f : pr.func ≡ num.func
      same_f = the_func pr.func num.func (sym pr.is ∙ num.is)

      held0 : Locals (Base m) num.func a.locals pr.extra (a.taken ++ a.operands)
      held0 = subst (λ (z : Func). Locals (Base m) z a.locals pr.extra (a.taken ++ a.operands)) same_f pr.held

      size : length c.locals ≡ length (a.locals ++ pr.extra)
      size = sm.size ∙ ap length pr.locals

      defined : defined_at m a.func ≡ Some num.func
      defined = sym (base_defined m a.func) ∙ num.is

      lay_is : layout_of m s which keep a.func num.func ≡ (k.lay v).layout
      lay_is = sym (ap (λ x. lay_at m s which keep x (defined_at m x)) pr.same_func ∙ ap (λ o. lay_at m s which keep a.func o) defined)

      kept : (y : ℕ) → IsKept y (fields_of (keep a.func) (Saved (Base m) save_all num.func 0)) → value_at c.locals y ≡ value_at (a.locals ++ pr.extra) y
      kept y h = sm.kept_same y (subst (λ z. IsKept y z.fields) lay_is h) ∙ ap (λ zs. value_at zs y) pr.locals

  all_again : (table : List (Option ℕ)) (g : ℕ) (us vs cs : List Activation) → AllPairs (Base m) which us vs → AllAtNumbers m s which valid table g us → AllSameFlat k.lay vs cs
      → AllAgain (Base m) which us cs
  all_again table g [] [] [] ps nums same = tt
  all_again table g [] [] (c ∷ cs) ps nums same = absurd same
  all_again table g [] (v ∷ vs) cs ps nums same = absurd ps
  all_again table g (a ∷ us) [] cs ps nums same = absurd ps
  all_again table g (a ∷ us) (v ∷ vs) [] ps nums same = absurd same
  all_again table g (a ∷ us) (v ∷ vs) (c ∷ cs) ps nums same = (again_at a v c table g ps.0 nums.0 same.0, all_again table a.func us vs cs ps.1 nums.1 same.1)

  -- with more behind the flat locals those of the written functions
  pub again_more : (top i : ℕ) (d f : Configuration) (a : Activation) (us : List Activation) → LinkedWaits k B A i d f → All (StandsNumbered m s which) (stack_of (Base m) d)
      → AllSameFlat k.lay (f.here ∷ f.under) (a ∷ us) → AllMore p (a ∷ us) → FlatAgain (world_of k) (λ c d. c ≡ d) (N.L k B A) (N.W k B A) (GoodStore k) top i d f a us
  again_more top i d f a us l nums same more =
      let be = l.beside in
      let v = be.between in
      let fl = flat_again m s which frames plan p valid tells em plan_fits codes i d f a us l nums same more in
      let at = numbers_at m s which frames plan p valid tells em plan_fits codes i d f l nums in
      let ps = pairs_at m s which frames plan p valid tells em plan_fits codes i d f l nums in
      let told = all_told m s which frames plan p valid tells em plan_fits codes d.store.table i (d.here ∷ d.under) at in
      let back = all_again d.store.table i (d.here ∷ d.under) (f.here ∷ f.under) (a ∷ us) ps at same in
      record {
        chosen = d;
        live = refl;
        waits = record {
          beside = record {
            between = record { store = v.store; here = moved v.here a.locals; under = moved_all v.under us };
            asked = record {
              same_store = (be.asked).same_store;
              store = (be.asked).store;
              waits =
                  callers_moved (Base m) which i (d.here ∷ d.under) (v.here ∷ v.under) (a ∷ us) (be.asked).waits told back;
            };
            outs = be.outs;
            fits = record {
              store = (be.fits).store;
              waits = fits_moved m s which frames plan p k.lay be.outs (results_of (flat_module (Base m) which) i) l.flat_outs (results_of k.flat i)
                  (v.here ∷ v.under) (f.here ∷ f.under) (a ∷ us) (be.slim_asked).stack same (be.fits).waits (fl.0).waits;
            };
            slim_asked = record {
              store = (be.slim_asked).store;
              stack = unders_moved m s which frames plan p k.lay (d.here ∷ d.under) (v.here ∷ v.under) (f.here ∷ f.under) (a ∷ us)
                  (be.slim_asked).stack ps same;
            };
          };
          known = l.known;
          outs = l.outs;
          fits = l.fits;
          flat_outs = l.flat_outs;
          flat_fits = fl.0;
          named = fl.1;
          ranges = l.ranges;
          spots = l.spots;
          root = l.root;
          stands = l.stands;
        };
      }

  again : (top i : ℕ) (d f : Configuration) (a : Activation) (us : List Activation) → LinkedWaits k B A i d f → All (StandsNumbered m s which) (stack_of (Base m) d)
      → AllSameFlat k.lay (f.here ∷ f.under) (a ∷ us)
      → (us' : List Activation) → Stopped (setting (world_of k) top) i (a ∷ us) us' → AllLocalsFit p us' → FlatAgain (world_of k) (λ c d. c ≡ d) (N.L k B A) (N.W k B A) (GoodStore k) top i d f a us
  again top i d f a us l nums same us' st fit = again_more top i d f a us l nums same (written_fit (setting (world_of k) top) p i (a ∷ us) us' st fit)

  -- STACKS STAND AS FRAMES, and come back
  pub stacks_stand : StandsLaw (core_of m s which (kept_frames m s which pieces keep) plan p) (RunsBeside m s which (kept_frames m s which pieces keep) plan p)
      (WaitsBeside m s which (kept_frames m s which pieces keep) plan p) (λ c d. c ≡ d)
  stacks_stand = record {
    numbers = λ top i d f l nums. numbers m s which frames plan p valid tells em plan_fits codes top i d f l nums;
    stands = λ top i d f us' st l nums fit. stands m s which frames plan p valid tells em plan_fits codes (λ c d. c ≡ d) framed top i d f us' st l nums fit;
    again = again;
  }
