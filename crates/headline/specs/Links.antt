-- The links of original and flat configurations in the headline: they stand beside one another, fit their modules, name what is
-- there; and the original's is in range, stands in its bodies, where each call leads to the next function inwards.
use Rattle.std.specs.Prelude.{ℕ, ◌<◌, List, ◌∷◌, All}
use Rattle.wa_types.specs.Modules.{func_imports}
use Rattle.wa_types.specs.declared.values.ValType.{ValType}
use Rattle.wa_model.specs.Behaves.{StandsNumbered}
use Rattle.wa_model.specs.Configuration.{Activation, Configuration, stack_of}
use Rattle.run_theory.specs.Fitting.{Fits, WaitingFits, StoreFits}
use Rattle.run_theory.specs.Growth.{ConfigNamed, StoreNamed, spaces_of}
use Rattle.wa_model.specs.Store.{Store}
use Rattle.run_laws.specs.Ranges.{ConfigurationIn, StoreIn}
use Rattle.run_laws.proofs.SpotSteps.{ConfigurationAtSpots, WaitingAtSpots}
use Rattle.run_laws.proofs.StandingStates.{ConfigurationAt, WaitingAt}
use Rattle.guard_runs.specs.Returned.{AllSameFlat}
use Rattle.guard_runs.specs.Stopped.{AllNumbered, Stopped}
use Rattle.headline.specs.FlatLaw.{FlatStands, FlatAgain, AllLocalsFit}
use Rattle.headline.specs.World.{setting}
use Rattle.headline.specs.Core.{Core, based, world_of}

-- a store of the original that fits it, and is in range
pub record GoodStore (k : Core) (s : Store) : Type 0 where
  pub fits : StoreFits (based k) s
  pub named : StoreNamed (spaces_of k.flat) s
  pub ranges : StoreIn 0 s

module _ (k : Core) (B : (spare : ℕ) → Configuration → Configuration → Type 0) (A : ℕ → Configuration → Configuration → Type 0) where
  -- both run, with so much to spare
  pub record Linked (spare : ℕ) (c f : Configuration) : Type 0 where
    pub beside : B spare c f
    pub outs : List ValType
    pub fits : Fits (based k) outs c
    pub flat_outs : List ValType
    pub flat_fits : Fits k.flat flat_outs f
    pub named : ConfigNamed (spaces_of k.flat) f
    pub ranges : ConfigurationIn 0 c
    pub spots : ConfigurationAtSpots (based k) c
    pub root : ℕ
    pub stands : ConfigurationAt (based k) c.store.table root c

  -- both wait for the answer of an import
  pub record LinkedWaits (i : ℕ) (d f : Configuration) : Type 0 where
    pub beside : A i d f
    pub known : i < func_imports (based k)
    pub outs : List ValType
    pub fits : WaitingFits (based k) outs i d
    pub flat_outs : List ValType
    pub flat_fits : WaitingFits k.flat flat_outs i f
    pub named : ConfigNamed (spaces_of k.flat) f
    pub ranges : ConfigurationIn 0 d
    pub spots : WaitingAtSpots (based k) i d
    pub root : ℕ
    pub stands : WaitingAt (based k) d.store.table root i d

  abbrev pub L : (top spare : ℕ) → Configuration → Configuration → Type 0
  L top spare c f = Linked spare c f

  abbrev pub W : (top i : ℕ) → Configuration → Configuration → Type 0
  W top i d f = LinkedWaits i d f

  -- What a suspended stack of numbered calls owes beside, up to the step in between that a policy chooses.
  pub record StandsLaw (Live : Configuration → Configuration → Type 0) : Type 0 where
    pub numbers : (top i : ℕ) (d f : Configuration) → LinkedWaits i d f → All (StandsNumbered k.original k.settings k.which) (stack_of (based k) d)
        → AllNumbered (setting (world_of k) top) i (f.here ∷ f.under)
    pub stands : (top i : ℕ) (d f : Configuration) (us' : List Activation) (st : Stopped (setting (world_of k) top) i (f.here ∷ f.under) us') → LinkedWaits i d f
        → All (StandsNumbered k.original k.settings k.which) (stack_of (based k) d) → AllLocalsFit k.written us' → FlatStands (world_of k) Live L W (GoodStore k) top i d f us' st
    pub again : (top i : ℕ) (d f : Configuration) (a : Activation) (us : List Activation) → LinkedWaits i d f → All (StandsNumbered k.original k.settings k.which) (stack_of (based k) d)
        → AllSameFlat k.lay (f.here ∷ f.under) (a ∷ us) → (us' : List Activation) → Stopped (setting (world_of k) top) i (a ∷ us) us' → AllLocalsFit k.written us'
        → FlatAgain (world_of k) Live L W (GoodStore k) top i d f a us
