-- An original beside the module in which flat code is slim: a flat configuration stands between.
use Rattle.std.specs.Prelude.{◌≡◌, ℕ, ◌≤◌, List, true}
use Rattle.wa_types.specs.declared.values.ValType.{ValType}
use Rattle.wa_types.specs.Syntax.{Module}
use Rattle.wa_model.specs.Configuration.{Configuration}
use Rattle.run_theory.specs.Fitting.{Fits, WaitingFits}
use Rattle.flat_laws.specs.FlatModule.{Flattened}
use Rattle.flat_runs.specs.Beside.{Asked, Beside, first_of}
use Rattle.slim_laws.specs.Slim.{Terms}
use Rattle.slim_laws.specs.Beside.{Sides, Together}
use Rattle.slim_laws.specs.Beside as S
use Rattle.headline.specs.Beside.{BesideLaw}
use Rattle.headline.specs.Core.{Core, CoreFits, based}

module _ (k : Core) (slim : Module) (terms : ℕ → Terms) where
  -- the flat module and the slim one
  abbrev pub slim_sides : Sides
  slim_sides = record { flat = k.flat; slim = slim; terms = terms }

  -- both run: the original beside a flat configuration, that one beside the slim one, with so many values to spare
  pub record SlimBeside (spare : ℕ) (c f : Configuration) : Type 0 where
    pub between : Configuration
    pub beside : Beside (based k) k.which c between
    pub outs : List ValType
    pub fits : Fits k.flat outs between
    pub slim_beside : S.Beside slim_sides spare between f

  -- both wait for the answer of an import
  pub record SlimAsked (i : ℕ) (d f : Configuration) : Type 0 where
    pub between : Configuration
    pub asked : Asked (based k) k.which i d between
    pub outs : List ValType
    pub fits : WaitingFits k.flat outs i between
    pub slim_asked : S.Asked slim_sides between f

  -- What is asked of the modules: the told functions are flat, the slim module has slim code beside, and slots stand behind the
  -- original's own locals.
  pub record SlimFits : Type 0 where
    pub flattened : Flattened (based k) k.flat k.which
    pub together : Together slim_sides
    pub behind : (x y : ℕ) → (terms x).slot y ≡ true → first_of (based k) x ≤ y

-- The slim module stands beside the original as the headline's links ask.
abbrev pub SlimModuleIsBeside : Type 0
SlimModuleIsBeside =
    (k : Core) (slim : Module) (terms : ℕ → Terms) → CoreFits k → SlimFits k slim terms → BesideLaw (based k) slim (SlimBeside k slim terms) (SlimAsked k slim terms)
