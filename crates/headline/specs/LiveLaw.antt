-- The step in between that a policy chooses: configurations of the original that differ in what is never read.
use Rattle.std.specs.Prelude.{◌≡◌, ℕ, List, All}
use Rattle.wa_types.specs.declared.values.Trap.{Trap}
use Rattle.wa_types.specs.declared.values.Value.{Value}
use Rattle.wa_model.specs.Behaves.{StandsNumbered}
use Rattle.wa_model.specs.Blocking.{resumed}
use Rattle.wa_model.specs.Configuration.{Configuration, stack_of}
use Rattle.wa_model.specs.Step.{Next, asks, returns, step, steps, stuck, traps}
use Rattle.wa_model.specs.Store.{Store}
use Rattle.wa_model.specs.Untouched.{next_ranges}
use Rattle.frame_laws.specs.Stack.{Level}
use Rattle.frame_laws.specs.Suspended.{AllStandFor}
use Rattle.headline.specs.FlatLaw.{AllWeigh}
use Rattle.headline.specs.World.{World, base}

-- what comes next is the same on both
pub data LiveNext (Live : Configuration → Configuration → Type 0) : Next → Next → Type 0 where
  live_steps : {k : ℕ} {c d : Configuration} → Live c d → LiveNext Live (steps k c) (steps k d)
  live_asks : {k i : ℕ} {args : List Value} {c d : Configuration} → Live c d → LiveNext Live (asks k i args c) (asks k i args d)
  live_returns : {k : ℕ} {vs : List Value} {s : Store} → LiveNext Live (returns k vs s) (returns k vs s)
  live_traps : {k : ℕ} {t : Trap} {s : Store} → LiveNext Live (traps k t s) (traps k t s)
  live_stuck : LiveNext Live stuck stuck

-- What is asked of the relation: steps keep it, and what a suspended stack stands for beside a waiting flat one it stands for too.
pub record LiveLaw (w : World) (Live : Configuration → Configuration → Type 0) (W : (top import : ℕ) → Configuration → Configuration → Type 0) : Type 0 where
  pub same : (c : Configuration) → Live c c
  pub on : (c d e : Configuration) → Live c d → Live d e → Live c e
  pub store : (c d : Configuration) → Live c d → d.store ≡ c.store
  pub reach : (c d : Configuration) → Live c d → next_ranges d ≡ next_ranges c
  pub steps_keep : (c d : Configuration) → Live c d → LiveNext Live (step (base w) c) (step (base w) d)
  pub resumes : (c d : Configuration) (s : Store) (vs : List Value) → Live c d → Live (resumed c s vs) (resumed d s vs)
  pub numbered : (c d : Configuration) → Live c d → All (StandsNumbered w.original w.settings w.which) (stack_of (base w) c) → All (StandsNumbered w.original w.settings w.which) (stack_of (base w) d)
  pub stand : (top i : ℕ) (c d f : Configuration) (ws : List Level) → Live c d → W top i d f → AllStandFor w.original w.settings w.which ws (stack_of (base w) d)
      → AllStandFor w.original w.settings w.which ws (stack_of (base w) c)
  pub weigh : (c d : Configuration) (n : ℕ) (ws : List Level) → Live c d → AllWeigh w.original n ws (stack_of (base w) d) → AllWeigh w.original n ws (stack_of (base w) c)

-- ---- both relations with that step in between

module _ (Live : Configuration → Configuration → Type 0) (L : (top spare : ℕ) → Configuration → Configuration → Type 0) (W : (top import : ℕ) → Configuration → Configuration → Type 0) where
  pub record L2 (top spare : ℕ) (c f : Configuration) : Type 0 where
    pub chosen : Configuration
    pub live : Live c chosen
    pub link : L top spare chosen f

  pub record W2 (top import : ℕ) (d f : Configuration) : Type 0 where
    pub chosen : Configuration
    pub live : Live d chosen
    pub waits : W top import chosen f
