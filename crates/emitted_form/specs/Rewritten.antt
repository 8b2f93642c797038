-- What the emitted module is to its original, but for its runs.
use Rattle.std.specs.Prelude.{ℕ, List, Bool}
use Rattle.wa_types.specs.Pausing.{Settings, TellsMayPause}
use Rattle.wa_types.specs.Syntax.{Module}
use Rattle.wa_types.specs.Validity.{Valid}
use Rattle.run_theory.specs.Quiet.{FreeOfNames}
use Rattle.wa_model.specs.Rewrites.{RewritesButRuns, SameFunc}
use Rattle.slim_laws.specs.SlimModule.{Pieces}
use Rattle.emitted_form.specs.CodesHold.{AllSlim}
use Rattle.emitted_form.specs.Emitted.{asyncified}

-- ---- laws

-- The emitted module of a valid one without a reserved name is valid, whichever functions are written, from any slim pieces.
abbrev pub EmittedIsValid : Type 0
EmittedIsValid =
    (m : Module) (s : Settings) (which : List Bool) (pieces : (index : ℕ) → Pieces) → Valid m → AllSlim m s which pieces → FreeOfNames m → Valid (asyncified m s which pieces)

-- Where those are written that may pause, it is the original, rewritten, but for its runs.
abbrev pub EmittedIsRewritten : Type 0
EmittedIsRewritten =
    (m : Module) (s : Settings) (which : List Bool) (pieces : (index : ℕ) → Pieces) → Valid m → AllSlim m s which pieces → FreeOfNames m → TellsMayPause m s which
    → RewritesButRuns SameFunc m s (asyncified m s which pieces)
