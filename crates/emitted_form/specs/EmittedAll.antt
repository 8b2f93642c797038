-- The emitted module of the policy that saves all is its original, rewritten: runs and pauses included.
use Rattle.std.specs.Prelude.{◌≡◌, ℕ, List, Bool}
use Rattle.wa_types.specs.Pausing.{Settings, TellsMayPause, save_all}
use Rattle.wa_types.specs.Sizes.{StrictSizeRule}
use Rattle.wa_types.specs.Syntax.{Module}
use Rattle.wa_types.specs.Validity.{Valid}
use Rattle.run_theory.specs.Quiet.{FreeOfNames}
use Rattle.wa_model.specs.Rewrites.{Rewrites}
use Rattle.emitted_form.specs.CodesHold.{AllSlim}
use Rattle.emitted_form.specs.Emitted.{asyncified}
use Rattle.slim_laws.specs.SlimModule.{Pieces}
use Rattle.emitted_form.specs.Sizes.{FewWritten}

-- Of a valid module without a reserved name, under the strict size rule, of which the functions that may pause are written, each with
-- at most 50,000 locals, from any slim pieces, the emitted module is the original, rewritten.
abbrev pub AsyncifiedIsRewritten : Type 0
AsyncifiedIsRewritten =
    (m : Module) (s : Settings) (which : List Bool) (pieces : (index : ℕ) → Pieces) → Valid m → AllSlim m s which pieces → FreeOfNames m → StrictSizeRule m → FewWritten m which
    → s.policy ≡ save_all → TellsMayPause m s which → Rewrites m s (asyncified m s which pieces)
