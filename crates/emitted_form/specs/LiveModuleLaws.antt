-- Laws of the module that the policy `live` emits.
use Rattle.std.specs.Prelude.{◌≡◌, ℕ, List, Bool}
use Rattle.wa_types.specs.Pausing.{Settings, TellsMayPause, save_live}
use Rattle.wa_types.specs.Sizes.{SizeRule, StrictSizeRule, WellFormed}
use Rattle.wa_types.specs.Syntax.{Module}
use Rattle.wa_types.specs.Validity.{Valid}
use Rattle.run_theory.specs.Quiet.{FreeOfNames}
use Rattle.wa_model.specs.Rewrites.{Rewrites, RewritesButRuns, SameFunc}
use Rattle.call_frames.specs.PlainFrames.{SavedParts}
use Rattle.slim_laws.specs.SlimModule.{Pieces}
use Rattle.emitted_form.specs.Sizes.{FewWritten}
use Rattle.emitted_form.specs.CodesHold.{AllSlim}
use Rattle.emitted_form.specs.LiveParts.{AllLiveParts, live_asyncified}

-- A valid module under the strict size rule, the functions of it that may pause, each with at most 50,000 locals as it is written, and
-- their pieces and the parts of their frames.
pub record LiveRewriting (m : Module) (s : Settings) (which : List Bool) (pieces : (index : ℕ) → Pieces) (parts : (index : ℕ) → SavedParts) : Type 0 where
  pub valid : Valid m
  pub sizes : StrictSizeRule m
  pub few : FewWritten m which
  pub policy : s.policy ≡ save_live
  pub tells : TellsMayPause m s which
  pub slim : AllSlim m s which pieces
  pub live : AllLiveParts m s which parts

-- The emitted module of one without a reserved name is valid,
abbrev pub LiveIsValid : Type 0
LiveIsValid =
    (m : Module) (s : Settings) (which : List Bool) (pieces : (index : ℕ) → Pieces) (parts : (index : ℕ) → SavedParts) → LiveRewriting m s which pieces parts → FreeOfNames m
    → Valid (live_asyncified m s which pieces parts)

-- it is the original, rewritten, in each part but its runs,
abbrev pub LiveIsRewritten : Type 0
LiveIsRewritten =
    (m : Module) (s : Settings) (which : List Bool) (pieces : (index : ℕ) → Pieces) (parts : (index : ℕ) → SavedParts) → LiveRewriting m s which pieces parts → FreeOfNames m
    → RewritesButRuns SameFunc m s (live_asyncified m s which pieces parts)

-- and in all, pauses included.
abbrev pub LiveRewrites : Type 0
LiveRewrites =
    (m : Module) (s : Settings) (which : List Bool) (pieces : (index : ℕ) → Pieces) (parts : (index : ℕ) → SavedParts) → LiveRewriting m s which pieces parts → FreeOfNames m
    → Rewrites m s (live_asyncified m s which pieces parts)

-- It keeps the size rule,
abbrev pub LiveKeepsSizes : Type 0
LiveKeepsSizes =
    (m : Module) (s : Settings) (which : List Bool) (pieces : (index : ℕ) → Pieces) (parts : (index : ℕ) → SavedParts) → LiveRewriting m s which pieces parts
    → SizeRule (live_asyncified m s which pieces parts)

-- and its numbers are in range where those of the original are.
abbrev pub LiveIsWellFormed : Type 0
LiveIsWellFormed =
    (m : Module) (s : Settings) (which : List Bool) (pieces : (index : ℕ) → Pieces) (parts : (index : ℕ) → SavedParts) → LiveRewriting m s which pieces parts → WellFormed m
    → WellFormed (live_asyncified m s which pieces parts)
