-- A source as it is run.
use Rattle.std.specs.Prelude.{◌≡◌, ℕ, List, Bool}
use Rattle.wa_types.specs.Pausing.{Settings, Listed}
use Rattle.wa_types.specs.Sizes.{WellFormed}
use Rattle.wa_types.specs.Syntax.{Module}
use Rattle.wa_model.specs.Rewrites.{Rewrites}
use Rattle.emitted_form.specs.EmittedAs.{EmittedAs}
use Rattle.transform_command.specs.Sources.{IsRewritable}

-- The bytes are a source that can be rewritten; these of its function imports are listed, and this is the module that is emitted of it:
-- under the host's protocol it behaves like the source.
pub record RunsAs (s : Settings) (bytes : List ℕ) (listed : List Bool) (p : Module) : Type 0 where
  pub source : Module
  pub which : List Bool
  pub rewritable : IsRewritable s bytes source which
  pub well_formed : WellFormed source
  pub listed_is : listed ≡ Listed source s
  pub emitted : EmittedAs source s which p
  pub rewrites : Rewrites source s p
