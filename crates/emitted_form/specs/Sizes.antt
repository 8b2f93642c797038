-- How large the emitted module is.
use Rattle.std.specs.Prelude.{◌≡◌, ◌≤◌, ℕ, List, Some, Bool, true, slice_get}
use Rattle.wa_types.specs.Frames.{Count}
use Rattle.wa_types.specs.Modules.{defined_at}
use Rattle.wa_types.specs.Pausing.{Settings, is_told}
use Rattle.wa_types.specs.Sizes.{SizeRule, StrictSizeRule}
use Rattle.wa_types.specs.Syntax.{Func, Module}
use Rattle.wa_types.specs.Validity.{Valid}
use Rattle.slim_laws.specs.SlimModule.{Pieces}
use Rattle.emitted_form.specs.CodesHold.{AllSlim}
use Rattle.emitted_form.specs.Emitted.{asyncified}

-- Each function that is told has at most 50,000 locals as it is written.
abbrev pub FewWritten : Module → (which : List Bool) → Type 0
FewWritten m which = (x : ℕ) (f : Func) → defined_at m x ≡ Some f → is_told (slice_get which x) ≡ true → Count m f ≤ 50000

-- Of a valid module under the strict size rule the emitted one keeps the size rule.
abbrev pub EmittedKeepsSizes : Type 0
EmittedKeepsSizes =
    (m : Module) (s : Settings) (which : List Bool) (pieces : (index : ℕ) → Pieces) → Valid m → AllSlim m s which pieces → StrictSizeRule m → FewWritten m which
    → SizeRule (asyncified m s which pieces)
