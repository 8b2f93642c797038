-- What is written of what is emitted, for both policies.
use Rattle.std.specs.Prelude.{◌≡◌, ℕ, ◌<◌, ◌≤◌, ◌^◌, List, length, Some, Bool, true, slice_get}
use Rattle.wa_types.specs.Encoding.{Enc}
use Rattle.wa_types.specs.Frames.{Count}
use Rattle.wa_types.specs.ModuleBounds.{source_bounds, prepared_bounds}
use Rattle.wa_types.specs.Modules.{defined_at}
use Rattle.wa_types.specs.Norm.{Norm}
use Rattle.wa_types.specs.Pausing.{Settings, TellsMayPause, is_told}
use Rattle.wa_types.specs.Reading.{SpellsModule}
use Rattle.wa_types.specs.Sizes.{StrictSizeRule, WellFormed}
use Rattle.wa_types.specs.Syntax.{Func, Module}
use Rattle.wa_types.specs.Validity.{Valid}
use Rattle.wasm_encode.specs.Locals.{local_count}
use Rattle.wasm_encode.specs.Around.{code_entry}
use Rattle.wasm_encode.specs.Modules.{FewLocals}
use Rattle.wasm_reader.specs.Answers.{IsAccepted}
use Rattle.emitted_form.specs.EmittedAs.{EmittedAs, IsWritten}
use Rattle.emitted_form.specs.PolicyLaws.{CanBeEmitted}

-- It declares few locals, and its entry is no longer than a `u64` numbers.
pub record IsShortEntry (g : Func) : Type 0 where
  pub locals : local_count g.locals < 2 ^ 32
  pub bytes : length (code_entry g) < 2 ^ 64

-- So it is of each function that may pause, as it is written.
abbrev pub WrittenIsShort : Type 0
WrittenIsShort =
    (m : Module) (s : Settings) (which : List Bool) (x : ℕ) (f g : Func) → Valid m → StrictSizeRule m → TellsMayPause m s which → length (Enc m) ≤ 2 ^ 36
    → defined_at m x ≡ Some f → is_told (slice_get which x) ≡ true → Count m f ≤ 50000 → IsWritten m s which x f g → IsShortEntry g

-- The functions of an emitted module declare few locals,
abbrev pub EmittedAsHasFewLocals : Type 0
EmittedAsHasFewLocals = (m : Module) (s : Settings) (which : List Bool) (q : Module) → CanBeEmitted m s which → EmittedAs m s which q → FewLocals q

-- its bytes are fewer than 2 ^ 64 where those of the original are far fewer,
abbrev pub EmittedAsIsShort : Type 0
EmittedAsIsShort =
    (m : Module) (s : Settings) (which : List Bool) (q : Module) → CanBeEmitted m s which → EmittedAs m s which q → length m.funcs ≤ 100000 → length (Enc m) ≤ 2 ^ 36 → length (Enc q) < 2 ^ 64

-- and what is written of it, where that isn't long, spells its norm.
abbrev pub EmittedAsIsSpelled : Type 0
EmittedAsIsSpelled =
    (m : Module) (s : Settings) (which : List Bool) (q : Module) → CanBeEmitted m s which → EmittedAs m s which q → WellFormed m → length (Enc q) ≤ 67108864 → SpellsModule (Enc q) (Norm q)

-- Of a source module it has no float, and passes no bound of a prepared module.
abbrev pub EmittedAsIsPrepared : Type 0
EmittedAsIsPrepared =
    (m : Module) (s : Settings) (which : List Bool) (q : Module) (bytes : List ℕ) → CanBeEmitted m s which → EmittedAs m s which q → IsAccepted source_bounds bytes m
    → length (Enc q) ≤ 67108864 → SpellsModule (Enc q) (Norm q) → IsAccepted prepared_bounds (Enc q) (Norm q)
