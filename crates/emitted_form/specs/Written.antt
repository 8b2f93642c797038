-- What is written of an emitted module.
use Rattle.std.specs.Prelude.{◌<◌, ◌≤◌, ◌^◌, ℕ, List, length, Bool}
use Rattle.wa_types.specs.Encoding.{Enc}
use Rattle.wa_types.specs.Norm.{Norm}
use Rattle.wa_types.specs.Pausing.{Settings}
use Rattle.wa_types.specs.Reading.{SpellsModule}
use Rattle.wa_types.specs.Sizes.{StrictSizeRule, WellFormed}
use Rattle.wa_types.specs.Syntax.{Module}
use Rattle.wa_types.specs.Validity.{Valid}
use Rattle.wasm_encode.specs.Modules.{FewLocals}
use Rattle.emitted_form.specs.CodesHold.{AllSlim}
use Rattle.slim_laws.specs.SlimModule.{Pieces}
use Rattle.emitted_form.specs.Emitted.{asyncified}
use Rattle.emitted_form.specs.Sizes.{FewWritten}

-- The numbers of the emitted module of a valid one are in range, whichever functions are written, from any slim pieces,
abbrev pub EmittedIsWellFormed : Type 0
EmittedIsWellFormed =
    (m : Module) (s : Settings) (which : List Bool) (pieces : (index : ℕ) → Pieces) → Valid m → AllSlim m s which pieces → WellFormed m → StrictSizeRule m → FewWritten m which
    → WellFormed (asyncified m s which pieces)

-- its functions declare few locals,
abbrev pub EmittedHasFewLocals : Type 0
EmittedHasFewLocals =
    (m : Module) (s : Settings) (which : List Bool) (pieces : (index : ℕ) → Pieces) → Valid m → AllSlim m s which pieces → StrictSizeRule m → FewWritten m which
    → FewLocals (asyncified m s which pieces)

-- its bytes are fewer than 2 ^ 64 where the original is within the bounds of a source,
abbrev pub EmittedIsShort : Type 0
EmittedIsShort =
    (m : Module) (s : Settings) (which : List Bool) (pieces : (index : ℕ) → Pieces) → Valid m → AllSlim m s which pieces → StrictSizeRule m → FewWritten m which → length m.funcs ≤ 100000
    → length (Enc m) ≤ 2 ^ 60 → length (Enc (asyncified m s which pieces)) < 2 ^ 64

-- and what is written of it, where that isn't long, spells its norm.
abbrev pub EmittedIsSpelled : Type 0
EmittedIsSpelled =
    (m : Module) (s : Settings) (which : List Bool) (pieces : (index : ℕ) → Pieces) → Valid m → AllSlim m s which pieces → WellFormed m → StrictSizeRule m → FewWritten m which
    → length (Enc (asyncified m s which pieces)) ≤ 67108864 → SpellsModule (Enc (asyncified m s which pieces)) (Norm (asyncified m s which pieces))
