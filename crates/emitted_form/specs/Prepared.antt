-- What is written of a source module is a prepared module.
use Rattle.std.specs.Prelude.{ℕ, ◌≤◌, List, length, Bool}
use Rattle.wa_types.specs.Encoding.{Enc}
use Rattle.wa_types.specs.ModuleBounds.{source_bounds, prepared_bounds}
use Rattle.wa_types.specs.Norm.{Norm}
use Rattle.wa_types.specs.Pausing.{Settings}
use Rattle.wa_types.specs.Reading.{SpellsModule}
use Rattle.wa_types.specs.Syntax.{Module}
use Rattle.wa_types.specs.Validity.{Valid}
use Rattle.wasm_reader.specs.Answers.{IsAccepted}
use Rattle.emitted_form.specs.CodesHold.{AllSlim}
use Rattle.emitted_form.specs.Emitted.{asyncified}
use Rattle.slim_laws.specs.SlimModule.{Pieces}
use Rattle.emitted_form.specs.Sizes.{FewWritten}

-- Of a valid source module the emitted one, where its bytes spell it and aren't too many, has no float and passes no bound of
-- a prepared module.
abbrev pub EmittedIsPrepared : Type 0
EmittedIsPrepared =
    (m : Module) (s : Settings) (which : List Bool) (pieces : (index : ℕ) → Pieces) (bytes : List ℕ) → IsAccepted source_bounds bytes m → Valid m → AllSlim m s which pieces → FewWritten m which
    → length (Enc (asyncified m s which pieces)) ≤ 67108864 → SpellsModule (Enc (asyncified m s which pieces)) (Norm (asyncified m s which pieces))
    → IsAccepted prepared_bounds (Enc (asyncified m s which pieces)) (Norm (asyncified m s which pieces))
