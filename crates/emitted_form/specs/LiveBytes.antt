-- What is written of the module that the policy `live` emits.
use Rattle.std.specs.Prelude.{ℕ, ◌<◌, ◌≤◌, ◌^◌, List, length, Bool}
use Rattle.wa_types.specs.Encoding.{Enc}
use Rattle.wa_types.specs.ModuleBounds.{source_bounds, prepared_bounds}
use Rattle.wa_types.specs.Norm.{Norm}
use Rattle.wa_types.specs.Pausing.{Settings}
use Rattle.wa_types.specs.Reading.{SpellsModule}
use Rattle.wa_types.specs.Sizes.{WellFormed}
use Rattle.wa_types.specs.Syntax.{Module}
use Rattle.wasm_encode.specs.Modules.{FewLocals}
use Rattle.wasm_reader.specs.Answers.{IsAccepted}
use Rattle.call_frames.specs.PlainFrames.{SavedParts}
use Rattle.slim_laws.specs.SlimModule.{Pieces}
use Rattle.emitted_form.specs.LiveModuleLaws.{LiveRewriting}
use Rattle.emitted_form.specs.LiveParts.{live_asyncified}

-- The functions of the emitted module declare few locals,
abbrev pub LiveHasFewLocals : Type 0
LiveHasFewLocals =
    (m : Module) (s : Settings) (which : List Bool) (pieces : (index : ℕ) → Pieces) (parts : (index : ℕ) → SavedParts) → LiveRewriting m s which pieces parts
    → FewLocals (live_asyncified m s which pieces parts)

-- its bytes are fewer than 2 ^ 64 where those of the original are far fewer,
abbrev pub LiveIsShort : Type 0
LiveIsShort =
    (m : Module) (s : Settings) (which : List Bool) (pieces : (index : ℕ) → Pieces) (parts : (index : ℕ) → SavedParts) → LiveRewriting m s which pieces parts
    → length m.funcs ≤ 100000 → length (Enc m) ≤ 2 ^ 36 → length (Enc (live_asyncified m s which pieces parts)) < 2 ^ 64

-- and what is written of it, where that isn't long, spells its norm.
abbrev pub LiveIsSpelled : Type 0
LiveIsSpelled =
    (m : Module) (s : Settings) (which : List Bool) (pieces : (index : ℕ) → Pieces) (parts : (index : ℕ) → SavedParts) → LiveRewriting m s which pieces parts → WellFormed m
    → length (Enc (live_asyncified m s which pieces parts)) ≤ 67108864 → SpellsModule (Enc (live_asyncified m s which pieces parts)) (Norm (live_asyncified m s which pieces parts))

-- Of a source module it has no float, and passes no bound of a prepared module.
abbrev pub LiveIsPrepared : Type 0
LiveIsPrepared =
    (m : Module) (s : Settings) (which : List Bool) (pieces : (index : ℕ) → Pieces) (parts : (index : ℕ) → SavedParts) (bytes : List ℕ) → LiveRewriting m s which pieces parts
    → IsAccepted source_bounds bytes m
    → length (Enc (live_asyncified m s which pieces parts)) ≤ 67108864 → SpellsModule (Enc (live_asyncified m s which pieces parts)) (Norm (live_asyncified m s which pieces parts))
    → IsAccepted prepared_bounds (Enc (live_asyncified m s which pieces parts)) (Norm (live_asyncified m s which pieces parts))
