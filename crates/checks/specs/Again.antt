-- What reading and writing one behind the other answer.
use Rattle.std.specs.Prelude.{◌≡◌, ℕ, ◌<◌, List, length}
use Rattle.wa_types.specs.Encoding.{Enc}
use Rattle.wa_types.specs.ModuleBounds.{prepared_bounds}
use Rattle.wa_types.specs.Norm.{Norm}
use Rattle.wa_types.specs.Reading.{SpellsModule}
use Rattle.wa_types.specs.Syntax.{Module}
use Rattle.wasm_encode.specs.declared.EncodeFault.{EncodeFault}
use Rattle.wasm_encode.specs.declared.EncodeFault.TheVariants.{Memory as unwritten, TooLong as too_long}
use Rattle.wasm_reader.specs.Answers.{IsAccepted, IsRefused}
use Rattle.wasm_reader.specs.declared.read_fault.ReadFault.{ReadFault}
use Rattle.wasm_reader.specs.declared.read_fault.ReadFault.TheVariants.{Memory as unread, Malformed, Float, Deep, Limit}
use Rattle.checks.specs.declared.round_trip.AgainFault.{AgainFault}
use Rattle.checks.specs.declared.round_trip.AgainFault.TheVariants.{Memory, TooLong, Refused}

-- a fault of reading, as it is told
abbrev pub of_read : ReadFault → AgainFault
of_read unread = Memory
of_read (Malformed at) = Refused (Malformed at)
of_read (Float at) = Refused (Float at)
of_read (Deep at) = Refused (Deep at)
of_read (Limit what n) = Refused (Limit what n)

-- a fault of writing, as it is told
abbrev pub of_encode : EncodeFault → AgainFault
of_encode unwritten = Memory
of_encode (too_long len) = TooLong len

-- What is written is the one spelling of the module that the source spells; it spells that module in its written
-- form.
pub record IsRewritten (source written : List ℕ) : Type 0 where
  pub spelled : Module
  pub accepted : IsAccepted prepared_bounds source spelled
  pub is_written : written ≡ Enc spelled
  pub spells : SpellsModule written (Norm spelled)

-- Why a source is not rewritten.
abbrev pub IsOfSource : List ℕ → AgainFault → Type 0
IsOfSource source Memory = Unit {0}
IsOfSource source (TooLong len) = ⊥
IsOfSource source (Refused fault) = IsRefused prepared_bounds source fault

-- Why a module of this spelling is not read again.
abbrev pub IsOfWritten : List ℕ → AgainFault → Type 0
IsOfWritten bytes Memory = Unit {0}
IsOfWritten bytes (TooLong len) = (67108864 < length bytes) × (len ≡ length bytes)
IsOfWritten bytes (Refused fault) = IsRefused prepared_bounds bytes fault
