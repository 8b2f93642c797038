-- What a file's fault says of what the file holds.
use Rattle.std.specs.Prelude.{ℕ, List, Option}
use Rattle.vault_port.specs.Files.{Files}
use Rattle.wa_types.specs.FirstFault.{FirstFault}
use Rattle.wa_types.specs.ModuleBounds.{ModuleBounds}
use Rattle.wa_types.specs.Syntax.{Module}
use Rattle.script_model.specs.Transcript.{Refusal, malformed, float, nesting, limit, invalid}
use Rattle.transcript.specs.Printing.{refusal_of}
use Rattle.wasm_reader.specs.declared.read_fault.ReadFault.TheVariants.{Malformed, Float, Deep, Limit}
use Rattle.wasm_reader.specs.Answers.{IsRefused}
use Rattle.wasm_reader.specs.Held.{Holds}
use Rattle.module_files.specs.declared.fault.FileFault.{FileFault}
use Rattle.module_files.specs.declared.fault.FileFault.TheVariants.{Memory, Read, Refused}

-- want of memory, or a refusal of which this holds
abbrev pub IsFaultOf : (Refusal → Type 0) → FileFault → Type 0
IsFaultOf R Memory = Unit {0}
IsFaultOf R Read = ⊥
IsFaultOf R (Refused kind) = R (refusal_of kind)

-- where it could be read, the file holds bytes that are refused for this
abbrev pub IsToldFault : (List ℕ → Refusal → Type 0) → Option Files → (name : List ℕ) → FileFault → Type 0
IsToldFault R files name Memory = Unit {0}
IsToldFault R files name Read = Unit {0}
IsToldFault R files name (Refused kind) = (bytes : List ℕ) × Holds files name bytes × R bytes (refusal_of kind)

-- what reading refuses bytes for
abbrev pub IsUnread : ModuleBounds → List ℕ → Refusal → Type 0
IsUnread b bytes (malformed at) = IsRefused b bytes (Malformed at)
IsUnread b bytes (float at) = IsRefused b bytes (Float at)
IsUnread b bytes (nesting at) = IsRefused b bytes (Deep at)
IsUnread b bytes (limit what found) = IsRefused b bytes (Limit what found)
IsUnread b bytes _ = ⊥

-- the first fault of a module that isn't valid
abbrev pub IsInvalid : Module → Refusal → Type 0
IsInvalid m (invalid func rule at) = FirstFault m func rule at
IsInvalid m _ = ⊥
