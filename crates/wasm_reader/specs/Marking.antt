-- What is said of a file by what was marked along it.
use Rattle.std.specs.Prelude.{ℕ, List, Option, Some, None}
use Rattle.wa_types.specs.Binary.{Section}
use Rattle.wa_types.specs.ModuleBounds.{ModuleBounds}
use Rattle.wasm_reader.specs.declared.read_fault.ReadFault.{ReadFault}
use Rattle.wasm_reader.specs.Answers.{IsShallow, IsRefused}

-- a refusal of the file, or that it is shallow
abbrev pub IsJudged : ModuleBounds → List ℕ → List Section → Option ReadFault → Type 0
IsJudged b bytes ss None = IsShallow b bytes ss
IsJudged b bytes ss (Some fault) = IsRefused b bytes fault
