-- A file that comes in pieces.
use Rattle.std.specs.Prelude.{◌≡◌, ◌≤◌, ◌-◌, ℕ, List, length, take, drop, Option, IsSome}
use Rattle.vault_port.specs.Files.{Files, bytes_of}
use Rattle.vault_port.specs.Told.{WhereTold}
use Rattle.wa_types.specs.ModuleBounds.{ModuleBounds}
use Rattle.wasm_reader.specs.Answers.{IsRefused}
use Rattle.wasm_reader.specs.declared.fault.ModuleFault.{ModuleFault}
use Rattle.wasm_reader.specs.declared.fault.ModuleFault.TheVariants.{Memory, Read, Refused}

-- n bytes of a file stand at the front of the buffer, those behind its first ones; none only where it has no more
pub record IsPiece (bytes : List ℕ) (done n : ℕ) (buffer : List ℕ) : Type 0 where
  pub there : n ≤ length bytes - done
  pub same : take n buffer ≡ take n (drop done bytes)
  pub none : n ≡ 0 → length bytes ≤ done

-- where the files are told, this one begins with these bytes
abbrev pub IsFront : Option Files → (name front : List ℕ) → Type 0
IsFront files name front = WhereTold files (λ all. front ≡ take (length front) (bytes_of all name))

-- .. and is there
abbrev pub BeginsWith : Option Files → (name front : List ℕ) → Type 0
BeginsWith files name front = WhereTold files (λ all. IsSome (all name)) × IsFront files name front

-- why bytes that are all of a file are refused
abbrev pub IsFaultOf : ModuleBounds → List ℕ → ModuleFault → Type 0
IsFaultOf b bytes Memory = Unit {0}
IsFaultOf b bytes Read = ⊥
IsFaultOf b bytes (Refused fault) = IsRefused b bytes fault
