-- Files that come in pieces.
use Rattle.std.specs.Prelude.{◌≡◌, ℕ, suc, ◌<◌, ◌≤◌, ◌++◌, List, [], length, Option, None}
use Rattle.wa_types.specs.ModuleBounds.{ModuleBounds}
use Rattle.wa_types.specs.declared.bounds.LimitKind.TheVariants.{File}
use Rattle.wasm_grammar.specs.Machine.{StopsAt}
use Rattle.wasm_reader.specs.declared.read_fault.ReadFault.{ReadFault}
use Rattle.wasm_reader.specs.declared.read_fault.ReadFault.TheVariants.{Memory, Malformed, Limit}

-- A file that is read in pieces: the bounds, the bytes that have come, those of them that are held, and the first fault that they met.
pub record Reading : Type 0 where
  pub bounds : ModuleBounds
  pub bytes : List ℕ
  pub held : List ℕ
  pub fault : Option ReadFault

-- nothing has come
abbrev pub begun_with : ModuleBounds → Reading
begun_with b = record { bounds = b; bytes = []; held = []; fault = None }

-- one more piece has come, behind which these bytes are held
abbrev pub fed : Reading → (piece held : List ℕ) → Reading
fed r piece held = record r { bytes = r.bytes ++ piece; held = held }

-- what is held are the last of the bytes: those behind the ones that are built
abbrev pub HoldsLast : Reading → Type 0
HoldsLast r = (built : List ℕ) × (r.bytes ≡ built ++ r.held)

-- The bytes aren't begun any more: k is the least number of first bytes that aren't.
abbrev pub IsStop : List ℕ → ReadFault → Type 0
IsStop bytes Memory = Unit {0}
IsStop bytes (Malformed k) = StopsAt bytes k
IsStop bytes _ = ⊥

-- Why bytes that have come so far are refused: they are more than a file may have; or else they aren't begun.
abbrev pub IsFeedFault : (most : ℕ) → List ℕ → ReadFault → Type 0
IsFeedFault most bytes Memory = Unit {0}
IsFeedFault most bytes (Malformed k) = (length bytes ≤ most) × StopsAt bytes k
IsFeedFault most bytes (Limit File n) = (most < length bytes) × (n ≡ suc most)
IsFeedFault most bytes _ = ⊥
