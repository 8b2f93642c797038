-- How far a file that comes in pieces has been read and built, and what of it is held.
use Rattle.std.specs.Prelude.{◌≡◌, ℕ, ◌≤◌, List, [], ◌++◌, length, take, drop, Option, Some, None, Result, Bool, true}
use Rattle.wa_types.specs.Binary.{Section}
use Rattle.wa_types.specs.ModuleBounds.{ModuleBounds}
use Rattle.wa_types.specs.Reading.{IsModule, SpellsModule}
use Rattle.wa_types.specs.Syntax.{Module}
use Rattle.wa_types.specs.declared.syntax.Module.{Module as ModuleValue}
use Rattle.wasm_build.specs.declared.build_types.BuildFault.{BuildFault}
use Rattle.wasm_build.specs.BuildsModule.{GivesModule}
use Rattle.wasm_build.specs.BuildsPieces.{Comes}
use Rattle.wasm_build.specs.declared.builder.Builder.{Builder}
use Rattle.wasm_grammar.specs.Machine.{Waits}
use Rattle.wasm_grammar.specs.declared.machine.Machine.{Machine}
use Rattle.wasm_reader.specs.Answers.{IsShallow}
use Rattle.wasm_reader.specs.declared.progress.Progress.{Progress}
use Rattle.wasm_reader.specs.declared.read_fault.ReadFault.{ReadFault}

-- The items of the bytes have been read as far as they are whole, to where bytes are held; nothing was where there are none.
abbrev pub IsGoing : ModuleBounds → (bytes : List ℕ) → (base : ℕ) → Option Machine → Type 0
IsGoing b bytes base None = (bytes ≡ []) × (base ≡ 0)
IsGoing b bytes base (Some m) = Waits b m.marks bytes m.at m.goals × (base ≤ m.at)

-- no file that begins so is a module within the bounds
abbrev pub Hopeless : ModuleBounds → List ℕ → Type 0
Hopeless b bytes = (more : List ℕ) (ss : List Section) (m : Module) → IsShallow b (bytes ++ more) ss → IsModule ss m → ⊥

-- of each file that begins so, what is left comes next
abbrev pub Awaits : ModuleBounds → (before left : List ℕ) → Option Builder → Type 0
Awaits b before left (Some k) = (more : List ℕ) (m : Module) → SpellsModule ((before ++ left) ++ more) m → Comes k m (length before) (left ++ more)
Awaits b before left None = Hopeless b (before ++ left)

-- the same behind so many of those bytes
abbrev pub AwaitsBehind : ModuleBounds → (before left : List ℕ) → (used : ℕ) → Option Builder → Type 0
AwaitsBehind b before left used k = Awaits b (before ++ take used left) (drop used left) k

-- all bytes that have come
abbrev pub bytes_of : Progress → List ℕ
bytes_of p = p.before.bytes ++ p.window.items

-- These bytes, behind those that are built, have been read, and built as far as they are whole.
pub record Goes (b : ModuleBounds) (p : Progress) (left : List ℕ) : Type 0 where
  pub held : length p.before.bytes ≡ p.base
  pub going : IsGoing b (p.before.bytes ++ left) p.base p.machine
  pub awaits : Awaits b p.before.bytes left p.builder

-- one more piece has come
abbrev pub HasMore : ModuleBounds → Progress → Type 0
HasMore b p = (old : List ℕ) × (piece : List ℕ) × (p.window.items ≡ old ++ piece) × Goes b p old

-- What is built of these bytes, whatever follows: so many of them are built, where nesting isn't too deep.
pub record BuildsOn (old : Option Builder) (deep : Bool) (base : ℕ) (bytes : List ℕ) (new : Option Builder) (used : ℕ) : Type 0 where
  pub builds : (b : ModuleBounds) (before later : List ℕ) → length before ≡ base → (deep ≡ true → Hopeless b (before ++ (bytes ++ later))) → Awaits b before (bytes ++ later) old
      → AwaitsBehind b before (bytes ++ later) used new

-- Before a fault the bytes are within the limit of a file, and have been read and built.
abbrev pub KeepsUp : ModuleBounds → Progress → Option ReadFault → Type 0
KeepsUp b p None = (length (bytes_of p) ≤ b.file) × Goes b p p.window.items
KeepsUp b p (Some fault) = Unit {0}

-- these are the bytes of a file that aren't built
abbrev pub IsLeft : ModuleBounds → (all : List ℕ) → Option Builder → (left : List ℕ) → (base : ℕ) → Type 0
IsLeft b all k left base = (before : List ℕ) × (all ≡ before ++ left) × (length before ≡ base) × Awaits b before left k

-- where these are a file's last bytes, the module of the file
abbrev pub GivesLeft : Result ModuleValue BuildFault → Option Builder → (left : List ℕ) → (base : ℕ) → Type 0
GivesLeft result k left base =
    (b : ModuleBounds) (before : List ℕ) (ss : List Section) (m : Module) → length before ≡ base → Awaits b before left k → IsShallow b (before ++ left) ss → IsModule ss m
    → GivesModule result m
