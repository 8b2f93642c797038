-- What the builder gives for bytes that spell a module or a part of one.
use Rattle.std.specs.Prelude.{◌≡◌, ℕ, ◌+◌, List, [], ◌∷◌, ◌++◌, length, Result, Ok, Err, Option, Bool}
use Rattle.wa_types.specs.declared.values.ValType.{ValType}
use Rattle.wa_types.specs.Binary.{Placed}
use Rattle.wa_types.specs.Encoding.{block_type_byte}
use Rattle.wa_types.specs.Spells.{Vector, GlobalType}
use Rattle.wa_types.specs.Reading.{IsValueType}
use Rattle.wasm_grammar.specs.Places.{Place, with_more}
use Rattle.wasm_grammar.specs.declared.front.NotSpelled.{NotSpelled}
use Rattle.wasm_build.specs.declared.build_types.BuildFault.{BuildFault}
use Rattle.wasm_build.specs.declared.build_types.BuildFault.TheVariants.{Memory}

-- The bytes from one place to another spell this.
pub record Between (Spelled : ℕ → List ℕ → Type 0) (from to : Place) : Type 0 where
  pub front : List ℕ
  pub spelled : Spelled from.at front
  pub left : from.left ≡ front ++ to.left
  pub place : to.at ≡ from.at + length front

-- what the file spells of this, whatever of it the module leaves out
abbrev pub SpelledAs : {R X : Type 0} → (R → ℕ → List ℕ → Type 0) → (R → X → Type 0) → X → ℕ → List ℕ → Type 0
SpelledAs Spelled Is x at bytes = (raw : _) × Is raw x × Spelled raw at bytes

-- it is want of memory, or more bytes follow, for want of which it came
abbrev pub IsWant : (more : List ℕ) → BuildFault → Type 0
IsWant more e = more ≡ [] → e ≡ Memory

-- that, seen through this view, and the place behind it; or a want
abbrev pub Gives : {A X : Type 0} → (A → X) → (more : List ℕ) → Result A BuildFault → X → (new end : Place) → Type 0
Gives view more (Ok a) x new end = (view a ≡ x) × (new ≡ end)
Gives view more (Err e) x new end = IsWant more e

-- For whatever the front spells, whatever follows the bytes, the answer is that, and the place is behind it; or there was no memory, or it isn't whole yet.
pub record Builds {A X : Type 0} (view : A → X) (Spelled : X → ℕ → List ℕ → Type 0) (result : Result A BuildFault) (old new : Place) : Type 0 where
  pub built : (more : List ℕ) (x : X) (end : Place) → Between (Spelled x) (with_more old more) end → Gives view more result x (with_more new more) end

-- the place is reached; or more bytes follow
abbrev pub Reaches : (more : List ℕ) → Result (Unit {0}) NotSpelled → (new end : Place) → Type 0
Reaches more (Ok u) new end = new ≡ end
Reaches more (Err e) new end = more ≡ [] → ⊥

-- The place is behind whatever bytes of this the front has, whatever follows; or they aren't all there yet.
pub record Passes (Spelled : ℕ → List ℕ → Type 0) (result : Result (Unit {0}) NotSpelled) (old new : Place) : Type 0 where
  pub passed : (more : List ℕ) (end : Place) → Between Spelled (with_more old more) end → Reaches more result (with_more new more) end

-- the result of a construct (5.3.2)
abbrev pub IsResult : Placed → Option ValType → Type 0
IsResult raw r = raw.byte ≡ block_type_byte r

-- a type and whether it is mutable
abbrev pub SpelledGlobalType : ValType × Bool → ℕ → List ℕ → Type 0
SpelledGlobalType g = SpelledAs (λ raw. GlobalType raw g.1) IsValueType g.0

-- a vector of what stands behind these
abbrev pub SpelledBehind : {X : Type 0} → (X → ℕ → List ℕ → Type 0) → (before : List X) → List X → ℕ → List ℕ → Type 0
SpelledBehind item before all at bytes = (xs : List _) × (all ≡ before ++ xs) × Vector item xs at bytes

-- one more behind these
abbrev pub SpelledOnto : {X : Type 0} → (X → ℕ → List ℕ → Type 0) → (before : List X) → List X → ℕ → List ℕ → Type 0
SpelledOnto item before all at bytes = (x : _) × (all ≡ before ++ x ∷ []) × item x at bytes
