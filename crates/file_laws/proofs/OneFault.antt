-- Where bytes are at fault they spell nothing, and they are at fault in one place.
use Rattle.std.proofs.Common.{◌≡◌, ℕ, ◌<◌, inl, inr, List, ◌++◌, refl, sym, arith, length, take, drop}
use Rattle.std.proofs.lemmas.List.{take-append-drop}
use Rattle.std.proofs.lemmas.Bool.{cases_lt}
use Rattle.wa_types.specs.Binary.{Section}
use Rattle.wa_types.specs.Spells.{Spells}
use Rattle.wa_types.specs.Begun.{FaultAt}
use Rattle.file_laws.proofs.FileReads.{spelled_whole, spelled_begun}

pub fault_spells_none : (bytes : List ℕ) (k : ℕ) (x : List Section) → FaultAt bytes k → Spells bytes x → ⊥
fault_spells_none bytes k x f s = elim f.stops [
  | inl never ↦ never (spelled_begun bytes x s (take k bytes) (drop k bytes) (sym (take-append-drop k bytes)))
  | inr e ↦ e.1 (spelled_whole bytes x s)
]

pub fault_ends_all : (bytes : List ℕ) (k : ℕ) → FaultAt bytes k → k < length bytes → (more : List ℕ) (x : List Section) → Spells (take k bytes ++ more) x → ⊥
fault_ends_all bytes k f h more x s = elim f.stops [
  | inl never ↦ never (spelled_begun (take k bytes ++ more) x s (take k bytes) more refl)
  | inr e ↦ absurd (omega (arith, h, e.0))
]

not_sooner : (bytes : List ℕ) (j k : ℕ) → FaultAt bytes j → FaultAt bytes k → j < k → ⊥
not_sooner bytes j k f g h = elim f.stops [
  | inl never ↦ never (g.before j h)
  | inr e ↦ absurd (omega (arith, h, e.0, g.within))
]

pub one_fault : (bytes : List ℕ) (j k : ℕ) → FaultAt bytes j → FaultAt bytes k → j ≡ k
one_fault bytes j k f g = elim (cases_lt j k) [
  | inl h ↦ absurd (not_sooner bytes j k f g h)
  | inr h ↦ elim (cases_lt k j) [
    | inl i ↦ absurd (not_sooner bytes k j g f i)
    | inr i ↦ omega (arith, h, i)
  ]
]
