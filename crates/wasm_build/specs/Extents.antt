-- Where numbers and what stands behind its size end, whatever follows them.
use Rattle.std.specs.Prelude.{◌≡◌, ℕ, ◌+◌, ◌<◌, List, ◌++◌, length, drop}
use Rattle.leb_numbers.specs.Leb.{IsUnsigned}
use Rattle.wa_types.specs.Spells.{Sized}

-- a size, and so many bytes
abbrev pub Extent : ℕ → List ℕ → Type 0
Extent = Sized (λ at bytes. Unit {0})

-- Whatever number stands at this place, and whatever follows these bytes, it is n and ends at that place.
pub record NumberAt (bytes : List ℕ) (at n end : ℕ) : Type 0 where
  pub ahead : at < end
  pub is : (more front rest : List ℕ) (k : ℕ) → drop at bytes ++ more ≡ front ++ rest → IsUnsigned 32 front k → (n ≡ k) × (end ≡ at + length front)

-- no number stands whole at this place
abbrev pub NoNumberAt : List ℕ → ℕ → Type 0
NoNumberAt bytes at = (front rest : List ℕ) (k : ℕ) → drop at bytes ≡ front ++ rest → IsUnsigned 32 front k → ⊥

-- whatever has its size at this place, and whatever follows these bytes, it ends at that place
abbrev pub EndsAt : List ℕ → (at end : ℕ) → Type 0
EndsAt bytes at end = (more front rest : List ℕ) (k : ℕ) → drop at bytes ++ more ≡ front ++ rest → Extent k front → end ≡ at + length front

-- nothing that has its size at this place is whole
abbrev pub NoEnd : List ℕ → ℕ → Type 0
NoEnd bytes at = (front rest : List ℕ) (k : ℕ) → drop at bytes ≡ front ++ rest → Extent k front → ⊥
