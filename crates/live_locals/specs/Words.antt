-- Sets of locals in 64 worlds at once: a word for each local, a bit of it for each world.
use Rattle.std.specs.Prelude.{◌≡◌, ◌<◌, ◌++◌, ℕ, List, map, reverse, Bool, not, Vec, nat_eq}
use Rattle.std.specs.Int.{bit_at}
use Rattle.std.specs.Int.Bits.{bit_and}
use Rattle.std.specs.declared.alloc.Global.{Global}
use Rattle.wa_types.specs.Syntax.{Code}
use Rattle.live_locals.specs.Sets.{has, told_of, TellsBefore, TellsAnywhere, Joined}

-- whether a word has the bit of this world
abbrev pub bit : (world word : ℕ) → Bool
bit i w = nat_eq (bit_at w i) 1

-- the set of one world
abbrev pub world : ℕ → List ℕ → List Bool
world i set = map (bit i) set

-- What is told in a world of a local for the target of each label, the innermost label first: for labels inside by words, for those
-- around them the same in all worlds.
abbrev pub told_in : ℕ → (outer : List (Vec Bool Global)) → (inner : List (Vec ℕ Global)) → ℕ → List Bool
told_in i outer inner x = map (λ (set : Vec ℕ Global). has (world i set.items) x) (reverse inner) ++ told_of x outer

-- words tell it in each world, whatever is told for labels
abbrev pub WordsTell : (behind before : List ℕ) → Code → Type 0
WordsTell behind before k = (i : ℕ) → i < 64 → TellsAnywhere (world i behind) (world i before) k

-- words tell it in each world
abbrev pub WordsBefore : List (Vec Bool Global) → List (Vec ℕ Global) → (behind before : List ℕ) → Code → Type 0
WordsBefore outer inner behind before k = (i : ℕ) → i < 64 → TellsBefore (told_in i outer inner) (world i behind) (world i before) k

-- words have, in each world, what is told for one of these labels too
abbrev pub WordsJoined : List (Vec Bool Global) → List (Vec ℕ Global) → (labels : List ℕ) → (old new : List ℕ) → Type 0
WordsJoined outer inner labels old new = (i : ℕ) → i < 64 → Joined (told_in i outer inner) labels (world i old) (world i new)

-- the same sets are there for labels, and words tell it
pub record WordsPassed (outer : List (Vec Bool Global)) (inner inner_now : List (Vec ℕ Global)) (behind before : List ℕ) (k : Code) : Type 0 where
  pub labels : inner_now ≡ inner
  pub tells : WordsBefore outer inner behind before k

-- two words have a bit in common
abbrev pub meets : ℕ → ℕ → Bool
meets a b = not (nat_eq (bit_and a b) 0)
