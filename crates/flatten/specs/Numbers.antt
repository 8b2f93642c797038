-- The locals of pairs of a number and a type, as the program keeps them.
use Rattle.std.specs.Prelude.{ℕ, suc, ◌+◌, List, [], ◌∷◌, Option, Some, None, Bool, true, false, ◌&&◌, nat_eq, slice_get}
use Rattle.wa_types.specs.declared.values.ValType.{ValType}
use Rattle.wa_types.specs.declared.values.ValType.TheVariants.{I32, I64}
use Rattle.wa_types.specs.Frames.{Pair, pair_onto}
use Rattle.wa_types.specs.Encoding.{same_type}
use Rattle.flat_laws.specs.Flatten.{place}
use Rattle.flatten.specs.declared.numbers.TypeAt.{TypeAt}
use Rattle.flatten.specs.declared.numbers.Spot.{Spot}
use Rattle.flatten.specs.declared.marks.Seen.{Seen}

-- Pairs, each with a local of its own from the first one on.
pub record Locals : Type 0 where
  pub first : ℕ
  pub pairs : List Pair

-- a type at a number
abbrev pub pair_of : TypeAt → Pair
pair_of p = record { number = p.number; ty = p.ty }

-- the local for a type at a number; one more than the last where there is none
abbrev pub local_of : Locals → ℕ → ValType → ℕ
local_of l number t = l.first + place number t l.pairs

-- the local of a type in an entry of the table, and `end` where there is none
abbrev pub of_spot : ℕ → ValType → Option Spot → ℕ
of_spot end t None = end
of_spot end I32 (Some s) = s.narrow
of_spot end I64 (Some s) = s.wide

-- the same in the table
abbrev pub spot_at : List Spot → (end number : ℕ) → ValType → ℕ
spot_at spots end number t = of_spot end t (slice_get spots number)

-- ---- what was found

-- a type at a number is this one
abbrev pub same_at : ℕ → ValType → ℕ → ValType → Bool
same_at n t number ty = nat_eq n number && same_type t ty

-- a type was found in an entry that is there
abbrev pub of_seen : ValType → Option Seen → Bool
of_seen t None = false
of_seen I32 (Some s) = s.narrow
of_seen I64 (Some s) = s.wide

-- the type was found at this number
abbrev pub is_marked : List Seen → ℕ → ValType → Bool
is_marked seen n t = of_seen t (slice_get seen n)

-- an entry with one type more
abbrev pub with_one : Seen → ValType → Seen
with_one s I32 = record { narrow = true; wide = s.wide }
with_one s I64 = record { narrow = s.narrow; wide = true }

-- what was found, from number n on: by number, i32 before i64
abbrev pub pairs_in : ℕ → List Seen → List Pair
pairs_in n [] = []
pairs_in n (s ∷ seen) = pair_onto s.narrow n I32 (pair_onto s.wide n I64 (pairs_in (suc n) seen))

-- 1 where told
abbrev pub bit : Bool → ℕ
bit true = 1
bit false = 0

-- one of two
abbrev pub pick : {X : Type 0} → Bool → X → X → X
pick true x y = x
pick false x y = y

-- their locals, one after the other; `end` where nothing was found
abbrev pub spots_in : (end next : ℕ) → List Seen → List Spot
spots_in end next [] = []
spots_in end next (s ∷ seen) =
    record { narrow = pick s.narrow next end; wide = pick s.wide (next + bit s.narrow) end } ∷ spots_in end (next + bit s.narrow + bit s.wide) seen
