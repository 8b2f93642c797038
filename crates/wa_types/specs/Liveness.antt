-- Which locals may still be read behind a call: paths through a function's code (standard, section 4.4.5).
use Rattle.std.specs.Prelude.{◌≡◌, ℕ, zero, suc, ◌⊎◌, ◌++◌, List, [], ◌∷◌, Option, Some, None, Bool, false, not, ◌&&◌, ◌||◌, slice_get, nat_eq}
use Rattle.std.specs.List.{list_any}
use Rattle.wa_types.specs.Syntax.{Plain, local_get, local_set, local_tee, br, br_if, br_table, return, unreachable, Shape, a_block, a_loop, Code, done, plain, nest, branch, Func}
use Rattle.wa_types.specs.Pruned.{pruned}
use Rattle.wa_types.specs.Pausing.{Callee, callee, is_told}

-- A label: a branch to it goes behind its construct, or begins its loop's body again.
pub data Label : Type 0 where
  goes_behind : (rest : Code) → Label
  goes_again : (body rest : Code) → Label

-- A place in code: what stands from there on in its sequence, and the labels around it, the innermost first, without the function's own.
pub record Position : Type 0 where
  pub here : Code
  pub labels : List Label

-- a place of this code under these labels
abbrev pub position : Code → List Label → Position
position here labels = record { here = here; labels = labels }

-- the code behind a label's construct
abbrev pub behind : Label → Code
behind (goes_behind rest) = rest
behind (goes_again body rest) = rest

-- the label of a construct
abbrev pub label_of : Shape → Code → Code → Label
label_of a_block body rest = goes_behind rest
label_of a_loop body rest = goes_again body rest

-- where a branch to this label goes; one to the function's own label leaves it (4.4.5.6)
abbrev pub target : List Label → ℕ → Option Position
target [] l = None
target (goes_behind rest ∷ ls) zero = Some (position rest ls)
target (goes_again body rest ∷ ls) zero = Some (position body (goes_again body rest ∷ ls))
target (x ∷ ls) (suc l) = target ls l

-- a branch to one of these labels may go there (4.4.5.8)
abbrev pub SomeTarget : List Label → List ℕ → Position → Type 0
SomeTarget ls [] there = ⊥
SomeTarget ls (l ∷ labels) there = (target ls l ≡ Some there) ⊎ SomeTarget ls labels there

-- a reduction may lead from an instruction to this place (4.4.5)
abbrev pub PlainLeads : Plain → Code → List Label → Position → Type 0
PlainLeads (br l) rest ls there = target ls l ≡ Some there
PlainLeads (br_if l) rest ls there = (target ls l ≡ Some there) ⊎ (there ≡ position rest ls)
PlainLeads (br_table labels l) rest ls there = SomeTarget ls (l ∷ labels) there
PlainLeads return rest ls there = ⊥
PlainLeads unreachable rest ls there = ⊥
PlainLeads _ rest ls there = there ≡ position rest ls

-- the end of a sequence leads behind its construct (4.4.6.2)
abbrev pub EndLeads : List Label → Position → Type 0
EndLeads [] there = ⊥
EndLeads (x ∷ ls) there = there ≡ position (behind x) ls

-- a reduction may lead from this place to that (4.4.5)
abbrev pub Leads : Code → List Label → Position → Type 0
Leads done ls there = EndLeads ls there
Leads (plain p rest) ls there = PlainLeads p rest ls there
Leads (nest s r body rest) ls there = there ≡ position body (label_of s body rest ∷ ls)
Leads (branch r a b rest) ls there =
    (there ≡ position a (goes_behind rest ∷ ls)) ⊎ (there ≡ position b (goes_behind rest ∷ ls))

-- a `local.get` of x stands here (4.4.3.1)
abbrev pub Reads : ℕ → Code → Type 0
Reads x (plain (local_get y) rest) = x ≡ y
Reads x _ = ⊥

-- the instruction is a `local.set` or `local.tee` of x
abbrev pub writes_plain : ℕ → Plain → Bool
writes_plain x (local_set y) = nat_eq x y
writes_plain x (local_tee y) = nat_eq x y
writes_plain x _ = false

-- a `local.set` or `local.tee` of x stands here (4.4.3.2, 4.4.3.3)
abbrev pub writes : ℕ → Code → Bool
writes x (plain p rest) = writes_plain x p
writes x _ = false

-- A path from this place reads x before it writes it.
pub data ReadsFirst (x : ℕ) : Position → Type 0 where
  ends_here : (at : Position) → Reads x at.here → ReadsFirst x at
  goes_on : (at there : Position) → writes x at.here ≡ false → Leads at.here at.labels there → ReadsFirst x there → ReadsFirst x at

-- a place in front of others, where a call is told
abbrev pub if_call_here : Option Callee → Position → List Position → List Position
if_call_here None at rest = rest
if_call_here (Some x) at rest = at ∷ rest

-- the place just after each call of the code, in its order
unfoldable pub behind_calls : List Label → Code → List Position
behind_calls ls done = []
behind_calls ls (plain p rest) = if_call_here (callee p) (position rest ls) (behind_calls ls rest)
behind_calls ls (nest s r body rest) = behind_calls (label_of s body rest ∷ ls) body ++ behind_calls ls rest
behind_calls ls (branch r a b rest) = behind_calls (goes_behind rest ∷ ls) a ++ (behind_calls (goes_behind rest ∷ ls) b ++ behind_calls ls rest)

-- The parameter or declared local x is read before it is written on some path of the function's pruned body
-- from just after the call at this place.
abbrev pub LiveAfter : Func → ℕ → ℕ → Type 0
LiveAfter f place x = (at : Position) × (slice_get (behind_calls [] (pruned f.body)) place ≡ Some at) × ReadsFirst x at

-- Whether x is read before it is written, computed backwards: `tos` tells it for each label's target, `out` for what stands behind. A path
-- that comes to a loop's start again reads x no sooner than one that begins there, so a loop's own label counts as one where x isn't read.
abbrev pub told_at : List Bool → ℕ → Bool
told_at tos l = is_told (slice_get tos l)

-- whether x is read first from an instruction on, given what is told behind it
abbrev pub live_plain : ℕ → List Bool → Plain → Bool → Bool
live_plain x tos (local_get y) rest = nat_eq x y || rest
live_plain x tos (local_set y) rest = not (nat_eq x y) && rest
live_plain x tos (local_tee y) rest = not (nat_eq x y) && rest
live_plain x tos (br l) rest = told_at tos l
live_plain x tos (br_if l) rest = told_at tos l || rest
live_plain x tos (br_table labels l) rest = list_any (told_at tos) (l ∷ labels)
live_plain x tos return rest = false
live_plain x tos unreachable rest = false
live_plain x tos _ rest = rest

-- what is told for a construct's label: a block's what is told behind it, a loop's that x isn't read
abbrev pub shape_live : Shape → Bool → Bool
shape_live a_block k = k
shape_live a_loop k = false

-- whether x is read first from code on
unfoldable pub live : ℕ → (tos : List Bool) → (out : Bool) → Code → Bool
live x tos out done = out
live x tos out (plain p rest) = live_plain x tos p (live x tos out rest)
live x tos out (nest s r body rest) = let k = live x tos out rest in live x (shape_live s k ∷ tos) k body
live x tos out (branch r a b rest) = let k = live x tos out rest in live x (k ∷ tos) k a || live x (k ∷ tos) k b

-- what is told under these labels
pub record Told : Type 0 where
  pub tos : List Bool
  pub out : Bool

-- what is told under one label more
abbrev pub label_told : ℕ → Label → Told → Told
label_told x (goes_behind rest) t = let k = live x t.tos t.out rest in record { tos = k ∷ t.tos; out = k }
label_told x (goes_again body rest) t = let k = live x t.tos t.out rest in record { tos = live x (false ∷ t.tos) k body ∷ t.tos; out = k }

-- what is told under labels, the innermost first
abbrev pub told : ℕ → List Label → Told
told x [] = record { tos = []; out = false }
told x (l ∷ ls) = label_told x l (told x ls)

-- x is read first from this place on
abbrev pub live_at : ℕ → Position → Bool
live_at x at = live x (told x at.labels).tos (told x at.labels).out at.here

-- x is read first from a place that is told
abbrev pub live_from : ℕ → Option Position → Bool
live_from x None = false
live_from x (Some at) = live_at x at

-- x is read first on some path from just after the call at this place
abbrev pub is_live_after : Func → ℕ → ℕ → Bool
is_live_after f place x = live_from x (slice_get (behind_calls [] (pruned f.body)) place)
