-- What is read first from the heads of loops on, world by world.
use Rattle.std.specs.Prelude.{◌≡◌, ◌<◌, ◌+◌, ◌++◌, ℕ, suc, List, [], ◌∷◌, length, Option, Some, None, Bool, false, Vec, nat_eq, nat_lt, if◌then◌else◌, replicate, set, ◌⊎◌}
use Rattle.std.specs.declared.alloc.Global.{Global}
use Rattle.wa_types.specs.Syntax.{a_block, a_loop}
use Rattle.wa_types.specs.Liveness.{live}
use Rattle.run_theory.specs.Flat.{Stmts, no_more, computes, copies, calls, leaps, leaps_if, leaps_by, nests, decides, halts, code_of}
use Rattle.live_locals.specs.Sets.{has}
use Rattle.live_locals.specs.Words.{bit, world, told_in}

-- one loop further inside; loops inside 64 others have no world of their own
abbrev pub deeper : ℕ → ℕ
deeper r = if nat_lt r 64 then suc r else r

-- how many loops there are
abbrev pub loop_total : Stmts → ℕ
loop_total no_more = 0
loop_total (computes op args to rest) = loop_total rest
loop_total (copies to from rest) = loop_total rest
loop_total (calls op stack args to rest) = loop_total rest
loop_total (leaps label rest) = loop_total rest
loop_total (leaps_if condition label rest) = loop_total rest
loop_total (leaps_by index targets last rest) = loop_total rest
loop_total (nests a_block body rest) = loop_total rest + loop_total body
loop_total (nests a_loop body rest) = loop_total rest + suc (loop_total body)
loop_total (decides condition a b rest) = loop_total rest + (loop_total b + loop_total a)
loop_total (halts rest) = loop_total rest

-- Whether x is read first in world i from the head of each loop on, in order of a walk from the end backwards, a loop before those
-- inside. A loop inside `level` others is told nothing for its own label there; to what stands in it the label of that loop tells
-- everything in the world `1 + level`, and nothing in others.
unfoldable pub heads : (x i level : ℕ) → (tos : List Bool) → (out : Bool) → Stmts → List Bool
heads x i r tos out no_more = []
heads x i r tos out (computes op args to rest) = heads x i r tos out rest
heads x i r tos out (copies to from rest) = heads x i r tos out rest
heads x i r tos out (calls op stack args to rest) = heads x i r tos out rest
heads x i r tos out (leaps label rest) = heads x i r tos out rest
heads x i r tos out (leaps_if condition label rest) = heads x i r tos out rest
heads x i r tos out (leaps_by index targets last rest) = heads x i r tos out rest
heads x i r tos out (nests a_block body rest) =
    heads x i r tos out rest ++ heads x i r (live x tos out (code_of rest) ∷ tos) (live x tos out (code_of rest)) body
heads x i r tos out (nests a_loop body rest) =
    heads x i r tos out rest
    ++ (live x (false ∷ tos) (live x tos out (code_of rest)) (code_of body)
    ∷ heads x i (deeper r) (nat_eq i (suc r) ∷ tos) (live x tos out (code_of rest)) body)
heads x i r tos out (decides condition a b rest) =
    heads x i r tos out rest
    ++ (heads x i r (live x tos out (code_of rest) ∷ tos) (live x tos out (code_of rest)) b
    ++ heads x i r (live x tos out (code_of rest) ∷ tos) (live x tos out (code_of rest)) a)
heads x i r tos out (halts rest) = heads x i r tos out rest

-- Words that were kept for loops tell this of local x in world i. For some loops none were kept.
abbrev pub Knows : (i x : ℕ) → List (Option (Vec ℕ Global)) → List Bool → Type 0
Knows i x [] hs = Unit {0}
Knows i x (e ∷ es) [] = Unit {0}
Knows i x (None ∷ es) (h ∷ hs) = Knows i x es hs
Knows i x (Some words ∷ es) (h ∷ hs) = (has (world i words.items) x ≡ h) × Knows i x es hs

-- The worlds of loops that aren't around this place tell what the world of no loop tells.
abbrev pub Fresh : (level : ℕ) → List (Vec Bool Global) → List (Vec ℕ Global) → List ℕ → Type 0
Fresh r outer inner set = (i x : ℕ) → i < 64 → r < i → (told_in i outer inner x ≡ told_in 0 outer inner x) × (has (world i set) x ≡ has (world 0 set) x)

-- Behind the old entries stand those for the loops of statements.
pub record HeadsPut (r : ℕ) (outer : List (Vec Bool Global)) (inner : List (Vec ℕ Global)) (behind : List ℕ) (s : Stmts) (old new : List (Option (Vec ℕ Global))) : Type 0 where
  pub more : List (Option (Vec ℕ Global))
  pub is : new ≡ old ++ more
  pub count : length more ≡ loop_total s
  pub tell : (i x : ℕ) → i < 64 → x < length behind → Knows i x more (heads x i r (told_in i outer inner x) (has (world i behind) x) s)

-- A label is put behind others that tells these words.
abbrev pub LabelPut : List ℕ → (old new : List (Vec ℕ Global)) → Type 0
LabelPut words old new = (v : Vec ℕ Global) × (v.items ≡ words) × (new ≡ old ++ v ∷ [])

-- A loop's label is put behind others: what it tells to what stands inside.
abbrev pub OwnLabelPut : (level count : ℕ) → (old new : List (Vec ℕ Global)) → Type 0
OwnLabelPut level count old new =
    (v : Vec ℕ Global) × ((w : ℕ) × (v.items ≡ replicate count w) × ((i : ℕ) → i < 64 → bit i w ≡ nat_eq i (suc level))) × (new ≡ old ++ v ∷ [])

-- These words are kept for the loop whose entry this is, or none are.
abbrev pub WordsKept : (at : ℕ) → (words : List ℕ) → (old new : List (Option (Vec ℕ Global))) → Type 0
WordsKept at words old new = (new ≡ old) ⊎ ((w : Vec ℕ Global) × (w.items ≡ words) × (new ≡ set old at (Some w)))
