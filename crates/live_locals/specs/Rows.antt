-- What is kept at the numbered calls of statements, local by local.
use Rattle.std.specs.Prelude.{◌≡◌, ◌<◌, ◌≤◌, ◌+◌, ◌++◌, ℕ, zero, suc, List, [], ◌∷◌, length, Bool, false, Vec, if◌then◌else◌}
use Rattle.std.specs.declared.alloc.Global.{Global}
use Rattle.wa_types.specs.Syntax.{Shape, a_block, a_loop, Code}
use Rattle.wa_types.specs.Liveness.{live}
use Rattle.run_theory.specs.Flat.{Stmts, no_more, computes, copies, calls, leaps, leaps_if, leaps_by, nests, decides, halts, set_to, slots_got, code_of}
use Rattle.guard_form.specs.Grouping.{is_place}
use Rattle.guard_form.specs.Pieces.{call_total}
use Rattle.flow_rewrite.specs.Emitting.{Rises}
use Rattle.live_locals.specs.Keeping.{Stands, calls_kept}
use Rattle.live_locals.specs.Ops.{OpsFit}
use Rattle.live_locals.specs.Sets.{has, told_of}
use Rattle.live_locals.specs.declared.keeping.Keeping.{Keeping}

-- what is told of a construct's own label
abbrev pub label_tells : ℕ → Shape → List Bool → (behind : Bool) → Code → Bool
label_tells x a_block tos k body = k
label_tells x a_loop tos k body = live x (false ∷ tos) k body

-- Whether local x is kept at each call, in order of code: a call that got its whole stack would read it.
unfoldable pub kept : ℕ → (tos : List Bool) → (out : Bool) → Stmts → List Bool
kept x tos out no_more = []
kept x tos out (computes op args to rest) = kept x tos out rest
kept x tos out (copies to from rest) = kept x tos out rest
kept x tos out (calls op stack args to rest) = live x tos out (slots_got stack (set_to to (code_of rest))) ∷ kept x tos out rest
kept x tos out (leaps label rest) = kept x tos out rest
kept x tos out (leaps_if condition label rest) = kept x tos out rest
kept x tos out (leaps_by index targets last rest) = kept x tos out rest
kept x tos out (nests s body rest) =
    kept x (label_tells x s tos (live x tos out (code_of rest)) (code_of body) ∷ tos) (live x tos out (code_of rest)) body ++ kept x tos out rest
kept x tos out (decides condition a b rest) =
    kept x (live x tos out (code_of rest) ∷ tos) (live x tos out (code_of rest)) a
    ++ (kept x (live x tos out (code_of rest) ∷ tos) (live x tos out (code_of rest)) b ++ kept x tos out rest)
kept x tos out (halts rest) = kept x tos out rest

-- of items that belong to places, the first of which is this one, those at these places
abbrev pub chosen : {X : Type 0} → (numbers : List ℕ) → (place : ℕ) → List X → List X
chosen ns n [] = []
chosen ns n (x ∷ xs) = if is_place ns n then x ∷ chosen ns (suc n) xs else chosen ns (suc n) xs

-- how many of so many places, from this one on, are among the numbers
abbrev pub numbered_from : (numbers : List ℕ) → (place count : ℕ) → ℕ
numbered_from ns n zero = 0
numbered_from ns n (suc k) = if is_place ns n then suc (numbered_from ns (suc n) k) else numbered_from ns (suc n) k

-- the numbers of the calls of which these answers tell, from this one on
abbrev pub calls_told : (call : ℕ) → List Bool → List ℕ
calls_told k [] = []
calls_told k (b ∷ bs) = (if b then k ∷ [] else []) ++ calls_told (suc k) bs

-- Statements whose calls can be counted down from this place, among rising numbers.
pub record Countable (numbers : List ℕ) (last : ℕ) (s : Stmts) : Type 0 where
  pub ops : OpsFit s
  pub rises : Rises numbers
  pub room : call_total s ≤ last

-- Before the calls that keep each local stand the numbered ones of statements. The place of their first call is `first`, and `last` is
-- the one behind them.
pub record CallsBefore (numbers : List ℕ) (tos : List (Vec Bool Global)) (behind : List Bool) (s : Stmts) (last first : ℕ) (old new : ℕ → List ℕ) : Type 0 where
  pub places : first + call_total s ≡ last
  pub each : (x : ℕ) → x < length behind → new x ≡ calls_told (numbered_from numbers 0 first) (chosen numbers first (kept x (told_of x tos) (has behind x) s)) ++ old x

-- the numbered calls before this place are those to come
pub record StandsAt (numbers : List ℕ) (place size : ℕ) (st : Keeping) : Type 0 where
  pub stands : Stands size st
  pub left : st.left ≡ numbered_from numbers 0 place

-- The calls of statements are told, and what is read first before them is this.
pub record RowsPut (numbers : List ℕ) (tos : List (Vec Bool Global)) (behind before : List Bool) (s : Stmts) (last first : ℕ) (old new : Keeping) : Type 0 where
  pub told : CallsBefore numbers tos behind s last first (calls_kept old behind) (calls_kept new before)
  pub there : StandsAt numbers first (length behind) new
