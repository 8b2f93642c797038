-- Areas of strands of which rule 19 tells no line: no two share a byte.
use Rattle.std.proofs.Common.{arith, ◌≡◌, ◌+◌, ◌≤◌, ◌<◌, ℕ, zero, suc, List, [], ◌∷◌, ◌++◌, length, map, Option, Some, None, Bool, true, false, ◌||◌, ◌&&◌, refl, sym, ap, ◌∙◌, subst, append_assoc, append-nil, length-append, ltb-false, ltb-true}
use Rattle.std.specs.Prelude.{if◌then◌else◌, nat_eq, nat_lt, slice_get}
use Rattle.std.specs.List.{list_any}
use Rattle.std.proofs.lemmas.Bool.{eqb-false, eqb-true}
use Rattle.std.proofs.lemmas.Option.{slice_get_within}
use Rattle.wa_model.specs.declared.answers.Area.{Area}
use Rattle.wa_model.specs.Blocking.{overlap}
use Rattle.script_model.specs.Script.{StrandText}
use Rattle.script_setup.specs.SetUpRules.{overlap_line, shares_byte}
use Rattle.strand_host.specs.StrandPlans.{AreasApart, first_overlap}
use Rattle.strand_laws.specs.Strands.{AreApart}

-- the areas of further strands
abbrev pub areas_of : List StrandText → List Area
areas_of ss = map (λ (s : StrandText). s.area) ss

-- ---- none overlaps an earlier one

none_here : (b : Bool) (line : ℕ) (rest : Option ℕ) → (if b then Some line else rest) ≡ None → (b ≡ false) × (rest ≡ None)
none_here true line rest e = cc
none_here false line rest e = (refl, e)

-- as the host of strands asks it, whatever number the first one has
none_overlaps : (earlier : List Area) (i : ℕ) (ss : List StrandText) → overlap_line earlier ss ≡ None → first_overlap earlier i (areas_of ss) ≡ None
none_overlaps earlier i [] e = refl
none_overlaps earlier i (s ∷ ss) e =
    let n = none_here (shares_byte earlier s.area) s.line (overlap_line (earlier ++ s.area ∷ []) ss) e in
    ap (λ (b : Bool). if b then Some i else first_overlap (earlier ++ s.area ∷ []) (suc i) (areas_of ss)) n.0 ∙ none_overlaps (earlier ++ s.area ∷ []) (suc i) ss n.1

pub areas_apart : (area : Area) (ss : List StrandText) → overlap_line (area ∷ []) ss ≡ None → AreasApart (area ∷ areas_of ss)
areas_apart area ss e = none_overlaps (area ∷ []) 1 ss e

-- ---- any two of them

none_at : (test : Area → Bool) (xs : List Area) (i : ℕ) (x : Area) → list_any test xs ≡ false → slice_get xs i ≡ Some x → test x ≡ false
none_at test [] i x e is = cc
none_at test (y ∷ ys) zero x e is = let same : y ≡ x = cc in ap test (sym same) ∙ left (test y) e
  where
    left : (b : Bool) → (b || list_any test ys) ≡ false → b ≡ false
    left true h = h
    left false h = refl
none_at test (y ∷ ys) (suc i) x e is = none_at test ys i x (right (test y) e) is
  where
    right : (b : Bool) → (b || list_any test ys) ≡ false → list_any test ys ≡ false
    right true h = cc
    right false h = h

got_first : (xs ys : List Area) (i : ℕ) (x : Area) → slice_get (xs ++ ys) i ≡ Some x → i < length xs → slice_get xs i ≡ Some x
got_first [] ys i x e lt = absurd (omega (arith, lt))
got_first (z ∷ xs) ys zero x e lt = e
got_first (z ∷ xs) ys (suc i) x e lt = got_first xs ys i x e (omega (arith, lt))

got_seam : (xs : List Area) (y : Area) (ys : List Area) (x : Area) → slice_get (xs ++ y ∷ ys) (length xs) ≡ Some x → y ≡ x
got_seam [] y ys x e = cc
got_seam (z ∷ xs) y ys x e = got_seam xs y ys x e

-- an earlier one and a later one
before : (earlier : List Area) (ss : List StrandText) → overlap_line earlier ss ≡ None → (i j : ℕ) (a b : Area) → slice_get (earlier ++ areas_of ss) i ≡ Some a → slice_get (earlier ++ areas_of ss) j ≡ Some b
    → i < j → length earlier ≤ j → AreApart a b
before earlier [] e i j a b ia jb lt le =
    let within = slice_get_within earlier j b (subst (λ (xs : List Area). slice_get xs j ≡ Some b) (append-nil earlier) jb) in
    absurd (omega (arith, within, le))
before earlier (s ∷ ss) e i j a b ia jb lt le =
    let more = append_assoc earlier (s.area ∷ []) (areas_of ss) in
    by (nat_eq j (length earlier)) refl
    (λ later. before (earlier ++ s.area ∷ []) ss (none_here (shares_byte earlier s.area) s.line (overlap_line (earlier ++ s.area ∷ []) ss) e).1 i j a b
    (ap (λ (xs : List Area). slice_get xs i) more ∙ ia) (ap (λ (xs : List Area). slice_get xs j) more ∙ jb) lt later)
  where
    by : (c : Bool) → nat_eq j (length earlier) ≡ c → (length (earlier ++ s.area ∷ []) ≤ j → AreApart a b) → AreApart a b
    by true is on =
        let here : j ≡ length earlier = eqb-true j (length earlier) is in
        let first : slice_get earlier i ≡ Some a = got_first earlier (s.area ∷ areas_of ss) i a ia (omega (arith, here, lt)) in
        let same : s.area ≡ b = got_seam earlier s.area (areas_of ss) b (subst (λ k. slice_get (earlier ++ s.area ∷ areas_of ss) k ≡ Some b) here jb) in
        let none = none_here (shares_byte earlier s.area) s.line (overlap_line (earlier ++ s.area ∷ []) ss) e in
        subst (AreApart a) same (none_at (λ (x : Area). overlap x.at x.len s.area.at s.area.len) earlier i a none.0 first)
    by false is on =
        let other = eqb-false j (length earlier) is in
        let len = length-append earlier (s.area ∷ []) in
        on (omega (arith, len, other, le))

swapped : (a b c d : Bool) → (a && b && c && d) ≡ false → (b && a && d && c) ≡ false
swapped true true true true e = e
swapped true true true false e = refl
swapped true true false true e = refl
swapped true true false false e = refl
swapped true false c d e = refl
swapped false true c d e = refl
swapped false false c d e = refl

apart_too : (a b : Area) → AreApart a b → AreApart b a
apart_too a b e = swapped (nat_lt 0 a.len) (nat_lt 0 b.len) (nat_lt a.at (b.at + b.len)) (nat_lt b.at (a.at + a.len)) e

-- any two, wherever they stand
pub two_apart : (area : Area) (ss : List StrandText) → overlap_line (area ∷ []) ss ≡ None → (i j : ℕ) (a b : Area) → slice_get (area ∷ areas_of ss) i ≡ Some a → slice_get (area ∷ areas_of ss) j ≡ Some b
    → (i ≡ j → ⊥) → AreApart a b
two_apart area ss e i j a b ia jb differ = by (nat_lt i j) refl
  where
    by : (c : Bool) → nat_lt i j ≡ c → AreApart a b
    by true is = let lt = ltb-true i j is in before (area ∷ []) ss e i j a b ia jb lt (omega (arith, lt))
    by false is =
        let le = ltb-false i j is in
        let lt : j < i = by_eq (nat_eq i j) refl le in
        apart_too b a (before (area ∷ []) ss e j i b a jb ia lt (omega (arith, lt)))
      where
        by_eq : (c : Bool) → nat_eq i j ≡ c → j ≤ i → j < i
        by_eq true is le = absurd (differ (eqb-true i j is))
        by_eq false is le = let other = eqb-false i j is in omega (arith, other, le)
