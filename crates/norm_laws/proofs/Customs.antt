-- Custom sections at their lowered places stay where they are.
use Rattle.std.proofs.Common.{◌≡◌, ◌≤◌, ◌<◌, ℕ, zero, suc, ◌+◌, ◌++◌, List, [], ◌∷◌, map, length, Some, Bool, true, false, cond, refl, sym, ap, ◌∙◌, arith, eqb-true}
use Rattle.std.specs.Prelude.{slice_get, if◌then◌else◌, ◌==◌, min}
use Rattle.std.proofs.Math.Nat.{min-eq_left}
use Rattle.std.proofs.lemmas.Bool.{eqb-false, ne_eqb}
use Rattle.wa_types.specs.Syntax.{Custom}
use Rattle.wa_types.specs.Norm.{placed_at, placed_behind, lowered}

-- Custom sections in rising order of their places, the first at `low` or behind, each place being that of a written section.
Lowered : (flags : List Bool) → (low : ℕ) → List Custom → Type 0
Lowered flags low [] = Unit {0}
Lowered flags low (c ∷ cs) = (low ≤ c.after) × (c.after ≤ 11) × (slice_get flags c.after ≡ Some true) × Lowered flags c.after cs

-- ---- what lowering makes is in that order

joined_lowered : (flags : List Bool) (low place : ℕ) (xs cs : List Custom) → low ≤ place → place ≤ 11 → slice_get flags place ≡ Some true
    → Lowered flags place cs → Lowered flags low (map (placed_at place) xs ++ cs)
unfolding Lowered
joined_lowered flags low place [] cs le top at h = lower cs h
  where
    lower : (cs : List Custom) → Lowered flags place cs → Lowered flags low cs
    lower [] h = tt
    lower (c ∷ cs) h = let p : place ≤ c.after = h.0 in (omega arith, h.1, h.2, h.3)
joined_lowered flags low place (x ∷ xs) cs le top at h =
    let same : place ≤ place = omega arith in
    (le, top, at, joined_lowered flags place place xs cs same top at h)

-- these flags are all but the first ones
abbrev Behind : (all : List Bool) → ℕ → List Bool → Type 0
Behind all id flags = (k : ℕ) → slice_get all (id + k) ≡ slice_get flags k

behind_more : (all : List Bool) (id : ℕ) (b : Bool) (flags : List Bool) → Behind all id (b ∷ flags) → Behind all (suc id) flags
behind_more all id b flags h k = let e : suc id + k ≡ id + suc k = omega arith in ap (slice_get all) e ∙ h (suc k)

behind_first : (all : List Bool) (id : ℕ) (b : Bool) (flags : List Bool) → Behind all id (b ∷ flags) → slice_get all id ≡ Some b
behind_first all id b flags h = let e : id ≡ id + 0 = omega arith in ap (slice_get all) e ∙ h 0

made_lowered : (all : List Bool) (id last : ℕ) (flags : List Bool) (cs : List Custom) → Behind all id flags → id + length flags ≤ 12 → last ≤ id
    → last ≤ 11 → slice_get all last ≡ Some true → Lowered all last (lowered id last flags cs)
unfolding Lowered
made_lowered all id last [] cs b few le top at = tt
made_lowered all id last (w ∷ rest) cs b few le top at =
    by_flag w refl (λ place le top at. made_lowered all (suc id) place rest cs (behind_more all id w rest b) (omega (arith, few)) le top at)
  where
    by_flag : (v : Bool) → w ≡ v
        → ((place : ℕ) → place ≤ suc id → place ≤ 11 → slice_get all place ≡ Some true → Lowered all place (lowered (suc id) place rest cs))
        → Lowered all last (map (placed_at (if v then id else last)) (placed_behind id cs) ++ lowered (suc id) (if v then id else last) rest cs)
    by_flag true e more =
        let here : slice_get all id ≡ Some true = behind_first all id w rest b ∙ ap Some e in
        let low : id ≤ 11 = omega (arith, few) in
        joined_lowered all last id (placed_behind id cs) _ le low here (more id (omega arith) low here)
    by_flag false e more = joined_lowered all last last (placed_behind id cs) _ (omega arith) top at (more last (omega (arith, le)) top at)

-- ---- what is in that order stays

eq_other : (a b : ℕ) → a < b → (b == a) ≡ false
eq_other a b h = ne_eqb b a (λ e. omega (arith, h, e))

other_eq : (a b : ℕ) → a < b → (a == b) ≡ false
other_eq a b h = ne_eqb a b (λ e. omega (arith, h, e))

-- a place that is passed
skip : (id last : ℕ) (flags : List Bool) (c : Custom) (cs : List Custom) → min c.after 11 < id → lowered id last flags (c ∷ cs) ≡ lowered id last flags cs
skip id last [] c cs h = refl
skip id last (w ∷ rest) c cs h =
    let place : ℕ = if w then id else last in
    ap (λ b. map (placed_at place) (cond b (c ∷ placed_behind id cs) (placed_behind id cs)) ++ lowered (suc id) place rest (c ∷ cs)) (other_eq (min c.after 11) id h)
    ∙ ap (λ xs. map (placed_at place) (placed_behind id cs) ++ xs) (skip (suc id) place rest c cs (omega (arith, h)))

none_behind : (all : List Bool) (id low : ℕ) (cs : List Custom) → id < low → Lowered all low cs → placed_behind id cs ≡ []
unfolding Lowered
none_behind all id low [] h l = refl
none_behind all id low (c ∷ cs) h l =
    let at : low ≤ c.after = l.0 in
    let above : id < c.after = omega arith in
    let test : (min c.after 11 == id) ≡ false = ap (λ n. n == id) (min-eq_left l.1) ∙ eq_other id c.after above in
    ap (λ b. cond b (c ∷ placed_behind id cs) (placed_behind id cs)) test ∙ none_behind all id c.after cs above l.3

some_true : (b : Bool) → Some b ≡ Some true → b ≡ true
some_true true e = refl
some_true false e = cc

passes : (low a id : ℕ) → low ≡ a → a ≡ id → low < suc id
passes low a id e f = omega (arith, e, f)

-- the first custom section stays the first
front : (all flags : List Bool) (id last : ℕ) (c : Custom) (cs : List Custom) → Behind all id flags → id ≤ c.after → c.after < id + length flags → c.after ≤ 11 → slice_get all c.after ≡ Some true
    → Lowered all c.after cs → lowered id last flags (c ∷ cs) ≡ c ∷ lowered id last flags cs
front all [] id last c cs b le lt top at l = absurd (omega (arith, le, lt))
front all (w ∷ rest) id last c cs b le lt top at l =
    by_place (c.after == id) refl (λ apart. front all rest (suc id) (if w then id else last) c cs (behind_more all id w rest b) apart (omega (arith, lt)) top at l)
  where
    by_place : (t : Bool) → (c.after == id) ≡ t
        → (suc id ≤ c.after → lowered (suc id) (if w then id else last) rest (c ∷ cs) ≡ c ∷ lowered (suc id) (if w then id else last) rest cs)
        → lowered id last (w ∷ rest) (c ∷ cs) ≡ c ∷ lowered id last (w ∷ rest) cs
    by_place true e more =
        let is : c.after ≡ id = eqb-true c.after id e in
        let written : w ≡ true = some_true w (sym (behind_first all id w rest b) ∙ ap (slice_get all) (sym is) ∙ at) in
        let here : (if w then id else last) ≡ c.after = ap (λ v. if v then id else last) written ∙ sym is in
        let test : (min c.after 11 == id) ≡ true = ap (λ n. n == id) (min-eq_left top) ∙ e in
        let passed : min c.after 11 < suc id = passes (min c.after 11) c.after id (min-eq_left top) is in
        ap (λ t. map (placed_at (if w then id else last)) (cond t (c ∷ placed_behind id cs) (placed_behind id cs)) ++ lowered (suc id) (if w then id else last) rest (c ∷ cs)) test
        ∙ ap (λ n. (record c { after = n }) ∷ (map (placed_at (if w then id else last)) (placed_behind id cs) ++ lowered (suc id) (if w then id else last) rest (c ∷ cs))) here
        ∙ ap (λ xs. c ∷ (map (placed_at (if w then id else last)) (placed_behind id cs) ++ xs)) (skip (suc id) (if w then id else last) rest c cs passed)
    by_place false e more =
        let apart : id < c.after = other_side c.after id le e in
        let test : (min c.after 11 == id) ≡ false = ap (λ n. n == id) (min-eq_left top) ∙ e in
        let none : placed_behind id cs ≡ [] = none_behind all id c.after cs apart l in
        ap (λ t. map (placed_at (if w then id else last)) (cond t (c ∷ placed_behind id cs) (placed_behind id cs)) ++ lowered (suc id) (if w then id else last) rest (c ∷ cs)) test
        ∙ ap (λ ps. map (placed_at (if w then id else last)) ps ++ lowered (suc id) (if w then id else last) rest (c ∷ cs)) none
        ∙ more apart
        ∙ ap (λ ps. c ∷ (map (placed_at (if w then id else last)) ps ++ lowered (suc id) (if w then id else last) rest cs)) (sym none)
      where
        other_side : (a b : ℕ) → b ≤ a → (a == b) ≡ false → b < a
        other_side a b le e = let no : a ≡ b → ⊥ = eqb-false a b e in omega (arith, le, no)

got_within : (xs : List Bool) (i : ℕ) → slice_get xs i ≡ Some true → i < length xs
got_within [] i e = cc
got_within (x ∷ xs) zero e = omega arith
got_within (x ∷ xs) (suc i) e = let k = got_within xs i e in omega (arith, k)

none_lowered : (id last : ℕ) (flags : List Bool) → lowered id last flags [] ≡ []
none_lowered id last [] = refl
none_lowered id last (w ∷ rest) = none_lowered (suc id) (if w then id else last) rest

stays : (all : List Bool) (low : ℕ) (cs : List Custom) → Lowered all low cs → lowered 0 0 all cs ≡ cs
unfolding Lowered
stays all low [] h = none_lowered 0 0 all
stays all low (c ∷ cs) h =
    let first : 0 ≤ c.after = omega arith in
    let within : c.after < length all = got_within all c.after h.2 in
    let there : c.after < 0 + length all = omega arith in
    front all all 0 0 c cs (λ k. let e : 0 + k ≡ k = omega arith in ap (slice_get all) e) first there h.1 h.2 h.3 ∙ ap (λ xs. c ∷ xs) (stays all c.after cs h.3)

-- custom sections behind the sections that these flags tell
abbrev pub lowered_all : List Bool → List Custom → List Custom
lowered_all flags cs = map (placed_at 0) (placed_behind 0 cs) ++ lowered 1 0 flags cs

pub lowered_twice : (flags : List Bool) (cs : List Custom) → length flags ≤ 11 → lowered_all flags (lowered_all flags cs) ≡ lowered_all flags cs
lowered_twice flags cs few =
    let all : List Bool = true ∷ flags in
    let l : Lowered all 0 (lowered 0 0 all cs) =
    made_lowered all 0 0 all cs (λ k. let e : 0 + k ≡ k = omega arith in ap (slice_get all) e) (omega arith) (omega arith) (omega arith) refl in
    stays all 0 (lowered 0 0 all cs) l
