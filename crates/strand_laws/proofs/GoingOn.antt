-- A world of strands that was told up to some turn goes on to an end.
use Rattle.std.proofs.Common.{arith, ◌≡◌, ◌<◌, ◌≤◌, ◌⊎◌, inl, inr, ℕ, zero, suc, ◌+◌, List, [], ◌∷◌, ◌++◌, length, drop, Some, None, Bool, true, false, refl, sym, ap, ◌∙◌, subst, ⊎_elim}
use Rattle.std.specs.Prelude.{slice_get}
use Rattle.std.specs.List.{AllZip}
use Rattle.std.proofs.lemmas.Bool.{cases_lt}
use Rattle.std.proofs.lemmas.List.Elements.{All-cons, All-head, All-nil, All-tail}
use Rattle.world_model.specs.World.{Actor, IsOver}
use Rattle.world_laws.proofs.Nexts.{SomeNext}
use Rattle.strand_laws.proofs.AllByTurns.{held_go}
use Rattle.strand_laws.proofs.Blocks.{Lies, before_later, joined_get, lies_in, lies_within, none_is, offset, the_same}
use Rattle.strand_laws.proofs.KnownTellers.{Known}
use Rattle.strand_laws.proofs.ToldStrands.{Fits, Whole, actor_now, drop_told, row_back, row_get, row_length, row_of, rows, rows_back, rows_get, still_told, worlds_of, zip_get}
use Rattle.strand_laws.proofs.ToldWorlds.{Each, TellsAll}
use Rattle.strand_laws.proofs.TurnTaken.{dues_back, dues_get, dues_of, due_now}
use Rattle.strand_laws.proofs.TurnsTold.{notes_mine, told_ready}
use Rattle.strand_laws.specs.StrandWorld.{joined, notes_of}
use Rattle.strand_laws.specs.ToldStrands.{HaveEnded, IsDue, IsDueNext, IsRest, ProgramTeller, StrandTeller}
use Rattle.strand_laws.specs.Weaving.{GoesByTurns, IsDueFirst, all_due, due_in, is_ready}
use Rattle.strand_laws.specs.Woven.{Told}

-- ---- lists

zip_back : {A B : Type 0} (R : A → B → Type 0) (xs : List A) (ys : List B) (p : ℕ) (y : B) → AllZip R xs ys → slice_get ys p ≡ Some y → (x : A) × (slice_get xs p ≡ Some x) × R x y
zip_back R [] [] p y h e = none_is y e
zip_back R [] (w ∷ ys) p y h e = absurd h
zip_back R (z ∷ xs) [] p y h e = absurd h
zip_back R (z ∷ xs) (w ∷ ys) zero y h e = (z, refl, subst (R z) (the_same w y e) h.0)
zip_back R (z ∷ xs) (w ∷ ys) (suc p) y h e = zip_back R xs ys p y h.1 e

abbrev HasNone : Actor → Type 0
HasNone a = a.notes ≡ []

over_front : (xs ys : List Actor) → IsOver (xs ++ ys) → IsOver xs
over_front [] ys h = All-nil HasNone
over_front (x ∷ xs) ys h = All-cons HasNone x xs (All-head HasNone x (xs ++ ys) h) (over_front xs ys (All-tail HasNone x (xs ++ ys) h))

over_behind : (xs ys : List Actor) → IsOver (xs ++ ys) → IsOver ys
over_behind [] ys h = h
over_behind (x ∷ xs) ys h = over_behind xs ys (All-tail HasNone x (xs ++ ys) h)

over_at : (xs : List Actor) (i : ℕ) (a : Actor) → IsOver xs → slice_get xs i ≡ Some a → HasNone a
over_at [] i a h e = none_is a e
over_at (x ∷ xs) zero a h e = subst HasNone (the_same x a e) (All-head HasNone x xs h)
over_at (x ∷ xs) (suc i) a h e = over_at xs i a (All-tail HasNone x xs h) e

-- ---- one program that goes on

-- A program whose strands still tell something: the strand that is due first among them tells first.
record Live (x : Whole) (t : ProgramTeller) : Type 0 where
  goes : GoesByTurns None (dues_of t.strands) (still_told x t)
  y : Told
  ys : List Told
  is : still_told x t ≡ y ∷ ys
  s : StrandTeller
  there : slice_get t.strands y.strand ≡ Some s
  ready : s.has_ended ≡ false

first_notes : (y : Told) (ys : List Told) → 0 < length (notes_of y.strand (y ∷ ys))
first_notes y ys = let z = ap length (notes_mine y.strand y.note ys) in omega (arith, z)

goes_of : (x : Whole) (t : ProgramTeller) → TellsAll x → Fits x t → Known x.g t → GoesByTurns None (dues_of t.strands) (still_told x t)
goes_of x t all fits known =
    subst (GoesByTurns None (dues_of t.strands)) (sym (ap (drop (length t.told)) fits.whole ∙ drop_told t.told fits.rest))
    (known.turns fits.rest (subst (GoesByTurns None (all_due (length x.g.program.strands))) fits.whole (held_go x.g x.outcomes x.all all.some all.wide all.story)))

still_is : (x : Whole) (t : ProgramTeller) (fits : Fits x t) → still_told x t ≡ fits.rest
still_is x t fits = ap (drop (length t.told)) fits.whole ∙ drop_told t.told fits.rest

live : (x : Whole) (t : ProgramTeller) → TellsAll x → Fits x t → Known x.g t → t.has_ended ≡ false → Live x t
live x t all fits known e = by fits.rest refl
  where
    g : GoesByTurns None (dues_of t.strands) (still_told x t)
    g = goes_of x t all fits known

    by : (ts : List Told) → fits.rest ≡ ts → Live x t
    by [] q = let lt = subst (λ b. IsRest b fits.rest) e fits.is_rest in let z = ap length q in let no_way : ⊥ = omega (arith, lt, z) in absurd no_way
    by (y ∷ ys) q =
        let is : still_told x t ≡ y ∷ ys = still_is x t fits ∙ q in
        let d = dues_back t.strands y.strand (subst (GoesByTurns None (dues_of t.strands)) is g).0.ready in
        record { goes = g; y = y; ys = ys; is = is; s = d.0; there = d.1; ready = d.2 }

-- one that has something to tell goes on
not_ended : (x : Whole) (t : ProgramTeller) (fits : Fits x t) (k : ℕ) → 0 < length (notes_of k (still_told x t)) → t.has_ended ≡ false
not_ended x t fits k some = by t.has_ended fits.is_rest
  where
    by : (b : Bool) → IsRest b fits.rest → b ≡ false
    by false q = refl
    by true q = let z : 0 ≡ length (notes_of k (still_told x t)) = ap (λ (ts : List Told). length (notes_of k ts)) (sym (still_is x t fits ∙ q)) in let no_way : ⊥ = omega (arith, z, some) in absurd no_way

-- ---- where none has anything to tell all have ended

abbrev pub Facts : Whole → ProgramTeller → Type 0
Facts x t = TellsAll x × Fits x t × Known x.g t

pub facts : (xs : List Whole) (ts : List ProgramTeller) → Each xs → AllZip Fits xs ts → AllZip Known (worlds_of xs) ts → AllZip Facts xs ts
facts [] [] e f k = tt
facts [] (t ∷ ts) e f k = absurd f
facts (x ∷ xs) [] e f k = absurd f
facts (x ∷ xs) (t ∷ ts) e f k = ((e.0, f.0, k.0), facts xs ts e.1 f.1 k.1)

pub ended_all : (xs : List Whole) (ts : List ProgramTeller) → AllZip Facts xs ts → IsOver (joined (rows xs ts)) → HaveEnded ts
ended_all [] [] f over = All-nil (λ (t : ProgramTeller). t.has_ended ≡ true)
ended_all [] (t ∷ ts) f over = absurd f
ended_all (x ∷ xs) [] f over = All-nil (λ (t : ProgramTeller). t.has_ended ≡ true)
ended_all (x ∷ xs) (t ∷ ts) f over =
    All-cons (λ (t : ProgramTeller). t.has_ended ≡ true) t ts (by t.has_ended refl) (ended_all xs ts f.1 (over_behind (row_of x t) (joined (rows xs ts)) over))
  where
    by : (b : Bool) → t.has_ended ≡ b → b ≡ true
    by true e = refl
    by false e =
        let l = live x t f.0.0 f.0.1 f.0.2 e in
        let k = l.y.strand in
        let none = over_at (row_of x t) k (actor_now x (still_told x t) k l.s) (over_front (row_of x t) (joined (rows xs ts)) over)
        (row_get x (still_told x t) 0 k k t.strands l.s (let z : k ≡ 0 + k = omega arith in z) l.there) in
        let z = ap length (sym (ap (notes_of k) l.is) ∙ none) in
        let some = first_notes l.y l.ys in
        let no_way : ⊥ = omega (arith, z, some) in absurd no_way

-- ---- the strand that is due next

-- The strand of a program that tells next in a world.
pub record Found (xs : List Whole) (tellers : List ProgramTeller) : Type 0 where
  pub p : ℕ
  pub k : ℕ
  pub x : Whole
  pub t : ProgramTeller
  pub s : StrandTeller
  pub is_x : slice_get xs p ≡ Some x
  pub there : slice_get tellers p ≡ Some t
  pub strand_there : slice_get t.strands k ≡ Some s
  pub first : IsDueFirst (dues_of t.strands) k
  pub live_there : t.has_ended ≡ false
  pub next : IsDueNext tellers p k s.due

module _ (xs : List Whole) (tellers : List ProgramTeller) (all : AllZip Facts xs tellers) (n : SomeNext (joined (rows xs tellers))) where
  abbrev j : ℕ
  j = n.0

  abbrev a : Actor
  a = n.1

  lies : Lies (rows xs tellers) j a
  lies = lies_in (rows xs tellers) j a n.2.there

  abbrev p : ℕ
  p = lies.p

  abbrev k : ℕ
  k = lies.k

  r : (y : Whole) × (u : ProgramTeller) × (slice_get xs p ≡ Some y) × (slice_get tellers p ≡ Some u) × (row_of y u ≡ lies.b)
  r = rows_back xs tellers p lies.b lies.there

  abbrev x : Whole
  x = r.0

  abbrev t : ProgramTeller
  t = r.1

  found : (v : StrandTeller) × (slice_get t.strands k ≡ Some v) × (actor_now x (still_told x t) k v ≡ a)
  found = row_back x (still_told x t) 0 k k t.strands a (let z : k ≡ 0 + k = omega arith in z) (ap (λ (bs : List Actor). slice_get bs k) r.4 ∙ lies.inside)

  abbrev s : StrandTeller
  s = found.0

  here : Facts x t
  here = zip_get Facts xs tellers p x t all r.2 r.3

  notes : 0 < length (notes_of k (still_told x t))
  notes = subst (λ (c : Actor). 0 < length c.notes) (sym found.2) n.2.unfinished

  due_is : s.due ≡ a.due
  due_is = ap (λ (c : Actor). c.due) found.2

  goes_on : t.has_ended ≡ false
  goes_on = not_ended x t here.1 k notes

  l : Live x t
  l = live x t here.0 here.1 here.2 goes_on

  -- where a program goes on, its first strand is an actor that has something to tell
  beside : (q : ℕ) (y : Whole) (u : ProgramTeller) → slice_get xs q ≡ Some y → slice_get tellers q ≡ Some u → (m : Live y u)
      → (a.due < m.s.due) ⊎ ((a.due ≡ m.s.due) × (j ≤ offset q (rows xs tellers) + m.y.strand))
  beside q y u is_y is_u m =
      let f = m.y.strand in
      let wide = row_length y (still_told y u) 0 u.strands in
      let lt = lies_within u.strands f m.s m.there in
      n.2.least (offset q (rows xs tellers) + f) (actor_now y (still_told y u) f m.s)
      (joined_get (rows xs tellers) q (row_of y u) f (rows_get xs tellers q y u is_y is_u) (omega (arith, wide, lt))
      ∙ row_get y (still_told y u) 0 f f u.strands m.s (let z : f ≡ 0 + f = omega arith in z) m.there)
      (subst (λ (ts : List Told). 0 < length (notes_of f ts)) (sym m.is) (first_notes m.y m.ys))

  -- it is due before each that is ready in its program
  first_due : (y : Whole) (u : ProgramTeller) (m : Live y u) → IsDueFirst (dues_of u.strands) m.y.strand
  first_due y u m = (subst (GoesByTurns None (dues_of u.strands)) m.is m.goes).0

  before_each : (y : Whole) (u : ProgramTeller) (m : Live y u) (i : ℕ) (v : StrandTeller) → slice_get u.strands i ≡ Some v → v.has_ended ≡ false
      → (m.s.due < v.due) ⊎ ((m.s.due ≡ v.due) × (m.y.strand ≤ i))
  before_each y u m i v e live_v =
      let d = dues_get u.strands i v e in
      let is_ready_v : is_ready (slice_get (dues_of u.strands) i) ≡ true = ap is_ready d ∙ by v.has_ended live_v in
      let mine = ap due_in (dues_get u.strands m.y.strand m.s m.there) in
      let other = ap due_in d in
      cases mine other ((first_due y u m).least i is_ready_v)
    where
      by : (b : Bool) → b ≡ false → is_ready (Some (due_now (record v { has_ended = b }))) ≡ true
      by false q = refl
      by true q = let no_way : ⊥ = cc in absurd no_way

      cases : {c d : ℕ} → c ≡ m.s.due → d ≡ v.due → (c < d) ⊎ ((c ≡ d) × (m.y.strand ≤ i)) → (m.s.due < v.due) ⊎ ((m.s.due ≡ v.due) × (m.y.strand ≤ i))
      cases e1 e2 (inl q) = inl (omega (arith, e1, e2, q))
      cases e1 e2 (inr q) = let z = q.0 in inr (omega (arith, e1, e2, z), q.1)

  strand_live : s.has_ended ≡ false
  strand_live =
      let d = dues_back t.strands k (told_ready None (dues_of t.strands) (still_told x t) k tt l.goes notes) in
      ap (λ (v : StrandTeller). v.has_ended) (the_same s d.0 (sym found.1 ∙ d.1)) ∙ d.2

  same : l.y.strand ≡ k
  same = by (beside p x t r.2 r.3 l) (before_each x t l k s found.1 strand_live)
    where
      place : j ≡ offset p (rows xs tellers) + k
      place = lies.place

      by : (a.due < l.s.due) ⊎ ((a.due ≡ l.s.due) × (j ≤ offset p (rows xs tellers) + l.y.strand)) → (l.s.due < s.due) ⊎ ((l.s.due ≡ s.due) × (l.y.strand ≤ k)) → l.y.strand ≡ k
      by (inl c) (inl d) = let e = due_is in let no_way : ⊥ = omega (arith, c, d, e) in absurd no_way
      by (inl c) (inr d) = let e = due_is in let z = d.0 in let no_way : ⊥ = omega (arith, c, e, z) in absurd no_way
      by (inr c) (inl d) = let e = due_is in let z = c.0 in let no_way : ⊥ = omega (arith, d, e, z) in absurd no_way
      by (inr c) (inr d) = let z = c.1 in let q = d.1 in let e = place in omega (arith, z, q, e)

  least : (q i tick : ℕ) → IsDue tellers q i tick → (s.due < tick) ⊎ ((s.due ≡ tick) × ((p < q) ⊎ ((p ≡ q) × (k ≤ i))))
  least q i tick d = by (beside q back.0 d.t back.1 d.there m) (before_each back.0 d.t m i d.s d.strand_there d.unfinished)
    where
      back : (y : Whole) × (slice_get xs q ≡ Some y) × Facts y d.t
      back = zip_back Facts xs tellers q d.t all d.there

      m : Live back.0 d.t
      m = live back.0 d.t back.2.0 back.2.1 back.2.2 d.goes_on

      tick_is : d.s.due ≡ tick
      tick_is = d.due

      by_place : j ≤ offset q (rows xs tellers) + m.y.strand → m.y.strand ≤ i → (p < q) ⊎ ((p ≡ q) × (k ≤ i))
      by_place le few =
          ⊎_elim (λ lt. inl lt) (λ ge. ⊎_elim (λ lt. absurd (too_late lt)) (λ le2. inr (same_place le2 ge)) (cases_lt q p)) (cases_lt p q)
        where
          place : j ≡ offset p (rows xs tellers) + k
          place = lies.place

          too_late : q < p → ⊥
          too_late lt =
              let z = before_later (rows xs tellers) q p (row_of back.0 d.t) lt (rows_get xs tellers q back.0 d.t back.1 d.there) in
              let wide = row_length back.0 (still_told back.0 d.t) 0 d.t.strands in
              let inside = lies_within d.t.strands m.y.strand m.s m.there in
              let e = place in
              omega (arith, z, wide, inside, e, le)

          same_place : p ≤ q → q ≤ p → (p ≡ q) × (k ≤ i)
          same_place a1 a2 =
              let e : p ≡ q = omega (arith, a1, a2) in
              let z = ap (λ m. offset m (rows xs tellers)) e in
              let w = place in
              (e, omega (arith, z, w, le, few))

      by : (a.due < m.s.due) ⊎ ((a.due ≡ m.s.due) × (j ≤ offset q (rows xs tellers) + m.y.strand)) → (m.s.due < d.s.due) ⊎ ((m.s.due ≡ d.s.due) × (m.y.strand ≤ i))
          → (s.due < tick) ⊎ ((s.due ≡ tick) × ((p < q) ⊎ ((p ≡ q) × (k ≤ i))))
      by (inl c) (inl e) = let u = due_is in let v = tick_is in inl (omega (arith, c, e, u, v))
      by (inl c) (inr e) = let u = due_is in let v = tick_is in let z = e.0 in inl (omega (arith, c, u, v, z))
      by (inr c) (inl e) = let u = due_is in let v = tick_is in let z = c.0 in inl (omega (arith, e, u, v, z))
      by (inr c) (inr e) = let u = due_is in let v = tick_is in let z = c.0 in let y = e.0 in inr (omega (arith, u, v, z, y), by_place c.1 e.1)

  pub next_there : Found xs tellers
  next_there = record {
    p = p;
    k = k;
    x = x;
    t = t;
    s = s;
    is_x = r.2;
    there = r.3;
    strand_there = found.1;
    first = subst (IsDueFirst (dues_of t.strands)) same (first_due x t l);
    live_there = goes_on;
    next = record {
      is_due = record { t = t; s = s; there = r.3; strand_there = found.1; goes_on = goes_on; unfinished = strand_live; due = refl };
      least = least;
    };
  }
