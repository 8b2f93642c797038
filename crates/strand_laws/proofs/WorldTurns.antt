-- The lines of one program, picked out of a world's.
use Rattle.std.proofs.Common.{arith, ◌≡◌, ◌<◌, ◌≤◌, ◌⊎◌, inl, inr, ℕ, zero, suc, ◌+◌, ◌-◌, List, [], ◌∷◌, ◌++◌, length, All, Some, None, Bool, true, false, refl, sym, ap, ◌∙◌, subst, ⊎_elim}
use Rattle.std.proofs.Common.{eq-eqb, eqb-true, ne_eqb, lt-ltb, le-ltb}
use Rattle.std.specs.Prelude.{map, nat_eq, slice_get, slice_set}
use Rattle.std.proofs.lemmas.Bool.{cases_lt}
use Rattle.std.proofs.lemmas.List.Elements.{All-head, All-tail}
use Rattle.wa_model.specs.declared.answers.Detach.{Detach}
use Rattle.wa_model.specs.Blocking.{Note}
use Rattle.wa_model.specs.Outside.{Event, Line}
use Rattle.world_model.specs.World.{Actor, Device, Events, IsOver, Look, Plays, Program, an_event, behind_turn, events_with_looks, line_at, no_event, put_off, turn_of}
use Rattle.strand_laws.proofs.TurnsTold.{Split, by_strand, notes_mine, told_ready, turn_split}
use Rattle.strand_laws.specs.StrandWorld.{StrandLine, looks_if, notes_of, strand_in, strand_line, strand_lines}
use Rattle.strand_laws.specs.Strands.{StrandEvent, StrandProgram}
use Rattle.strand_laws.specs.Weaving.{Dues, GoesByTurns, due_in, events_of_program, events_shown, is_ready}
use Rattle.strand_laws.specs.Woven.{Told}

-- ---- whose line it is

-- how many strands stand in front of a program's
abbrev pub before : ℕ → List StrandProgram → ℕ
before zero qs = 0
before (suc p) [] = 0
before (suc p) (q ∷ qs) = length q.strands + before p qs

the_same : {A : Type 0} (x y : A) → Some x ≡ Some y → x ≡ y
the_same x y e = cc

none_is : {A : Type 0} {B : Type 0} (x : A) → None ≡ Some x → B
none_is x e = let no_way : ⊥ = cc in absurd no_way

step_in : (b : ℕ) (x : StrandProgram) (qs : List StrandProgram) (i tick : ℕ) (e : Event) → i < length x.strands
    → strand_line b (x ∷ qs) i tick e ≡ record { tick = tick; program = b; strand = strand_in i e; event = e }
step_in b x qs i tick e lt = rw (lt-ltb i (length x.strands) lt) refl

step_out : (b : ℕ) (x : StrandProgram) (qs : List StrandProgram) (i tick : ℕ) (e : Event) → length x.strands ≤ i
    → strand_line b (x ∷ qs) i tick e ≡ strand_line (suc b) qs (i - length x.strands) tick e
step_out b x qs i tick e le = rw (le-ltb i (length x.strands) le) refl

pub line_mine : (b : ℕ) (qs : List StrandProgram) (p : ℕ) (q : StrandProgram) → slice_get qs p ≡ Some q → (k tick : ℕ) (e : Event) → k < length q.strands
    → strand_line b qs (before p qs + k) tick e ≡ record { tick = tick; program = b + p; strand = strand_in k e; event = e }
line_mine b [] zero q is k tick e lt = none_is q is
line_mine b [] (suc p) q is k tick e lt = none_is q is
line_mine b (x ∷ qs) zero q is k tick e lt =
    let z : 0 + k ≡ k = omega arith in
    let y : b ≡ b + 0 = omega arith in
    let lt2 : k < length x.strands = subst (λ (w : StrandProgram). k < length w.strands) (sym (the_same x q is)) lt in
    ap (λ i. strand_line b (x ∷ qs) i tick e) z ∙ step_in b x qs k tick e lt2 ∙ ap (λ c. record { tick = tick; program = c; strand = strand_in k e; event = e }) y
line_mine b (x ∷ qs) (suc p) q is k tick e lt =
    let z : (length x.strands + before p qs) + k - length x.strands ≡ before p qs + k = omega arith in
    let y : suc b + p ≡ b + suc p = omega arith in
    step_out b x qs ((length x.strands + before p qs) + k) tick e (omega arith) ∙ ap (λ i. strand_line (suc b) qs i tick e) z ∙ line_mine (suc b) qs p q is k tick e lt
    ∙ ap (λ c. record { tick = tick; program = c; strand = strand_in k e; event = e }) y

prog_from : (b : ℕ) (qs : List StrandProgram) (i tick : ℕ) (e : Event) → b ≤ (strand_line b qs i tick e).program
prog_from b [] i tick e = omega arith
prog_from b (x ∷ qs) i tick e =
    ⊎_elim (λ lt. let z : (strand_line b (x ∷ qs) i tick e).program ≡ b = ap (λ (l : StrandLine). l.program) (step_in b x qs i tick e lt) in omega (arith, z))
    (λ ge. let z : (strand_line b (x ∷ qs) i tick e).program ≡ (strand_line (suc b) qs (i - length x.strands) tick e).program = ap (λ (l : StrandLine). l.program) (step_out b x qs i tick e ge) in
    let le = prog_from (suc b) qs (i - length x.strands) tick e in omega (arith, z, le)) (cases_lt i (length x.strands))

line_other : (b : ℕ) (qs : List StrandProgram) (p : ℕ) (q : StrandProgram) → slice_get qs p ≡ Some q → (i tick : ℕ) (e : Event) → (i < before p qs) ⊎ (before p qs + length q.strands ≤ i)
    → (strand_line b qs i tick e).program ≡ b + p → ⊥
line_other b [] zero q is i tick e h z = none_is q is
line_other b [] (suc p) q is i tick e h z = none_is q is
line_other b (x ∷ qs) zero q is i tick e (inl h) z = omega (arith, h)
line_other b (x ∷ qs) zero q is i tick e (inr h) z =
    let n : length x.strands ≡ length q.strands = ap (λ (w : StrandProgram). length w.strands) (the_same x q is) in
    let y : (strand_line b (x ∷ qs) i tick e).program ≡ (strand_line (suc b) qs (i - length x.strands) tick e).program =
    ap (λ (l : StrandLine). l.program) (step_out b x qs i tick e (omega (arith, h, n))) in
    let le = prog_from (suc b) qs (i - length x.strands) tick e in
    omega (arith, z, y, le)
line_other b (x ∷ qs) (suc p) q is i tick e h z =
    ⊎_elim (λ lt. let y : (strand_line b (x ∷ qs) i tick e).program ≡ b = ap (λ (l : StrandLine). l.program) (step_in b x qs i tick e lt) in omega (arith, z, y))
    (λ ge. let y : (strand_line b (x ∷ qs) i tick e).program ≡ (strand_line (suc b) qs (i - length x.strands) tick e).program = ap (λ (l : StrandLine). l.program) (step_out b x qs i tick e ge) in
    line_other (suc b) qs p q is (i - length x.strands) tick e (less h ge) (omega (arith, z, y))) (cases_lt i (length x.strands))
  where
    less : (i < length x.strands + before p qs) ⊎ ((length x.strands + before p qs) + length q.strands ≤ i) → length x.strands ≤ i
        → (i - length x.strands < before p qs) ⊎ (before p qs + length q.strands ≤ i - length x.strands)
    less (inl a) ge = inl (omega (arith, a, ge))
    less (inr a) ge = inr (omega (arith, a, ge))

pick_some : (p : ℕ) (l : StrandLine) (ls : List StrandLine) → l.program ≡ p → events_of_program p (l ∷ ls) ≡ record { strand = l.strand; event = l.event } ∷ events_of_program p ls
pick_some p l ls e = rw (eq-eqb l.program p e) refl

pick_none : (p : ℕ) (l : StrandLine) (ls : List StrandLine) → (l.program ≡ p → ⊥) → events_of_program p (l ∷ ls) ≡ events_of_program p ls
pick_none p l ls ne = rw (ne_eqb l.program p ne) refl

-- ---- lists of actors

set_here : (xs : List Actor) (i : ℕ) (x y : Actor) → slice_get xs i ≡ Some y → slice_get (slice_set xs i x) i ≡ Some x
set_here [] i x y e = none_is y e
set_here (z ∷ xs) zero x y e = refl
set_here (z ∷ xs) (suc i) x y e = set_here xs i x y e

set_there : (xs : List Actor) (i j : ℕ) (x : Actor) → (j ≡ i → ⊥) → slice_get (slice_set xs i x) j ≡ slice_get xs j
set_there [] i j x ne = refl
set_there (y ∷ xs) zero zero x ne = absurd (ne refl)
set_there (y ∷ xs) zero (suc j) x ne = refl
set_there (y ∷ xs) (suc i) zero x ne = refl
set_there (y ∷ xs) (suc i) (suc j) x ne = set_there xs i j x (λ e. ne (ap suc e))

abbrev HasNone : Actor → Type 0
HasNone a = a.notes ≡ []

over_at : (xs : List Actor) (i : ℕ) (a : Actor) → All HasNone xs → slice_get xs i ≡ Some a → HasNone a
over_at [] i a h e = none_is a e
over_at (x ∷ xs) zero a h e = subst HasNone (the_same x a e) (All-head HasNone x xs h)
over_at (x ∷ xs) (suc i) a h e = over_at xs i a (All-tail HasNone x xs h) e

pub ready_lt : (v : Dues) (k : ℕ) → is_ready (slice_get v k) ≡ true → k < length v
ready_lt [] k e = let no_way : ⊥ = cc in absurd no_way
ready_lt (t ∷ v) zero e = omega arith
ready_lt (t ∷ v) (suc k) e = let lt = ready_lt v k e in omega (arith, lt)

-- ---- the turns of one program

module _ (p : ℕ) (qs : List StrandProgram) (q : StrandProgram) (is : slice_get qs p ≡ Some q) (ps : List Program) (detaches : List Detach) (last : ℕ) (looks : List Look)
    (programs : (k : ℕ) → k < length q.strands → (w : Program) → slice_get ps (before p qs + k) ≡ Some w → w.looks ≡ looks_if (nat_eq last k) looks) where
  abbrev picked : List Line → List StrandEvent
  picked lines = events_of_program p (strand_lines qs lines)

  picked_mine : (k due : ℕ) (xs : List Event) (more : List Line) → k < length q.strands → picked (map (line_at due (before p qs + k)) xs ++ more) ≡ map (by_strand k) xs ++ picked more
  picked_mine k due [] more lt = refl
  picked_mine k due (x ∷ xs) more lt =
      let l : strand_line 0 qs (before p qs + k) due x ≡ record { tick = due; program = 0 + p; strand = strand_in k x; event = x } = line_mine 0 qs p q is k due x lt in
      ap (λ (y : StrandLine). events_of_program p (y ∷ strand_lines qs (map (line_at due (before p qs + k)) xs ++ more))) l
      ∙ pick_some p (record { tick = due; program = 0 + p; strand = strand_in k x; event = x }) (strand_lines qs (map (line_at due (before p qs + k)) xs ++ more)) (omega arith)
      ∙ ap (λ (ys : List StrandEvent). by_strand k x ∷ ys) (picked_mine k due xs more lt)

  picked_other : (i due : ℕ) (xs : List Event) (more : List Line) → (i < before p qs) ⊎ (before p qs + length q.strands ≤ i) → picked (map (line_at due i) xs ++ more) ≡ picked more
  picked_other i due [] more h = refl
  picked_other i due (x ∷ xs) more h =
      pick_none p (strand_line 0 qs i due x) (strand_lines qs (map (line_at due i) xs ++ more)) (λ e. line_other 0 qs p q is i due x h (omega (arith, e))) ∙ picked_other i due xs more h

  -- an actor of the program stands so
  pub record Stands (acts : List Actor) (v : Dues) (ts : List Told) (k : ℕ) : Type 0 where
    pub actor : Actor
    pub there : slice_get acts (before p qs + k) ≡ Some actor
    pub due : actor.due ≡ due_in (slice_get v k)
    pub notes : actor.notes ≡ notes_of k ts

  abbrev pub Stand : List Actor → Dues → List Told → Type 0
  Stand acts v ts = (k : ℕ) → k < length q.strands → Stands acts v ts k

  head_there : (k : ℕ) (t : Told) (ts : List Told) → t.strand ≡ k → 0 < length (notes_of k (t ∷ ts))
  head_there k t ts e =
      subst (λ j. 0 < length (notes_of j (t ∷ ts))) e (let z : length (notes_of t.strand (t ∷ ts)) ≡ suc (length (notes_of t.strand ts)) = ap length
      (notes_mine t.strand t.note ts) in omega (arith, z))

  none_left : (acts : List Actor) (v : Dues) (ts : List Told) → IsOver acts → length v ≡ length q.strands → Stand acts v ts → GoesByTurns None v ts → [] ≡ events_shown last looks ts
  none_left acts v [] over size st g = refl
  none_left acts v (t ∷ ts) over size st g =
      let lt : t.strand < length v = ready_lt v t.strand g.0.ready in
      let s = st t.strand (omega (arith, lt, size)) in
      let z : length (notes_of t.strand (t ∷ ts)) ≡ 0 = ap length (sym s.notes ∙ over_at acts (before p qs + t.strand) s.actor over s.there) in
      let some = head_there t.strand t ts refl in
      let no_way : ⊥ = omega (arith, z, some) in
      absurd no_way

  module _ (number : ℕ) (acts acts' : List Actor) (ds ds' : List Device) (lines : List Line) (play : Plays ps detaches number acts ds lines acts' ds') (more : List Line)
      (ih : (v : Dues) (ts : List Told) → length v ≡ length q.strands → Stand acts' v ts → GoesByTurns None v ts → picked more ≡ events_shown last looks ts) where
    abbrev moved : Actor
    moved = record { due = play.a.due + put_off (turn_of play.a.notes); notes = behind_turn play.a.notes; outcomes = play.outcomes; answers = play.answers }

    get_other : (j : ℕ) → (j ≡ play.i → ⊥) → slice_get acts' j ≡ slice_get acts j
    get_other j ne = ap (λ (xs : List Actor). slice_get xs j) play.after ∙ set_there acts play.i j moved ne

    get_here : slice_get acts' play.i ≡ Some moved
    get_here = ap (λ (xs : List Actor). slice_get xs play.i) play.after ∙ set_here acts play.i moved play.a play.next.there

    other_turn : (v : Dues) (ts : List Told) → length v ≡ length q.strands → Stand acts v ts → GoesByTurns None v ts → (play.i < before p qs) ⊎ (before p qs + length q.strands ≤ play.i)
        → picked (lines ++ more) ≡ events_shown last looks ts
    other_turn v ts size st g h =
        ap (λ (ls : List Line). picked (ls ++ more)) play.made ∙ picked_other play.i play.a.due (events_with_looks play.w.looks (turn_of play.a.notes)) more h
        ∙ ih v ts size (λ k lt. let s = st k lt in record { actor = s.actor; there = get_other (before p qs + k) (far k lt h) ∙ s.there; due = s.due; notes = s.notes }) g
      where
        far : (k : ℕ) → k < length q.strands → (play.i < before p qs) ⊎ (before p qs + length q.strands ≤ play.i) → before p qs + k ≡ play.i → ⊥
        far k lt (inl a) e = omega (arith, lt, a, e)
        far k lt (inr a) e = omega (arith, lt, a, e)

    module _ (v : Dues) (t : Told) (ts : List Told) (size : length v ≡ length q.strands) (st : Stand acts v (t ∷ ts)) (g : GoesByTurns None v (t
        ∷ ts)) (k : ℕ) (at : play.i ≡ before p qs + k) (lt : k < length q.strands) where
      is_actor : (st k lt).actor ≡ play.a
      is_actor = the_same (st k lt).actor play.a (sym (st k lt).there ∙ ap (slice_get acts) (sym at) ∙ play.next.there)

      notes_are : play.a.notes ≡ notes_of k (t ∷ ts)
      notes_are = ap (λ (a : Actor). a.notes) (sym is_actor) ∙ (st k lt).notes

      due_is : play.a.due ≡ due_in (slice_get v k)
      due_is = ap (λ (a : Actor). a.due) (sym is_actor) ∙ (st k lt).due

      head_lt : t.strand < length q.strands
      head_lt = let x = ready_lt v t.strand g.0.ready in omega (arith, x, size)

      same : k ≡ t.strand
      same =
          let s = st t.strand head_lt in
          let ready = told_ready None v (t ∷ ts) k tt g (subst (λ (ns : List Note). 0 < length ns) notes_are play.next.unfinished) in
          let e1 = due_is in
          let e2 = s.due in
          by_both e1 e2 (play.next.least (before p qs + t.strand) s.actor s.there (subst (λ (ns : List Note). 0 < length ns) (sym s.notes) (head_there t.strand t ts refl))) (g.0.least k ready)
        where
          by_both : {a b c d : ℕ} → a ≡ c → b ≡ d → (a < b) ⊎ ((a ≡ b) × (play.i ≤ before p qs + t.strand)) → (d < c) ⊎ ((d ≡ c) × (t.strand ≤ k)) → k ≡ t.strand
          by_both e1 e2 (inl x) (inl y) = let no_way : ⊥ = omega (arith, e1, e2, x, y) in absurd no_way
          by_both e1 e2 (inl x) (inr y) = let w = y.0 in let no_way : ⊥ = omega (arith, e1, e2, x, w) in absurd no_way
          by_both e1 e2 (inr x) (inl y) = let w = x.0 in let no_way : ⊥ = omega (arith, e1, e2, w, y) in absurd no_way
          by_both e1 e2 (inr x) (inr y) = let a = x.1 in let b = y.1 in omega (arith, a, b, at)

      split : Split last looks k v (t ∷ ts) (notes_of k (t ∷ ts))
      split = turn_split last looks k v (t ∷ ts) (omega (arith, lt, size)) (same, g.1)

      stand_on : Stand acts' split.then_due split.rest
      stand_on j jt = by_same (nat_eq j k) refl
        where
          by_same : (b : Bool) → nat_eq j k ≡ b → Stands acts' split.then_due split.rest j
          by_same true e =
              let z : j ≡ k = eqb-true j k e in
              subst (Stands acts' split.then_due split.rest) (sym z) (record {
                actor = moved;
                there = ap (slice_get acts') (sym at) ∙ get_here;
                due = ap (λ n. n + put_off (turn_of play.a.notes)) due_is ∙ ap (λ (ns : List Note). due_in (slice_get v k) + put_off (turn_of ns)) notes_are ∙ sym split.due;
                notes = ap behind_turn notes_are ∙ split.behind;
              })
          by_same false e =
              let ne : (j ≡ k → ⊥) = λ z. (let bad : true ≡ false = sym (eq-eqb j k z) ∙ e in let no_way : ⊥ = cc in no_way) in
              let s = st j jt in record {
                actor = s.actor;
                there = get_other (before p qs + j) (λ z. ne (omega (arith, z, at))) ∙ s.there;
                due = s.due ∙ ap due_in (sym (split.due_others j ne));
                notes = s.notes ∙ split.others j ne;
              }

      mine_turn : picked (lines ++ more) ≡ events_shown last looks (t ∷ ts)
      mine_turn =
          let w : play.w.looks ≡ looks_if (nat_eq last k) looks = programs k lt play.w (ap (slice_get ps) (sym at) ∙ play.program) in
          ap (λ (ls : List Line). picked (ls ++ more)) play.made
          ∙ ap (λ i. picked (map (line_at play.a.due i) (events_with_looks play.w.looks (turn_of play.a.notes)) ++ more)) at
          ∙ picked_mine k play.a.due (events_with_looks play.w.looks (turn_of play.a.notes)) more lt
          ∙ ap (λ (ys : List StrandEvent). map (by_strand k) (events_with_looks play.w.looks (turn_of play.a.notes)) ++ ys)
          (ih split.then_due split.rest (split.size ∙ size) stand_on split.goes)
          ∙ ap (λ (xs : List Look). map (by_strand k) (events_with_looks xs (turn_of play.a.notes)) ++ events_shown last looks split.rest) w
          ∙ ap (λ (ns : List Note). map (by_strand k) (events_with_looks (looks_if (nat_eq last k) looks) (turn_of ns)) ++ events_shown last looks split.rest) notes_are
          ∙ sym split.events

    mine_or_none : (v : Dues) (ts : List Told) → length v ≡ length q.strands → Stand acts v ts → GoesByTurns None v ts → (k : ℕ) → play.i ≡ before p qs + k → k < length q.strands
        → picked (lines ++ more) ≡ events_shown last looks ts
    mine_or_none v (t ∷ ts) size st g k at lt = mine_turn v t ts size st g k at lt
    mine_or_none v [] size st g k at lt =
        let s = st k lt in
        let z : s.actor ≡ play.a = the_same s.actor play.a (sym s.there ∙ ap (slice_get acts) (sym at) ∙ play.next.there) in
        let n : length play.a.notes ≡ 0 = ap length (ap (λ (a : Actor). a.notes) (sym z) ∙ s.notes) in
        let some = play.next.unfinished in
        let no_way : ⊥ = omega (arith, n, some) in
        absurd no_way

    one_event : (v : Dues) (ts : List Told) → length v ≡ length q.strands → Stand acts v ts → GoesByTurns None v ts → picked (lines ++ more) ≡ events_shown last looks ts
    one_event v ts size st g =
        ⊎_elim (λ lt. other_turn v ts size st g (inl lt))
        (λ ge. ⊎_elim (λ lt. mine_or_none v ts size st g (play.i - before p qs) (omega (arith, ge)) (omega (arith, ge, lt))) (λ far. other_turn v ts size st g (inr far))
        (cases_lt play.i (before p qs + length q.strands))) (cases_lt play.i (before p qs))

  pub events_tell : (number : ℕ) (acts : List Actor) (ds : List Device) (flat : List Line) (end : List Actor) (ds' : List Device) → Events ps detaches number acts ds flat end ds' → IsOver end
      → (v : Dues) (ts : List Told) → length v ≡ length q.strands → Stand acts v ts → GoesByTurns None v ts → picked flat ≡ events_shown last looks ts
  events_tell number acts ds _ _ _ no_event over v ts size st g = none_left acts v ts over size st g
  events_tell number acts ds flat end ds'' (an_event {actors' = acts'} {ds' = ds'} {lines = lines} {more = more} play rest e) over v ts size st g =
      ap picked e
      ∙ one_event number acts acts' ds ds' lines play more (λ v2 ts2 size2 st2 g2. events_tell (suc number) acts' ds' more end ds'' rest over v2 ts2 size2 st2 g2) v ts size st g
