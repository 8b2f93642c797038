-- Turns of strands that were told one after another are a world played up to there.
use Rattle.std.proofs.Common.{arith, ◌≡◌, ◌<◌, ◌≤◌, ◌⊎◌, inl, inr, ℕ, zero, suc, ◌+◌, List, [], ◌∷◌, ◌++◌, length, drop, Option, Some, None, Bool, true, false, refl, sym, ap, ◌∙◌, subst}
use Rattle.std.proofs.Common.{append_assoc, append-nil, eq-eqb, eqb-true, ne_eqb}
use Rattle.std.specs.Prelude.{map, nat_eq, slice_get, slice_set}
use Rattle.std.specs.List.{AllZip}
use Rattle.std.specs.Option.{unwrap_or}
use Rattle.wa_model.specs.declared.answers.Detach.{Detach}
use Rattle.wa_model.specs.Blocking.{Note}
use Rattle.wa_model.specs.Outside.{AnswerLine, Call, Event}
use Rattle.wa_model.specs.Plan.{Outcome}
use Rattle.world_model.specs.World.{Actor, CallsMeet, Device, Look, NoteMeets, Plays, Program, behind_turn, call_in, detached, events_with_looks, line_at, put_off, turn_lines, turn_of}
use Rattle.world_laws.proofs.Meeting.{SameCalls, meets_same}
use Rattle.strand_laws.proofs.Blocks.{Lies, before_later, joined_get, joined_set, lies_in, lies_within, none_is, offset, set_get, set_length, set_other, the_same}
use Rattle.strand_laws.proofs.StrandTails.{no_notes, notes_both, own_notes}
use Rattle.strand_laws.proofs.TurnTaken.{dues_back, dues_of, last_behind, last_own, last_tells, no_end_shows, some_told, turn_first, turn_taken}
use Rattle.strand_laws.proofs.TurnsTold.{told_ready}
use Rattle.strand_laws.proofs.WorldTurns.{before, line_mine}
use Rattle.strand_laws.specs.StrandWorld.{Staged, StrandLine, StrandsInWorld, joined, last_strand, looks_if, notes_of, strand_actors, strand_in, strand_lines}
use Rattle.strand_laws.specs.StrandWorld.{strand_program, strand_programs}
use Rattle.strand_laws.specs.Strands.{Strand, StrandProgram, no_strand, outcomes_at, strand_at}
use Rattle.strand_laws.specs.ToldStrands.{IsDue, IsRest, ProgramTeller, StrandTeller, TellsStrandTurn}
use Rattle.strand_laws.specs.ToldStrands.{having_told, line_of, tells_end, told_on}
use Rattle.strand_laws.specs.Weaving.{GoesByTurns}
use Rattle.strand_laws.specs.Woven.{Told, told_by}

-- ---- lists

pub drop_told : {A : Type 0} (xs ys : List A) → drop (length xs) (xs ++ ys) ≡ ys
drop_told [] ys = refl
drop_told (x ∷ xs) ys = drop_told xs ys

pub zip_get : {A B : Type 0} (R : A → B → Type 0) (xs : List A) (ys : List B) (p : ℕ) (x : A) (y : B) → AllZip R xs ys → slice_get xs p ≡ Some x → slice_get ys p ≡ Some y → R x y
zip_get R [] ys p x y h e f = none_is x e
zip_get R (z ∷ xs) [] p x y h e f = none_is y f
zip_get R (z ∷ xs) (w ∷ ys) zero x y h e f = subst (λ a. R a y) (the_same z x e) (subst (R z) (the_same w y f) h.0)
zip_get R (z ∷ xs) (w ∷ ys) (suc p) x y h e f = zip_get R xs ys p x y h.1 e f

pub zip_set : {A B : Type 0} (R : A → B → Type 0) (xs : List A) (ys : List B) (p : ℕ) (x : A) (y : B) → AllZip R xs ys → slice_get xs p ≡ Some x → R x y → AllZip R xs (slice_set ys p y)
zip_set R [] [] p x y h e r = tt
zip_set R [] (w ∷ ys) p x y h e r = absurd h
zip_set R (z ∷ xs) [] p x y h e r = absurd h
zip_set R (z ∷ xs) (w ∷ ys) zero x y h e r = (subst (λ a. R a y) (sym (the_same z x e)) r, h.1)
zip_set R (z ∷ xs) (w ∷ ys) (suc p) x y h e r = (h.0, zip_set R xs ys p x y h.1 e r)

pub zip_unset : {A B : Type 0} (R : A → B → Type 0) (xs : List A) (ys : List B) (p : ℕ) (x : A) (y z : B) → AllZip R xs (slice_set ys p z) → slice_get xs p ≡ Some x → slice_get ys p ≡ Some y → R x y → AllZip R xs ys
zip_unset R [] [] p x y z h e f r = tt
zip_unset R [] (w ∷ ys) zero x y z h e f r = absurd h
zip_unset R [] (w ∷ ys) (suc p) x y z h e f r = absurd h
zip_unset R (a ∷ xs) [] p x y z h e f r = absurd h
zip_unset R (a ∷ xs) (w ∷ ys) zero x y z h e f r = (subst (λ b. R b w) (sym (the_same a x e)) (subst (R x) (sym (the_same w y f)) r), h.1)
zip_unset R (a ∷ xs) (w ∷ ys) (suc p) x y z h e f r = (h.0, zip_unset R xs ys p x y z h.1 e f r)

pub mapped_get : {A B : Type 0} (f : A → B) (xs : List A) (p : ℕ) (x : A) → slice_get xs p ≡ Some x → slice_get (map f xs) p ≡ Some (f x)
mapped_get f [] p x e = none_is x e
mapped_get f (y ∷ xs) zero x e = ap (λ z. Some (f z)) (the_same y x e)
mapped_get f (y ∷ xs) (suc p) x e = mapped_get f xs p x e

pub mapped_back : {A B : Type 0} (f : A → B) (xs : List A) (p : ℕ) (y : B) → slice_get (map f xs) p ≡ Some y → (x : A) × (slice_get xs p ≡ Some x) × (f x ≡ y)
mapped_back f [] p y e = none_is y e
mapped_back f (x ∷ xs) zero y e = (x, refl, the_same (f x) y e)
mapped_back f (x ∷ xs) (suc p) y e = mapped_back f xs p y e

-- ---- what calls meet with more outcomes behind

pub calls_longer : (w v : Program) → SameCalls w v → (more : List Outcome) (xs : List Note) (os : List Outcome) (lines : List AnswerLine) (ds : List Device) (os' : List Outcome)
    (lines' : List AnswerLine) (ds' : List Device) → CallsMeet w xs os lines ds os' lines' ds' → CallsMeet v xs (os ++ more) lines ds (os' ++ more) lines' ds'
calls_longer w v same more [] os lines ds os' lines' ds' h = (ap (λ (zs : List Outcome). zs ++ more) h.0, h.1, h.2)
calls_longer w v same more (x ∷ xs) os lines ds os' lines' ds' h = by (λ o l d k. calls_longer w v same more xs o l d os' lines' ds' k) (call_in x.event) h
  where
    Rest : List Outcome → List AnswerLine → List Device → Type 0
    Rest o l d = CallsMeet v xs o l d (os' ++ more) lines' ds'

    by : ((o : List Outcome) (l : List AnswerLine) (d : List Device) → CallsMeet w xs o l d os' lines' ds' → CallsMeet v xs (o ++ more) l d (os' ++ more) lines' ds') → (c : Option Call)
        → NoteMeets w c os lines ds (λ o l d. CallsMeet w xs o l d os' lines' ds') → NoteMeets v c (os ++ more) lines ds Rest
    by on None k = on os lines ds k
    by on (Some c) k =
        (k.0, k.1 ++ more, k.2, k.3, ap (λ (zs : List Outcome). zs ++ more) k.4, meets_same w v same c.import c.args lines ds k.0 k.2 k.3 k.5, on k.1 k.2 k.3 k.6)

-- ---- what is told in all

-- A program, all that its strands tell, and the outcomes with which they do.
pub record Whole : Type 0 where
  pub g : StrandsInWorld
  pub all : List Told
  pub outcomes : List (List Outcome)

-- a strand as an actor, when this is still to be told
abbrev pub actor_now : Whole → List Told → (strand : ℕ) → StrandTeller → Actor
actor_now x rest i s = record { due = s.due; notes = notes_of i rest; outcomes = drop (length s.met) (outcomes_at x.outcomes i); answers = s.answers }

abbrev pub row : Whole → List Told → (strand : ℕ) → List StrandTeller → List Actor
row x rest i [] = []
row x rest i (s ∷ ss) = actor_now x rest i s ∷ row x rest (suc i) ss

abbrev pub still_told : Whole → ProgramTeller → List Told
still_told x t = drop (length t.told) x.all

abbrev pub row_of : Whole → ProgramTeller → List Actor
row_of x t = row x (still_told x t) 0 t.strands

abbrev pub rows : List Whole → List ProgramTeller → List (List Actor)
rows [] ts = []
rows (x ∷ xs) [] = []
rows (x ∷ xs) (t ∷ ts) = row_of x t ∷ rows xs ts

abbrev pub staged_of : Whole → Staged
staged_of x = record { programs = strand_programs x.g (last_strand x.all) 0 x.g.program.strands; actors = strand_actors x.g x.all 0 x.outcomes }

abbrev pub programs_in : List Whole → List (List Program)
programs_in xs = map (λ (y : Staged). y.programs) (map staged_of xs)

abbrev pub worlds_of : List Whole → List StrandsInWorld
worlds_of xs = map (λ (x : Whole). x.g) xs

abbrev pub strands_of : List Whole → List StrandProgram
strands_of xs = map (λ (g : StrandsInWorld). g.program) (worlds_of xs)

-- What was told begins it.
pub record Fits (x : Whole) (t : ProgramTeller) : Type 0 where
  pub rest : List Told
  pub whole : x.all ≡ t.told ++ rest
  pub is_rest : IsRest t.has_ended rest
  pub more : (k : ℕ) (s : StrandTeller) → slice_get t.strands k ≡ Some s → (os : List Outcome) × (outcomes_at x.outcomes k ≡ s.met ++ os)

-- What is still to be told goes by turns.
pub record Goes (x : Whole) (t : ProgramTeller) : Type 0 where
  pub size : length t.strands ≡ length x.g.program.strands
  pub turns : GoesByTurns None (dues_of t.strands) (still_told x t)

-- ---- places

pub row_get : (x : Whole) (rest : List Told) (i k j : ℕ) (ss : List StrandTeller) (s : StrandTeller) → j ≡ i + k → slice_get ss k ≡ Some s → slice_get (row x rest i ss) k ≡ Some (actor_now x rest j s)
row_get x rest i k j [] s e h = none_is s h
row_get x rest i zero j (t ∷ ss) s e h =
    let z : i ≡ j = omega (arith, e) in ap (λ n. Some (actor_now x rest n t)) z ∙ ap (λ u. Some (actor_now x rest j u)) (the_same t s h)
row_get x rest i (suc k) j (t ∷ ss) s e h = row_get x rest (suc i) k j ss s (omega (arith, e)) h

pub row_back : (x : Whole) (rest : List Told) (i k j : ℕ) (ss : List StrandTeller) (a : Actor) → j ≡ i + k → slice_get (row x rest i ss) k ≡ Some a
    → (s : StrandTeller) × (slice_get ss k ≡ Some s) × (actor_now x rest j s ≡ a)
row_back x rest i k j [] a e h = none_is a h
row_back x rest i zero j (t ∷ ss) a e h =
    let z : j ≡ i = omega (arith, e) in (t, refl, ap (λ n. actor_now x rest n t) z ∙ the_same (actor_now x rest i t) a h)
row_back x rest i (suc k) j (t ∷ ss) a e h = row_back x rest (suc i) k j ss a (omega (arith, e)) h

pub row_length : (x : Whole) (rest : List Told) (i : ℕ) (ss : List StrandTeller) → length (row x rest i ss) ≡ length ss
row_length x rest i [] = refl
row_length x rest i (s ∷ ss) = ap suc (row_length x rest (suc i) ss)

row_same : (x : Whole) (rest rest' : List Told) (i : ℕ) (ss : List StrandTeller) → ((j : ℕ) → i ≤ j → notes_of j rest' ≡ notes_of j rest) → row x rest' i ss ≡ row x rest i ss
row_same x rest rest' i [] h = refl
row_same x rest rest' i (s ∷ ss) h =
    ap (λ (ns : List Note). record { due = s.due; notes = ns; outcomes = drop (length s.met) (outcomes_at x.outcomes i); answers = s.answers } ∷ row x rest' (suc i) ss) (h i (omega arith))
    ∙ ap (λ (acts : List Actor). actor_now x rest i s ∷ acts) (row_same x rest rest' (suc i) ss (λ j le. h j (omega (arith, le))))

row_set : (x : Whole) (rest rest' : List Told) (i k n : ℕ) (ss : List StrandTeller) (s : StrandTeller) → n ≡ i + k → ((j : ℕ) → (j ≡ n → ⊥) → notes_of j rest' ≡ notes_of j rest)
    → row x rest' i (slice_set ss k s) ≡ slice_set (row x rest i ss) k (actor_now x rest' n s)
row_set x rest rest' i k n [] s e h = refl
row_set x rest rest' i zero n (t ∷ ss) s e h =
    let z : i ≡ n = omega (arith, e) in
    ap (λ m. actor_now x rest' m s ∷ row x rest' (suc i) ss) z
    ∙ ap (λ (acts : List Actor). actor_now x rest' n s ∷ acts) (row_same x rest rest' (suc i) ss (λ j le. h j (λ q. let no_way : ⊥ = omega (arith, le, e, q) in no_way)))
row_set x rest rest' i (suc k) n (t ∷ ss) s e h =
    ap (λ (ns : List Note). record { due = t.due; notes = ns; outcomes = drop (length t.met) (outcomes_at x.outcomes i); answers = t.answers } ∷ row x rest' (suc i) (slice_set ss k s))
    (h i (λ q. let no_way : ⊥ = omega (arith, e, q) in no_way))
    ∙ ap (λ (acts : List Actor). actor_now x rest i t ∷ acts) (row_set x rest rest' (suc i) k n ss s (omega (arith, e)) h)

pub rows_get : (xs : List Whole) (ts : List ProgramTeller) (p : ℕ) (x : Whole) (t : ProgramTeller) → slice_get xs p ≡ Some x → slice_get ts p ≡ Some t → slice_get (rows xs ts) p ≡ Some (row_of x t)
rows_get [] ts p x t e f = none_is x e
rows_get (y ∷ xs) [] p x t e f = none_is t f
rows_get (y ∷ xs) (u ∷ ts) zero x t e f = ap (λ z. Some (row_of z u)) (the_same y x e) ∙ ap (λ z. Some (row_of x z)) (the_same u t f)
rows_get (y ∷ xs) (u ∷ ts) (suc p) x t e f = rows_get xs ts p x t e f

pub rows_back : (xs : List Whole) (ts : List ProgramTeller) (p : ℕ) (b : List Actor) → slice_get (rows xs ts) p ≡ Some b
    → (x : Whole) × (t : ProgramTeller) × (slice_get xs p ≡ Some x) × (slice_get ts p ≡ Some t) × (row_of x t ≡ b)
rows_back [] ts p b e = none_is b e
rows_back (y ∷ xs) [] p b e = none_is b e
rows_back (y ∷ xs) (u ∷ ts) zero b e = (y, u, refl, refl, the_same (row_of y u) b e)
rows_back (y ∷ xs) (u ∷ ts) (suc p) b e = rows_back xs ts p b e

rows_set : (xs : List Whole) (ts : List ProgramTeller) (p : ℕ) (x : Whole) (t : ProgramTeller) → slice_get xs p ≡ Some x → rows xs (slice_set ts p t) ≡ slice_set (rows xs ts) p (row_of x t)
rows_set [] ts p x t e = none_is x e
rows_set (y ∷ xs) [] p x t e = refl
rows_set (y ∷ xs) (u ∷ ts) zero x t e = ap (λ z. row_of z t ∷ rows xs ts) (the_same y x e)
rows_set (y ∷ xs) (u ∷ ts) (suc p) x t e = ap (λ (bs : List (List Actor)). row_of y u ∷ bs) (rows_set xs ts p x t e)

rows_offset : (xs : List Whole) (ts : List ProgramTeller) → AllZip Goes xs ts → (p : ℕ) → offset p (rows xs ts) ≡ before p (strands_of xs)
rows_offset xs ts h zero = refl
rows_offset [] [] h (suc p) = refl
rows_offset [] (t ∷ ts) h (suc p) = absurd h
rows_offset (x ∷ xs) [] h (suc p) = absurd h
rows_offset (x ∷ xs) (t ∷ ts) h (suc p) =
    let a = row_length x (still_told x t) 0 t.strands in
    let b = h.0.size in
    let c = rows_offset xs ts h.1 p in
    omega (arith, a, b, c)

programs_long : (g : StrandsInWorld) (last i : ℕ) (ss : List Strand) → length (strand_programs g last i ss) ≡ length ss
programs_long g last i [] = refl
programs_long g last i (s ∷ ss) = ap suc (programs_long g last (suc i) ss)

programs_offset : (xs : List Whole) (p : ℕ) → offset p (programs_in xs) ≡ before p (strands_of xs)
programs_offset xs zero = refl
programs_offset [] (suc p) = refl
programs_offset (x ∷ xs) (suc p) =
    let a = programs_long x.g (last_strand x.all) 0 x.g.program.strands in
    let c = programs_offset xs p in
    omega (arith, a, c)

program_get : (g : StrandsInWorld) (last i k j : ℕ) (ss : List Strand) → j ≡ i + k → k < length ss
    → slice_get (strand_programs g last i ss) k ≡ Some (strand_program g (looks_if (nat_eq last j) g.looks) j (unwrap_or (slice_get ss k) no_strand))
program_get g last i k j [] e lt = let no_way : ⊥ = omega (arith, lt) in absurd no_way
program_get g last i zero j (s ∷ ss) e lt = let z : i ≡ j = omega (arith, e) in ap (λ n. Some (strand_program g (looks_if (nat_eq last n) g.looks) n s)) z
program_get g last i (suc k) j (s ∷ ss) e lt = program_get g last (suc i) k j ss (omega (arith, e)) (omega (arith, lt))

lines_of : (xs : List Whole) (p k due : ℕ) (q : StrandProgram) → slice_get (strands_of xs) p ≡ Some q → k < length q.strands → (es : List Event)
    → strand_lines (strands_of xs) (map (line_at due (before p (strands_of xs) + k)) es) ≡ map (line_of due p k) es
lines_of xs p k due q is lt [] = refl
lines_of xs p k due q is lt (e ∷ es) =
    let z : 0 + p ≡ p = omega arith in
    ap (λ (l : StrandLine). l ∷ strand_lines (strands_of xs) (map (line_at due (before p (strands_of xs) + k)) es))
    (line_mine 0 (strands_of xs) p q is k due e lt ∙ ap (λ n. record { tick = due; program = n; strand = strand_in k e; event = e }) z)
    ∙ ap (λ (ls : List StrandLine). line_of due p k e ∷ ls) (lines_of xs p k due q is lt es)

-- ---- one turn

false_true : {A : Type 0} → false ≡ true → A
false_true e = let no_way : ⊥ = cc in absurd no_way

module _ (xs : List Whole) (detaches : List Detach) (number : ℕ) (mid : List ProgramTeller) (es ds' : List Device) (lines : List StrandLine) (tellers : List ProgramTeller)
    (h : TellsStrandTurn (worlds_of xs) detaches number mid es lines tellers ds') (x : Whole) (is_x : slice_get xs h.program ≡ Some x) (same_g : x.g ≡ h.g) where
  abbrev p : ℕ
  p = h.program

  abbrev k : ℕ
  k = h.strand

  abbrev s' : StrandTeller
  s' = having_told h.s h.turn h.met h.answers

  abbrev t' : ProgramTeller
  t' = told_on h.t k s' h.turn h.is_last

  pub then_there : slice_get tellers p ≡ Some t'
  then_there = ap (λ (ts : List ProgramTeller). slice_get ts p) h.after ∙ set_get mid p t' h.t h.there

  strand_then : slice_get t'.strands k ≡ Some s'
  strand_then = set_get h.t.strands k s' h.s h.strand_there

  due_there : IsDue mid p k h.s.due
  due_there = h.next.is_due

  same_t : due_there.t ≡ h.t
  same_t = the_same due_there.t h.t (sym due_there.there ∙ h.there)

  not_over : h.t.has_ended ≡ false
  not_over = ap (λ (t : ProgramTeller). t.has_ended) (sym same_t) ∙ due_there.goes_on

  -- what fits behind the turn fits before it
  pub fits_before : Fits x t' → Fits x h.t
  fits_before f = record {
    rest = told_by k h.turn ++ f.rest;
    whole = f.whole ∙ append_assoc h.t.told (told_by k h.turn) f.rest;
    is_rest = subst (λ b. IsRest b (told_by k h.turn ++ f.rest)) (sym not_over) (told_some h.turn (some_told h.turn h.whole) f.rest);
    more = λ j s e. by j s e (cases j);
  }
    where
      told_some : (ns : List Note) → 0 < length ns → (rest : List Told) → 0 < length (told_by k ns ++ rest)
      told_some [] lt rest = let no_way : ⊥ = omega (arith, lt) in absurd no_way
      told_some (n ∷ ns) lt rest = omega arith

      cases : (j : ℕ) → (j ≡ k) ⊎ (j ≡ k → ⊥)
      cases j = by_eq (nat_eq j k) refl
        where
          differs : true ≡ false → ⊥
          differs e = cc

          by_eq : (b : Bool) → nat_eq j k ≡ b → (j ≡ k) ⊎ (j ≡ k → ⊥)
          by_eq true e = inl (eqb-true j k e)
          by_eq false e = inr (λ q. differs (sym (eq-eqb j k q) ∙ e))

      by : (j : ℕ) (s : StrandTeller) → slice_get h.t.strands j ≡ Some s → (j ≡ k) ⊎ (j ≡ k → ⊥) → (os : List Outcome) × (outcomes_at x.outcomes j ≡ s.met ++ os)
      by j s e (inl z) =
          let m = f.more k s' strand_then in
          let is : h.s ≡ s = the_same h.s s (sym h.strand_there ∙ ap (slice_get h.t.strands) (sym z) ∙ e) in
          (h.met ++ m.0, ap (outcomes_at x.outcomes) z ∙ m.1 ∙ append_assoc h.s.met h.met m.0 ∙ ap (λ (u : StrandTeller). u.met ++ (h.met ++ m.0)) is)
      by j s e (inr ne) = f.more j s (set_other h.t.strands k j s' ne ∙ e)

  module _ (f : Fits x t') (g0 : Goes x h.t) where
    abbrev rest : List Told
    rest = f.rest

    is_still : still_told x h.t ≡ told_by k h.turn ++ rest
    is_still = ap (drop (length h.t.told)) (f.whole ∙ append_assoc h.t.told (told_by k h.turn) rest) ∙ drop_told h.t.told (told_by k h.turn ++ rest)

    is_then : still_told x t' ≡ rest
    is_then = ap (drop (length t'.told)) f.whole ∙ drop_told t'.told rest

    turns_then : GoesByTurns None (dues_of t'.strands) rest
    turns_then = turn_taken k rest h.t.strands h.s h.turn h.met h.answers h.strand_there h.whole (subst (GoesByTurns None (dues_of h.t.strands)) is_still g0.turns)

    pub goes_then : Goes x t'
    goes_then = record { size = set_length h.t.strands k s' ∙ g0.size; turns = subst (GoesByTurns None (dues_of t'.strands)) (sym is_then) turns_then }

    notes_here : notes_of k (still_told x h.t) ≡ h.turn ++ notes_of k rest
    notes_here = ap (notes_of k) is_still ∙ notes_both k (told_by k h.turn) rest ∙ ap (λ (ns : List Note). ns ++ notes_of k rest) (own_notes k h.turn)

    notes_others : (j : ℕ) → (j ≡ k → ⊥) → notes_of j rest ≡ notes_of j (still_told x h.t)
    notes_others j ne =
        sym (ap (notes_of j) is_still ∙ notes_both j (told_by k h.turn) rest ∙ ap (λ (ns : List Note). ns ++ notes_of j rest) (no_notes j k h.turn (λ q. ne (sym q))))

    turn_is : turn_of (notes_of k (still_told x h.t)) ≡ h.turn
    turn_is = ap turn_of notes_here ∙ (turn_first (notes_of k rest) h.turn h.whole).0

    behind_is : behind_turn (notes_of k (still_told x h.t)) ≡ notes_of k rest
    behind_is = ap behind_turn notes_here ∙ (turn_first (notes_of k rest) h.turn h.whole).1

    -- what is shown behind the turn
    abbrev last : ℕ
    last = last_strand x.all

    abbrev ShowsSame : Type 0
    ShowsSame = events_with_looks (looks_if (nat_eq last k) x.g.looks) h.turn ≡ events_with_looks (looks_if h.is_last x.g.looks) h.turn

    shows_same : ShowsSame
    shows_same = by_end (tells_end h.turn) refl
      where
        by_last : (b : Bool) → nat_eq last k ≡ b → h.is_last ≡ b → ShowsSame
        by_last b e i = ap (λ c. events_with_looks (looks_if c x.g.looks) h.turn) (e ∙ sym i)

        told_last : (ns : List Note) → h.turn ≡ ns → rest ≡ [] → last ≡ k
        told_last [] e r = let lt = subst (λ (ns : List Note). 0 < length ns) e (some_told h.turn h.whole) in let no_way : ⊥ = omega (arith, lt) in absurd no_way
        told_last (n ∷ ns) e r =
            ap last_strand (f.whole ∙ ap (λ (ts : List Told). (h.t.told ++ told_by k h.turn) ++ ts) r ∙ append-nil (h.t.told ++ told_by k h.turn) ∙ ap (λ (ms : List Note). h.t.told ++ told_by k ms) e)
            ∙ last_behind h.t.told (record { strand = k; note = n }) (told_by k ns) ∙ last_own k n ns

        is_other : tells_end h.turn ≡ true → (y : Told) (ys : List Told) → rest ≡ y ∷ ys → last ≡ k → ⊥
        is_other e y ys r z =
            let l : last ≡ last_strand (y ∷ ys) = ap last_strand (f.whole ∙ ap (λ (ts : List Told). t'.told ++ ts) r) ∙ last_behind t'.told y ys in
            let some : 0 < length (notes_of last rest) =
            subst (λ (ts : List Told). 0 < length (notes_of last ts)) (sym r) (subst (λ j. 0 < length (notes_of j (y ∷ ys))) (sym l) (last_tells y ys)) in
            let ready = told_ready None (dues_of t'.strands) rest last tt turns_then some in
            let d = dues_back t'.strands last ready in
            let is : d.0 ≡ s' = the_same d.0 s' (sym d.1 ∙ ap (slice_get t'.strands) z ∙ strand_then) in
            false_true (sym d.2 ∙ ap (λ (u : StrandTeller). u.has_ended) is ∙ e)

        by_rest : tells_end h.turn ≡ true → (b : Bool) → h.is_last ≡ b → IsRest b rest → (ts : List Told) → rest ≡ ts → ShowsSame
        by_rest e true i r ts q = by_last true (eq-eqb last k (told_last h.turn refl r)) i
        by_rest e false i r [] q = let n = ap length q in let lt = r in let no_way : ⊥ = omega (arith, n, lt) in absurd no_way
        by_rest e false i r (y ∷ ys) q = by_last false (ne_eqb last k (is_other e y ys q)) i

        by_end : (b : Bool) → tells_end h.turn ≡ b → ShowsSame
        by_end true e = by_rest e h.is_last refl f.is_rest rest refl
        by_end false e = no_end_shows (looks_if (nat_eq last k) x.g.looks) (looks_if h.is_last x.g.looks) h.turn e

    -- ---- as an event of the world

    abbrev a : Actor
    a = actor_now x (still_told x h.t) k h.s

    abbrev w : Program
    w = strand_program x.g (looks_if (nat_eq last k) x.g.looks) k (strand_at x.g.program k)

    left : (os : List Outcome) × (outcomes_at x.outcomes k ≡ (h.s.met ++ h.met) ++ os)
    left = f.more k s' strand_then

    outcomes_here : a.outcomes ≡ h.met ++ left.0
    outcomes_here = ap (drop (length h.s.met)) (left.1 ∙ append_assoc h.s.met h.met left.0) ∙ drop_told h.s.met (h.met ++ left.0)

    outcomes_then : drop (length (h.s.met ++ h.met)) (outcomes_at x.outcomes k) ≡ left.0
    outcomes_then = ap (drop (length (h.s.met ++ h.met))) left.1 ∙ drop_told (h.s.met ++ h.met) left.0

    calls_here : CallsMeet w (turn_of a.notes) a.outcomes a.answers (detached number detaches es) left.0 h.answers ds'
    calls_here =
        subst (λ (ns : List Note). CallsMeet w ns a.outcomes a.answers (detached number detaches es) left.0 h.answers ds') (sym turn_is)
        (subst (λ (os : List Outcome). CallsMeet w h.turn os a.answers (detached number detaches es) left.0 h.answers ds') (sym outcomes_here)
        (calls_longer (strand_program h.g (looks_if h.is_last h.g.looks) k (strand_at h.g.program k)) w
        (record { imports = ap (λ (q : StrandsInWorld). q.program.source.imports) (sym same_g); binds = ap (λ (q : StrandsInWorld). q.binds) (sym same_g) })
        left.0 h.turn h.met h.s.answers (detached number detaches es) [] h.answers ds' h.calls))

    module _ (goes : AllZip Goes xs mid) (fits : AllZip Fits xs mid) where
      abbrev place : ℕ
      place = before p (strands_of xs) + k

      inside : k < length h.t.strands
      inside = lies_within h.t.strands k h.s h.strand_there

      here_offset : offset p (rows xs mid) ≡ before p (strands_of xs)
      here_offset = rows_offset xs mid goes p

      row_here : slice_get (rows xs mid) p ≡ Some (row_of x h.t)
      row_here = rows_get xs mid p x h.t is_x h.there

      row_wide : k < length (row_of x h.t)
      row_wide = let z = row_length x (still_told x h.t) 0 h.t.strands in let lt = inside in omega (arith, z, lt)

      there : slice_get (joined (rows xs mid)) place ≡ Some a
      there =
          ap (λ n. slice_get (joined (rows xs mid)) (n + k)) (sym here_offset) ∙ joined_get (rows xs mid) p (row_of x h.t) k row_here row_wide
          ∙ row_get x (still_told x h.t) 0 k k h.t.strands h.s (let z : k ≡ 0 + k = omega arith in z) h.strand_there

      unfinished : 0 < length a.notes
      unfinished = subst (λ (ns : List Note). 0 < length ns) (sym notes_here) (more h.turn (notes_of k rest) (some_told h.turn h.whole))
        where
          more : (ns ms : List Note) → 0 < length ns → 0 < length (ns ++ ms)
          more [] ms lt = let no_way : ⊥ = omega (arith, lt) in absurd no_way
          more (n ∷ ns) ms lt = omega arith

      least : (j : ℕ) (b : Actor) → slice_get (joined (rows xs mid)) j ≡ Some b → 0 < length b.notes → (a.due < b.due) ⊎ ((a.due ≡ b.due) × (place ≤ j))
      least j b e some = by (h.next.least l.p l.k found.0.due is_due)
        where
          l : Lies (rows xs mid) j b
          l = lies_in (rows xs mid) j b e

          r : (y : Whole) × (u : ProgramTeller) × (slice_get xs l.p ≡ Some y) × (slice_get mid l.p ≡ Some u) × (row_of y u ≡ l.b)
          r = rows_back xs mid l.p l.b l.there

          found : (v : StrandTeller) × (slice_get r.1.strands l.k ≡ Some v) × (actor_now r.0 (still_told r.0 r.1) l.k v ≡ b)
          found =
              row_back r.0 (still_told r.0 r.1) 0 l.k l.k r.1.strands b (let z : l.k ≡ 0 + l.k = omega arith in z) (ap (λ (bs : List Actor). slice_get bs l.k) r.4 ∙ l.inside)

          notes : 0 < length (notes_of l.k (still_told r.0 r.1))
          notes = subst (λ (c : Actor). 0 < length c.notes) (sym found.2) some

          goes_there : Goes r.0 r.1
          goes_there = zip_get Goes xs mid l.p r.0 r.1 goes r.2 r.3

          fits_there : Fits r.0 r.1
          fits_there = zip_get Fits xs mid l.p r.0 r.1 fits r.2 r.3

          still_there : still_told r.0 r.1 ≡ fits_there.rest
          still_there = ap (drop (length r.1.told)) fits_there.whole ∙ drop_told r.1.told fits_there.rest

          live : (c : Bool) → IsRest c fits_there.rest → c ≡ false
          live false q = refl
          live true q = let z : 0 ≡ length (notes_of l.k (still_told r.0 r.1)) = ap (λ (ts : List Told). length (notes_of l.k ts)) (sym (still_there ∙ q)) in let lt = notes in let no_way : ⊥ = omega (arith, z, lt) in absurd no_way

          ready : (v : StrandTeller) × (slice_get r.1.strands l.k ≡ Some v) × (v.has_ended ≡ false)
          ready = dues_back r.1.strands l.k (told_ready None (dues_of r.1.strands) (still_told r.0 r.1) l.k tt goes_there.turns notes)

          is_due : IsDue mid l.p l.k found.0.due
          is_due = record {
            t = r.1;
            s = found.0;
            there = r.3;
            strand_there = found.1;
            goes_on = live r.1.has_ended fits_there.is_rest;
            unfinished = ap (λ (v : StrandTeller). v.has_ended) (the_same found.0 ready.0 (sym found.1 ∙ ready.1)) ∙ ready.2;
            due = refl;
          }

          due_is : found.0.due ≡ b.due
          due_is = ap (λ (c : Actor). c.due) found.2

          by : (h.s.due < found.0.due) ⊎ ((h.s.due ≡ found.0.due) × ((p < l.p) ⊎ ((p ≡ l.p) × (k ≤ l.k)))) → (a.due < b.due) ⊎ ((a.due ≡ b.due) × (place ≤ j))
          by (inl lt) = let z = due_is in inl (omega (arith, lt, z))
          by (inr (same, inl lt)) =
              let z = before_later (rows xs mid) p l.p (row_of x h.t) lt row_here in
              let o = here_offset in
              let q = l.place in
              let wide = row_wide in
              inr (same ∙ due_is, omega (arith, z, o, q, wide))
          by (inr (same, inr (e, le))) =
              let o = ap (λ n. offset n (rows xs mid)) (sym e) ∙ here_offset in
              let q = l.place in
              inr (same ∙ due_is, omega (arith, o, q, le))

      strands_here : slice_get (strands_of xs) p ≡ Some x.g.program
      strands_here = mapped_get (λ (q : StrandsInWorld). q.program) (worlds_of xs) p x.g (mapped_get (λ (y : Whole). y.g) xs p x is_x)

      in_program : k < length x.g.program.strands
      in_program = let z = g0.size in let lt = inside in omega (arith, z, lt)

      program_there : slice_get (joined (programs_in xs)) place ≡ Some w
      program_there =
          let wide = programs_long x.g last 0 x.g.program.strands in
          let lt = in_program in
          ap (λ n. slice_get (joined (programs_in xs)) (n + k)) (sym (programs_offset xs p))
          ∙ joined_get (programs_in xs) p (strand_programs x.g last 0 x.g.program.strands) k
          (mapped_get (λ (y : Staged). y.programs) (map staged_of xs) p (staged_of x) (mapped_get staged_of xs p x is_x)) (omega (arith, wide, lt))
          ∙ program_get x.g last 0 k k x.g.program.strands (let z : k ≡ 0 + k = omega arith in z) lt

      abbrev then_actor : Actor
      then_actor = record { due = a.due + put_off (turn_of a.notes); notes = behind_turn a.notes; outcomes = left.0; answers = h.answers }

      actor_then : actor_now x (still_told x t') k s' ≡ then_actor
      actor_then =
          ap (λ (ts : List Told). actor_now x ts k s') is_then
          ∙ ap (λ (ns : List Note). record { due = h.s.due + put_off ns; notes = notes_of k rest; outcomes = drop (length (h.s.met ++ h.met)) (outcomes_at x.outcomes k); answers = h.answers }) (sym turn_is)
          ∙ ap (λ (ns : List Note). record { due = a.due + put_off (turn_of a.notes); notes = ns; outcomes = drop (length (h.s.met ++ h.met)) (outcomes_at x.outcomes k); answers = h.answers }) (sym behind_is)
          ∙ ap (λ (os : List Outcome). record { due = a.due + put_off (turn_of a.notes); notes = behind_turn a.notes; outcomes = os; answers = h.answers }) outcomes_then

      others_then : (j : ℕ) → (j ≡ k → ⊥) → notes_of j (still_told x t') ≡ notes_of j (still_told x h.t)
      others_then j ne = ap (notes_of j) is_then ∙ notes_others j ne

      actors_then : joined (rows xs tellers) ≡ slice_set (joined (rows xs mid)) place then_actor
      actors_then =
          ap (λ (ts : List ProgramTeller). joined (rows xs ts)) h.after
          ∙ ap joined (rows_set xs mid p x t' is_x)
          ∙ ap (λ (b : List Actor). joined (slice_set (rows xs mid) p b))
          (row_set x (still_told x h.t) (still_told x t') 0 k k h.t.strands s' (let z : k ≡ 0 + k = omega arith in z) others_then ∙ ap (slice_set (row_of x h.t) k) actor_then)
          ∙ sym (joined_set (rows xs mid) p (row_of x h.t) k then_actor row_here row_wide)
          ∙ ap (λ n. slice_set (joined (rows xs mid)) (n + k) then_actor) here_offset

      pub plays : Plays (joined (programs_in xs)) detaches number (joined (rows xs mid)) es (turn_lines place w a) (joined (rows xs tellers)) ds'
      plays = record {
        i = place;
        a = a;
        w = w;
        next = record { there = there; unfinished = unfinished; least = least };
        program = program_there;
        outcomes = left.0;
        answers = h.answers;
        calls = calls_here;
        made = refl;
        after = actors_then;
      }

      pub lines_are : lines ≡ strand_lines (strands_of xs) (turn_lines place w a)
      lines_are =
          h.made
          ∙ ap (λ (ls : List Look). map (line_of h.s.due p k) (events_with_looks (looks_if h.is_last ls) h.turn)) (ap (λ (q : StrandsInWorld). q.looks) (sym same_g))
          ∙ ap (map (line_of h.s.due p k)) (sym shows_same)
          ∙ ap (λ (ns : List Note). map (line_of h.s.due p k) (events_with_looks (looks_if (nat_eq last k) x.g.looks) ns)) (sym turn_is)
          ∙ sym (lines_of xs p k h.s.due x.g.program strands_here in_program (events_with_looks (looks_if (nat_eq last k) x.g.looks) (turn_of a.notes)))
