-- In a world of strands each program's lines are one woven run.
use Rattle.std.proofs.Common.{arith, ◌≡◌, ◌<◌, ℕ, zero, suc, ◌+◌, List, [], ◌∷◌, ◌++◌, length, All, Some, None, refl, sym, ap, ◌∙◌, subst}
use Rattle.std.specs.Prelude.{map, nat_eq, slice_get}
use Rattle.std.specs.List.{AllZip}
use Rattle.std.proofs.lemmas.List.Elements.{All-head, All-tail}
use Rattle.wa_types.specs.Pausing.{save_all}
use Rattle.wa_model.specs.declared.answers.Detach.{Detach}
use Rattle.wa_model.specs.Plan.{Outcome}
use Rattle.world_model.specs.World.{Actor, Device, Program}
use Rattle.image_laws.specs.Example.{saving}
use Rattle.strand_laws.proofs.AllByTurns.{all_go_by_turns, due_zero}
use Rattle.strand_laws.proofs.WorldTurns.{Stands, before, events_tell}
use Rattle.strand_laws.specs.StrandWorld.{HeldStrands, Staged, StartsStrands, StartsStrung, StrandLine, StrandOriginal, StrandRuns, StrandsInWorld, StrungStrands, joined, last_strand, looks_if}
use Rattle.strand_laws.specs.StrandWorld.{notes_of, strand_actors, strand_programs}
use Rattle.strand_laws.specs.Strands.{Strand, StrandProgram}
use Rattle.strand_laws.specs.Weaving.{GoesByTurns, HeldProgramsTellOneRun, StrungProgramsTellOneRun, TellsOneRun, all_due, events_of_program}
use Rattle.strand_laws.specs.Woven.{Told}

-- ---- lists

same_some : {A : Type 0} (x y : A) → Some x ≡ Some y → x ≡ y
same_some x y e = cc

never : {A B : Type 0} (x : A) → None ≡ Some x → B
never x e = let no_way : ⊥ = cc in absurd no_way

get_front : {A : Type 0} (xs ys : List A) (k : ℕ) → k < length xs → slice_get (xs ++ ys) k ≡ slice_get xs k
get_front [] ys k lt = let no_way : ⊥ = omega (arith, lt) in absurd no_way
get_front (x ∷ xs) ys zero lt = refl
get_front (x ∷ xs) ys (suc k) lt = get_front xs ys k (omega (arith, lt))

get_back : {A : Type 0} (xs ys : List A) (n k : ℕ) → n ≡ length xs + k → slice_get (xs ++ ys) n ≡ slice_get ys k
get_back [] ys n k e = let z : n ≡ k = omega (arith, e) in ap (slice_get ys) z
get_back (x ∷ xs) ys zero k e = let no_way : ⊥ = omega (arith, e) in absurd no_way
get_back (x ∷ xs) ys (suc n) k e = get_back xs ys n k (omega (arith, e))

get_mapped : {A B : Type 0} (f : A → B) (xs : List A) (p : ℕ) (x : A) → slice_get xs p ≡ Some x → slice_get (map f xs) p ≡ Some (f x)
get_mapped f [] p x e = never x e
get_mapped f (y ∷ xs) zero x e = ap (λ z. Some (f z)) (same_some y x e)
get_mapped f (y ∷ xs) (suc p) x e = get_mapped f xs p x e

all_at : {A : Type 0} (P : A → Type 0) (xs : List A) (p : ℕ) (x : A) → All P xs → slice_get xs p ≡ Some x → P x
all_at P [] p x h e = never x e
all_at P (y ∷ xs) zero x h e = subst P (same_some y x e) (All-head P y xs h)
all_at P (y ∷ xs) (suc p) x h e = all_at P xs p x (All-tail P y xs h) e

record Beside {A B : Type 0} (R : A → B → Type 0) (ys : List B) (p : ℕ) (x : A) : Type 0 where
  other : B
  there : slice_get ys p ≡ Some other
  related : R x other

zip_at : {A B : Type 0} (R : A → B → Type 0) (xs : List A) (ys : List B) (p : ℕ) (x : A) → AllZip R xs ys → slice_get xs p ≡ Some x → Beside R ys p x
zip_at R [] [] p x h e = never x e
zip_at R [] (y ∷ ys) p x h e = absurd h
zip_at R (z ∷ xs) [] p x h e = absurd h
zip_at R (z ∷ xs) (y ∷ ys) zero x h e = record { other = y; there = refl; related = subst (λ w. R w y) (same_some z x e) h.0 }
zip_at R (z ∷ xs) (y ∷ ys) (suc p) x h e = let b = zip_at R xs ys p x h.1 e in record { other = b.other; there = b.there; related = b.related }

zip_mapped : {A B C : Type 0} (f : A → C) (R : A → B → Type 0) (Q : C → B → Type 0) → ((x : A) (y : B) → R x y → Q (f x) y) → (xs : List A) (ys : List B) → AllZip R xs ys → AllZip Q (map f xs) ys
zip_mapped f R Q h [] [] z = tt
zip_mapped f R Q h [] (y ∷ ys) z = absurd z
zip_mapped f R Q h (x ∷ xs) [] z = absurd z
zip_mapped f R Q h (x ∷ xs) (y ∷ ys) z = (h x y z.0, zip_mapped f R Q h xs ys z.1)

zip_weaker : {A B : Type 0} (R Q : A → B → Type 0) → ((x : A) (y : B) → R x y → Q x y) → (xs : List A) (ys : List B) → AllZip R xs ys → AllZip Q xs ys
zip_weaker R Q h [] [] z = tt
zip_weaker R Q h [] (y ∷ ys) z = absurd z
zip_weaker R Q h (x ∷ xs) [] z = absurd z
zip_weaker R Q h (x ∷ xs) (y ∷ ys) z = (h x y z.0, zip_weaker R Q h xs ys z.1)

-- ---- programs and actors in a row

-- as many as there are strands
record Laid (g : StrandsInWorld) (x : Staged) : Type 0 where
  programs : length x.programs ≡ length g.program.strands
  actors : length x.actors ≡ length g.program.strands

programs_long : (g : StrandsInWorld) (last i : ℕ) (ss : List Strand) → length (strand_programs g last i ss) ≡ length ss
programs_long g last i [] = refl
programs_long g last i (s ∷ ss) = ap suc (programs_long g last (suc i) ss)

actors_long : (g : StrandsInWorld) (ts : List Told) (i : ℕ) (oss : List (List Outcome)) → length (strand_actors g ts i oss) ≡ length oss
actors_long g ts i [] = refl
actors_long g ts i (os ∷ oss) = ap suc (actors_long g ts (suc i) oss)

laid : (story : StrandsInWorld → List (List Outcome) → List Told → Type 0) (g : StrandsInWorld) (x : Staged) → StartsStrands story g x → Laid g x
laid story g x s = record {
  programs = ap length s.programs_are ∙ programs_long g (last_strand s.told) 0 g.program.strands;
  actors = ap length s.actors_are ∙ actors_long g s.told 0 s.outcomes ∙ s.wide;
}

abbrev strands_of : List StrandsInWorld → List StrandProgram
strands_of gs = map (λ (g : StrandsInWorld). g.program) gs

row_programs : (gs : List StrandsInWorld) (xs : List Staged) → AllZip Laid gs xs → (p : ℕ) (x : Staged) → slice_get xs p ≡ Some x → (k : ℕ) → k < length x.programs
    → slice_get (joined (map (λ (y : Staged). y.programs) xs)) (before p (strands_of gs) + k) ≡ slice_get x.programs k
row_programs [] [] h p x e k lt = never x e
row_programs [] (y ∷ xs) h p x e k lt = absurd h
row_programs (g ∷ gs) [] h p x e k lt = absurd h
row_programs (g ∷ gs) (y ∷ xs) h zero x e k lt =
    let z : 0 + k ≡ k = omega arith in
    let same = same_some y x e in
    let more = joined (map (λ (w : Staged). w.programs) xs) in
    ap (slice_get (y.programs ++ more)) z ∙ get_front y.programs more k (subst (λ (w : Staged). k < length w.programs) (sym same) lt) ∙ ap (λ (w : Staged). slice_get w.programs k) same
row_programs (g ∷ gs) (y ∷ xs) h (suc p) x e k lt =
    let n = h.0.programs in
    get_back y.programs (joined (map (λ (w : Staged). w.programs) xs)) ((length g.program.strands + before p (strands_of gs)) + k) (before p (strands_of gs) + k) (omega (arith, n))
    ∙ row_programs gs xs h.1 p x e k lt

row_actors : (gs : List StrandsInWorld) (xs : List Staged) → AllZip Laid gs xs → (p : ℕ) (x : Staged) → slice_get xs p ≡ Some x → (k : ℕ) → k < length x.actors
    → slice_get (joined (map (λ (y : Staged). y.actors) xs)) (before p (strands_of gs) + k) ≡ slice_get x.actors k
row_actors [] [] h p x e k lt = never x e
row_actors [] (y ∷ xs) h p x e k lt = absurd h
row_actors (g ∷ gs) [] h p x e k lt = absurd h
row_actors (g ∷ gs) (y ∷ xs) h zero x e k lt =
    let z : 0 + k ≡ k = omega arith in
    let same = same_some y x e in
    let more = joined (map (λ (w : Staged). w.actors) xs) in
    ap (slice_get (y.actors ++ more)) z ∙ get_front y.actors more k (subst (λ (w : Staged). k < length w.actors) (sym same) lt) ∙ ap (λ (w : Staged). slice_get w.actors k) same
row_actors (g ∷ gs) (y ∷ xs) h (suc p) x e k lt =
    let n = h.0.actors in
    get_back y.actors (joined (map (λ (w : Staged). w.actors) xs)) ((length g.program.strands + before p (strands_of gs)) + k) (before p (strands_of gs) + k) (omega (arith, n))
    ∙ row_actors gs xs h.1 p x e k lt

program_looks : (g : StrandsInWorld) (last i : ℕ) (ss : List Strand) (k j : ℕ) → j ≡ i + k → (w : Program) → slice_get (strand_programs g last i ss) k ≡ Some w
    → w.looks ≡ looks_if (nat_eq last j) g.looks
program_looks g last i [] k j z w e = never w e
program_looks g last i (s ∷ ss) zero j z w e =
    let y : i ≡ j = omega (arith, z) in
    sym (ap (λ (x : Program). x.looks) (same_some _ w e)) ∙ ap (λ n. looks_if (nat_eq last n) g.looks) y
program_looks g last i (s ∷ ss) (suc k) j z w e = program_looks g last (suc i) ss k j (omega (arith, z)) w e

record Fresh (g : StrandsInWorld) (ts : List Told) (i : ℕ) (oss : List (List Outcome)) (k j : ℕ) : Type 0 where
  actor : Actor
  there : slice_get (strand_actors g ts i oss) k ≡ Some actor
  due : actor.due ≡ 0
  notes : actor.notes ≡ notes_of j ts

fresh_at : (g : StrandsInWorld) (ts : List Told) (i : ℕ) (oss : List (List Outcome)) (k j : ℕ) → j ≡ i + k → k < length oss → Fresh g ts i oss k j
fresh_at g ts i [] k j z lt = let no_way : ⊥ = omega (arith, lt) in absurd no_way
fresh_at g ts i (os ∷ oss) zero j z lt = let y : i ≡ j = omega (arith, z) in record { actor = _; there = refl; due = refl; notes = ap (λ n. notes_of n ts) y }
fresh_at g ts i (os ∷ oss) (suc k) j z lt =
    let f = fresh_at g ts (suc i) oss k j (omega (arith, z)) (omega (arith, lt)) in record { actor = f.actor; there = f.there; due = f.due; notes = f.notes }

all_due_long : (n : ℕ) → length (all_due n) ≡ n
all_due_long zero = refl
all_due_long (suc n) = ap suc (all_due_long n)

-- ---- one program of a world

module _ (gs : List StrandsInWorld) (xs : List Staged) (zip : AllZip Laid gs xs) (p : ℕ) (g : StrandsInWorld) (x : Staged) (at : slice_get gs p ≡ Some g) (there : slice_get xs p ≡ Some x)
    (story : StrandsInWorld → List (List Outcome) → List Told → Type 0) (s : StartsStrands story g x) (goes : GoesByTurns None (all_due (length g.program.strands)) s.told) where
  size : Laid g x
  size = laid story g x s

  looks_are : (k : ℕ) → k < length g.program.strands → (w : Program) → slice_get (joined (map (λ (y : Staged). y.programs) xs)) (before p (strands_of gs) + k) ≡ Some w
      → w.looks ≡ looks_if (nat_eq (last_strand s.told) k) g.looks
  looks_are k lt w e =
      let n = size.programs in
      program_looks g (last_strand s.told) 0 g.program.strands k k (omega arith) w
      (ap (λ (ps : List Program). slice_get ps k) (sym s.programs_are) ∙ sym (row_programs gs xs zip p x there k (omega (arith, lt, n))) ∙ e)

  tells_one : (detaches : List Detach) (ds ds' : List Device) (lines : List StrandLine) → StrandRuns detaches ds gs xs lines ds' → TellsOneRun story g p lines
  tells_one detaches ds ds' lines runs = record {
    outcomes = s.outcomes;
    told = s.told;
    tells = s.tells;
    picked = ap (events_of_program p) runs.made
        ∙ events_tell p (strands_of gs) g.program (get_mapped (λ (y : StrandsInWorld). y.program) gs p g at) (joined (map (λ (y : Staged). y.programs) xs)) detaches
        (last_strand s.told) g.looks looks_are 1
        (joined (map (λ (y : Staged). y.actors) xs)) ds runs.flat runs.last ds' runs.events runs.over (all_due (length g.program.strands)) s.told (all_due_long (length g.program.strands)) stand goes;
  }
    where
      stand : (k : ℕ) → k < length g.program.strands
          → Stands p (strands_of gs) g.program (get_mapped (λ (y : StrandsInWorld). y.program) gs p g at) (joined (map (λ (y : Staged). y.programs) xs)) detaches (last_strand s.told) g.looks looks_are
          (joined (map (λ (y : Staged). y.actors) xs)) (all_due (length g.program.strands)) s.told k
      stand k lt =
          let n = size.actors in
          let w = s.wide in
          let f = fresh_at g s.told 0 s.outcomes k k (omega arith) (omega (arith, lt, w)) in record {
            actor = f.actor;
            there = row_actors gs xs zip p x there k (omega (arith, lt, n)) ∙ ap (λ (acts : List Actor). slice_get acts k) s.actors_are ∙ f.there;
            due = f.due ∙ sym (due_zero (length g.program.strands) k);
            notes = f.notes;
          }

pub held_tell_one : HeldProgramsTellOneRun
held_tell_one gs detaches ds ds' lines some world p g at =
    let b = zip_at (StartsStrands HeldStrands) gs world.staged p g world.starts at in
    let s = b.related in
    tells_one gs world.staged (zip_weaker (StartsStrands HeldStrands) Laid (laid HeldStrands) gs world.staged world.starts) p g b.other at b.there HeldStrands s
    ((all_go_by_turns (saving save_all) g s.outcomes s.told (all_at (λ (y : StrandsInWorld). 0 < length y.program.strands) gs p g some at) s.wide).held s.tells) detaches ds ds' lines world.runs

pub strung_tell_one : StrungProgramsTellOneRun
strung_tell_one os detaches ds ds' lines some world p o at =
    let gs = map (λ (y : StrandOriginal). y.program) os in
    let here = get_mapped (λ (y : StrandOriginal). y.program) os p o at in
    let b = zip_at StartsStrung os world.staged p o world.starts at in
    let s = b.related in
    tells_one gs world.staged (zip_mapped (λ (y : StrandOriginal). y.program) StartsStrung Laid (λ y x h. laid
    (StrungStrands y.settings) y.program x h) os world.staged world.starts) p o.program b.other here
    b.there (StrungStrands o.settings) s
    ((all_go_by_turns o.settings o.program s.outcomes s.told (all_at (λ
    (y : StrandsInWorld). 0 < length y.program.strands) gs p o.program some here) s.wide).strung s.tells) detaches ds ds' lines world.runs
