-- What a program's strands tell in a world goes by turns from their start on.
use Rattle.std.proofs.Common.{arith, ◌≡◌, ◌<◌, ◌≤◌, inr, ℕ, zero, suc, List, [], ◌∷◌, ◌++◌, length, Option, Some, None, true, refl, sym, ap, ◌∙◌, subst, append-nil}
use Rattle.std.specs.Prelude.{drop, map, slice_get, take}
use Rattle.wa_types.specs.Base.{Base}
use Rattle.wa_types.specs.Pausing.{Settings}
use Rattle.wa_model.specs.Blocking.{Left, Note, all_left, begun, between, no_store, note}
use Rattle.wa_model.specs.Instantiation.{opening}
use Rattle.wa_model.specs.Machine.{Ran}
use Rattle.wa_model.specs.Outside.{ended}
use Rattle.wa_model.specs.Plan.{Outcome}
use Rattle.wa_model.specs.Protocol.{Held, exports_of, free, held_begun, store_held}
use Rattle.wa_model.specs.declared.events.End.TheVariants.{StepsSpent}
use Rattle.strand_laws.proofs.ByTurns.{At, AtOf, run_goes, shadow, standing_there, to_none}
use Rattle.strand_laws.proofs.TurnEnds.{begun_chunk, held_begun_chunk, held_wakes_chunk, protocol_chunk, strung_chunk, strung_wakes_chunk}
use Rattle.strand_laws.specs.StrandWorld.{HeldStrands, StrandsInWorld, StrungStrands, spent, strand_next, strand_unless_over, whole}
use Rattle.strand_laws.specs.Strands.{BlockingStrands, ProtocolStrands, Strand, StrandProgram, Strung, beginnings, first_outcomes, held_loom, on, plan_of, space_of, strand_at, strung_from}
use Rattle.strand_laws.specs.Strands.{strung_loom}
use Rattle.strand_laws.specs.Weaving.{AllGoByTurns, Dues, GoesByTurns, HasTurn, IsDueFirst, all_due, due_in, dues_behind, now_behind}
use Rattle.strand_laws.specs.Woven.{Ready, Thread, Told, Woven, standing_now}

-- ---- all strands are due at 0

abbrev fresh : {S : Type 0} → List S → List (Thread S)
fresh ss = map (λ (s : _). record { due = 0; at = Some s }) ss

shadow_fresh : {S : Type 0} (ss : List S) → shadow (map (λ (s : S). record { due = 0; at = Some s }) ss) ≡ all_due (length ss)
shadow_fresh [] = refl
shadow_fresh (s ∷ ss) = ap (λ (v : Dues). record { due = 0; at = Some tt } ∷ v) (shadow_fresh ss)

pub due_zero : (n j : ℕ) → due_in (slice_get (all_due n) j) ≡ 0
due_zero zero j = refl
due_zero (suc n) zero = refl
due_zero (suc n) (suc j) = due_zero n j

zero_first : (n : ℕ) → IsDueFirst (all_due (suc n)) 0
zero_first n = record { ready = refl; least = λ j h. inr (sym (due_zero (suc n) j), omega arith) }

begin_all : {S : Type 0} (begin : Left → S) (g : StrandProgram) (ss : List Strand) (oss : List (List Outcome)) → length oss ≡ length ss → length (beginnings begin g ss oss) ≡ length ss
begin_all begin g [] oss e = refl
begin_all begin g (s ∷ ss) [] e = let no_way : ⊥ = omega (arith, e) in absurd no_way
begin_all begin g (s ∷ ss) (os ∷ oss) e = ap suc (begin_all begin g ss oss (omega (arith, e)))

less_one : {A B : Type 0} (xs : List A) (ys : List B) → length xs ≡ length ys → length (drop 1 xs) ≡ length (drop 1 ys)
less_one [] [] e = refl
less_one (x ∷ xs) (y ∷ ys) e = omega (arith, e)
less_one [] (y ∷ ys) e = let no_way : ⊥ = omega (arith, e) in absurd no_way
less_one (x ∷ xs) [] e = let no_way : ⊥ = omega (arith, e) in absurd no_way

but_one : {A : Type 0} (xs : List A) → 0 < length xs → suc (length (drop 1 xs)) ≡ length xs
but_one [] h = let no_way : ⊥ = omega (arith, h) in absurd no_way
but_one (x ∷ xs) h = refl

-- the strands of a program, of which the first stands here
strands_due : {S : Type 0} (begin : Left → S) (g : StrandProgram) (oss : List (List Outcome)) (s : S) → 0 < length g.strands → length oss ≡ length g.strands
    → shadow (map (λ (x : S). record { due = 0; at = Some x }) (s ∷ beginnings begin g (drop 1 g.strands) (drop 1 oss))) ≡ all_due (length g.strands)
strands_due begin g oss s some wide =
    shadow_fresh (s ∷ beginnings begin g (drop 1 g.strands) (drop 1 oss))
    ∙ ap (λ n. all_due (suc n)) (begin_all begin g (drop 1 g.strands) (drop 1 oss) (less_one oss g.strands wide))
    ∙ ap all_due (but_one g.strands some)

first_of_all : (n : ℕ) → 0 < n → IsDueFirst (all_due n) 0
first_of_all zero h = let no_way : ⊥ = omega (arith, h) in absurd no_way
first_of_all (suc n) h = zero_first n

-- ---- what is told behind a run

one_told : {S : Type 0} (w : Woven S) (r : Ready S) (x : Note) → standing_now w ≡ Some r → At w (record { strand = r.strand; note = x } ∷ [])
one_told {S} w r x e =
    let z : w.now ≡ r.strand = sym (standing_there w.threads w.now w.now r e).2 in
    subst (λ (o : Option (Ready S)). AtOf w o (record { strand = r.strand; note = x } ∷ [])) (sym e) (z, tt)

none_told : {S : Type 0} (w : Woven S) → At w []
none_told {S} w = by_standing (standing_now w)
  where
    by_standing : (o : Option (Ready S)) → AtOf w o []
    by_standing None = refl
    by_standing (Some r) = tt

-- ---- under the protocol

pub held_go : (g : StrandsInWorld) (oss : List (List Outcome)) (ts : List Told) → 0 < length g.program.strands → length oss ≡ length g.program.strands → HeldStrands g oss ts
    → GoesByTurns None (all_due (length g.program.strands)) ts
held_go g oss ts some wide e =
    subst (GoesByTurns None (all_due (length g.program.strands))) (sym e)
    (to_none 0 (all_due (length g.program.strands)) _ (first_of_all (length g.program.strands) some) (subst (λ v. GoesByTurns (Some 0) v (r.events ++ tail)) due goes))
  where
    p : StrandProgram
    p = g.program

    b : Ran Held Note
    b = held_begun p.source.start (all_left (plan_of p (strand_at p 0)) (first_outcomes oss)) (opening p.source p.globals)

    others : List Held
    others = beginnings (free no_store) p (drop 1 p.strands) (drop 1 oss)

    threads : List (Thread Held)
    threads = map (λ (x : Held). record { due = 0; at = Some x }) (b.last ∷ others)

    due : shadow threads ≡ all_due (length p.strands)
    due = strands_due (free no_store) p oss b.last some wide

    r : Ran (Woven Held) Told
    r = ProtocolStrands p oss g.steps

    tail : List Told
    tail = strand_unless_over g.steps (standing_now r.last)

    told_behind : (o : Option (Ready Held)) → standing_now r.last ≡ o → At r.last (strand_unless_over g.steps o)
    told_behind None q = none_told r.last
    told_behind (Some x) q = one_told r.last x (note (ended (StepsSpent g.steps)) (store_held x.at)) q

    goes : GoesByTurns (Some 0) (shadow threads) (r.events ++ tail)
    goes =
        run_goes (held_loom p) (λ i h. protocol_chunk p.source (exports_of p.source) (plan_of p (strand_at p i)) h) held_wakes_chunk g.steps true 0 0 b.events b.last threads (omega arith)
        (record { due = refl; ready = refl }) (held_begun_chunk p.source.start (all_left (plan_of p (strand_at p 0)) (first_outcomes oss)) (opening p.source p.globals)) tail
        (told_behind (standing_now r.last) refl)

-- ---- with blocking imports

-- the strand that goes on tells this
abbrev told_on : Note → Option (Ready Strung) → List Told
told_on x None = []
told_on x (Some r) = record { strand = r.strand; note = x } ∷ []

none_next : {A : Type 0} (k : ℕ) → None ≡ Some k → A
none_next k e = let no_way : ⊥ = cc in absurd no_way

some_next : (a k : ℕ) → Some a ≡ Some k → a ≡ k
some_next a k e = cc

-- what is told up to a place, and then an end of the strand whose note would be next
cut : (now : Option ℕ) (v : Dues) (xs : List Told) (o : Option (Ready Strung)) (x : Note) (j k : ℕ) → j ≤ length xs → strand_next (slice_get xs j) o ≡ Some k
    → GoesByTurns now v (xs ++ told_on x o) → GoesByTurns now v (take j xs ++ record { strand = k; note = x } ∷ [])
cut now v [] None x zero k le e g = none_next k e
cut now v [] (Some r) x zero k le e g = (subst (HasTurn now v) (some_next r.strand k e) g.0, tt)
cut now v [] o x (suc j) k le e g = let no_way : ⊥ = omega (arith, le) in absurd no_way
cut now v (t ∷ xs) o x zero k le e g = (subst (HasTurn now v) (some_next t.strand k e) g.0, tt)
cut now v (t ∷ xs) o x (suc j) k le e g =
    (g.0, cut (now_behind t.strand t.note.event) (dues_behind t.strand t.note.event v) xs o x j k (omega (arith, le)) e g.1)

module _ (s : Settings) (g : StrandsInWorld) (oss : List (List Outcome)) (some : 0 < length g.program.strands) (wide : length oss ≡ length g.program.strands) where
  abbrev p : StrandProgram
  p = g.program

  abbrev left : Left
  left = all_left (plan_of p (strand_at p 0)) (first_outcomes oss)

  abbrev begins_at : Ran Strung Note
  begins_at = strung_from (begun (Base p.source).start left (opening (Base p.source) p.globals))

  abbrev threads : List (Thread Strung)
  threads = map (λ (x : Strung). record { due = 0; at = Some x }) (begins_at.last ∷ beginnings (λ l. on (between no_store l)) p (drop 1 p.strands) (drop 1 oss))

  abbrev ran : Ran (Woven Strung) Told
  ran = BlockingStrands s p oss g.steps

  told_goes : (tail : List Told) → At ran.last tail → GoesByTurns None (all_due (length p.strands)) (ran.events ++ tail)
  told_goes tail h =
      to_none 0 (all_due (length p.strands)) (ran.events ++ tail) (first_of_all (length p.strands) some)
      (subst (λ v. GoesByTurns (Some 0) v (ran.events ++ tail)) (strands_due (λ l. on (between no_store l)) p oss begins_at.last some wide)
      (run_goes (strung_loom s p) (λ i x. strung_chunk (Base p.source) (plan_of p (strand_at p i)) (space_of s p.source (strand_at p i)) x) strung_wakes_chunk g.steps true 0 0 begins_at.events
      begins_at.last threads (omega arith) (record { due = refl; ready = refl }) (begun_chunk (Base p.source).start left (opening (Base p.source) p.globals)) tail h))

  behind : (x : Note) (o : Option (Ready Strung)) → standing_now ran.last ≡ o → At ran.last (told_on x o)
  behind x None q = none_told ran.last
  behind x (Some r) q = one_told ran.last r x q

  strung_go : (ts : List Told) → StrungStrands s g oss ts → GoesByTurns None (all_due (length p.strands)) ts
  strung_go ts (whole _ e finished) =
      subst (GoesByTurns None (all_due (length p.strands))) (append-nil ran.events ∙ sym e) (told_goes [] (none_told ran.last))
  strung_go ts (spent j k before _ at is le next certain moment e) =
      let x = note (ended (StepsSpent g.steps)) at in
      let c : GoesByTurns None (all_due (length p.strands)) (take j ran.events ++ record { strand = k; note = x } ∷ []) =
      cut None (all_due (length p.strands)) ran.events (standing_now ran.last) x j k le next (told_goes (told_on x (standing_now ran.last)) (behind x (standing_now ran.last) refl)) in
      subst (GoesByTurns None (all_due (length p.strands))) (ap (λ (ys : List Told). ys ++ record { strand = k; note = x } ∷ []) (sym is) ∙ sym e) c

pub all_go_by_turns : AllGoByTurns
all_go_by_turns s g oss ts some wide = record { held = held_go g oss ts some wide; strung = strung_go s g oss some wide ts }
