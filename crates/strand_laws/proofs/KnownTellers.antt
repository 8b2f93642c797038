-- What holds of a program with strands, whatever it tells next.
use Rattle.std.proofs.Common.{arith, ◌≡◌, ◌⊎◌, inl, inr, ℕ, zero, suc, List, [], ◌∷◌, ◌++◌, length, Some, None, Bool, true, false, refl, sym, ap, ◌∙◌, subst, append_assoc, append-nil}
use Rattle.std.proofs.Common.{length-append, eq-eqb, eqb-true}
use Rattle.std.specs.Prelude.{map, nat_eq, slice_get, slice_set}
use Rattle.std.specs.List.{AllZip}
use Rattle.wa_model.specs.declared.answers.Detach.{Detach}
use Rattle.wa_model.specs.Blocking.{Note}
use Rattle.wa_model.specs.Outside.{AnswerLine}
use Rattle.wa_model.specs.Plan.{Outcome}
use Rattle.world_model.specs.World.{CallsMeet, Device, Program, detached}
use Rattle.world_laws.specs.Originals.{new_calls}
use Rattle.world_laws.proofs.Meeting.{calls_take}
use Rattle.strand_laws.proofs.Blocks.{none_is, set_get, set_length, the_same}
use Rattle.strand_laws.proofs.Closing.{Closes, closed_behind}
use Rattle.strand_laws.proofs.StrandTails.{calls_both, calls_by, no_notes, own_notes}
use Rattle.strand_laws.proofs.ToldStrands.{zip_get, zip_set}
use Rattle.strand_laws.proofs.ToldWorlds.{starting_dues, starting_wide}
use Rattle.strand_laws.proofs.TurnTaken.{dues_of, turn_taken}
use Rattle.strand_laws.specs.StrandWorld.{StrandLine, StrandsInWorld, looks_if, strand_program}
use Rattle.strand_laws.specs.Strands.{Strand, outcomes_at, strand_at}
use Rattle.strand_laws.specs.ToldStrands.{EndsOnce, ProgramTeller, StrandTeller, TellsStrands, having_told, met_and, starting, starting_strands, told_on}
use Rattle.strand_laws.specs.Weaving.{Dues, GoesByTurns, all_due}
use Rattle.strand_laws.specs.Woven.{Told, told_by}

-- ---- outcomes that were met

pub met_exact : (ss : List StrandTeller) (k : ℕ) (s : StrandTeller) → slice_get ss k ≡ Some s → outcomes_at (met_and ss []) k ≡ s.met
met_exact [] k s e = none_is s e
met_exact (t ∷ ss) zero s e = ap (λ (u : StrandTeller). u.met) (the_same t s e)
met_exact (t ∷ ss) (suc k) s e = met_exact ss k s e

pub met_others : (ss : List StrandTeller) (k j : ℕ) (s : StrandTeller) → (j ≡ k → ⊥) → outcomes_at (met_and (slice_set ss k s) []) j ≡ outcomes_at (met_and ss []) j
met_others [] k j s ne = refl
met_others (t ∷ ss) zero zero s ne = absurd (ne refl)
met_others (t ∷ ss) zero (suc j) s ne = refl
met_others (t ∷ ss) (suc k) zero s ne = refl
met_others (t ∷ ss) (suc k) (suc j) s ne = met_others ss k j s (λ e. ne (ap suc e))

pub same_or : (j k : ℕ) → (j ≡ k) ⊎ (j ≡ k → ⊥)
same_or j k = by_eq (nat_eq j k) refl
  where
    differs : true ≡ false → ⊥
    differs e = cc

    by_eq : (b : Bool) → nat_eq j k ≡ b → (j ≡ k) ⊎ (j ≡ k → ⊥)
    by_eq true e = inl (eqb-true j k e)
    by_eq false e = inr (λ q. differs (sym (eq-eqb j k q) ∙ e))

-- ---- programs

-- What is known of a program: its strands, what any more that they tell keeps, and that each call took an outcome.
pub record Known (g : StrandsInWorld) (t : ProgramTeller) : Type 0 where
  pub size : length t.strands ≡ length g.program.strands
  pub turns : (rest : List Told) → GoesByTurns None (all_due (length g.program.strands)) (t.told ++ rest) → GoesByTurns None (dues_of t.strands) rest
  pub closes : (rest : List Told) → Closes None (t.told ++ rest) → Closes None rest
  pub counts : (j : ℕ) → calls_by j t.told ≡ length (outcomes_at (met_and t.strands []) j)

start_none : (g : StrandsInWorld) (i : ℕ) (ss : List Strand) (j : ℕ) → 0 ≡ length (outcomes_at (met_and (starting_strands g i ss) []) j)
start_none g i [] j = refl
start_none g i (s ∷ ss) zero = refl
start_none g i (s ∷ ss) (suc j) = start_none g (suc i) ss j

known_start : (g : StrandsInWorld) → Known g (starting g)
known_start g = record {
  size = starting_wide g 0 g.program.strands;
  turns = λ rest h. subst (λ (v : Dues). GoesByTurns None v rest) (sym (starting_dues g 0 g.program.strands)) h;
  closes = λ rest h. h;
  counts = start_none g 0 g.program.strands;
}

pub known_on : (g : StrandsInWorld) (t : ProgramTeller) (k : ℕ) (s : StrandTeller) (turn : List Note) (is_last : Bool) (met : List Outcome) (answers : List AnswerLine) (w : Program) (ds ds' : List Device)
    → Known g t → slice_get t.strands k ≡ Some s → EndsOnce turn → CallsMeet w turn met s.answers ds [] answers ds' → Known g (told_on t k (having_told s turn met answers) turn is_last)
known_on g t k s turn is_last met answers w ds ds' known there whole calls = record {
  size = set_length t.strands k s' ∙ known.size;
  turns = λ rest h. turn_taken k rest t.strands s turn met answers there whole
      (known.turns (told_by k turn ++ rest) (subst (GoesByTurns None (all_due (length g.program.strands))) (append_assoc t.told (told_by k turn) rest) h));
  closes = λ rest h. closed_behind k rest turn whole None (known.closes (told_by k turn ++ rest) (subst (Closes None) (append_assoc t.told (told_by k turn) rest) h));
  counts = λ j. count j (same_or j k);
}
  where
    s' : StrandTeller
    s' = having_told s turn met answers

    taken : length met ≡ new_calls turn
    taken =
        let h = calls_take w turn met s.answers ds [] answers ds' calls in
        let a = ap length (h.1 ∙ append-nil h.0) in
        let b = h.2 in omega (arith, a, b)

    count : (j : ℕ) → (j ≡ k) ⊎ (j ≡ k → ⊥) → calls_by j (t.told ++ told_by k turn) ≡ length (outcomes_at (met_and (slice_set t.strands k s') []) j)
    count j (inl e) =
        let a = calls_both k t.told (told_by k turn) in
        let b : calls_by k (told_by k turn) ≡ new_calls turn = ap new_calls (own_notes k turn) in
        let c = known.counts k in
        let d = ap length (met_exact t.strands k s there) in
        let f = ap length (met_exact (slice_set t.strands k s') k s' (set_get t.strands k s' s there)) in
        let l = length-append s.met met in
        let m = taken in
        subst (λ i. calls_by i (t.told ++ told_by k turn) ≡ length (outcomes_at (met_and (slice_set t.strands k s') []) i)) (sym e) (omega (arith, a, b, c, d, f, l, m))
    count j (inr ne) =
        let a = calls_both j t.told (told_by k turn) in
        let b : calls_by j (told_by k turn) ≡ 0 = ap new_calls (no_notes j k turn (λ q. ne (sym q))) in
        let c = known.counts j in
        let d = ap length (met_others t.strands k j s' ne) in
        omega (arith, a, b, c, d)

starts_known : (gs : List StrandsInWorld) → AllZip Known gs (map starting gs)
starts_known [] = tt
starts_known (g ∷ gs) = (known_start g, starts_known gs)

pub known_told : (gs : List StrandsInWorld) (detaches : List Detach) (ds : List Device) (count : ℕ) (lines : List StrandLine) (tellers : List ProgramTeller) (ds' : List Device)
    → TellsStrands gs detaches ds count lines tellers ds' → AllZip Known gs tellers
known_told gs detaches ds zero lines tellers ds' h = subst (AllZip Known gs) (sym h.1) (starts_known gs)
known_told gs detaches ds (suc count) lines tellers ds' h =
    let on = known_told gs detaches ds count h.0 h.2 h.3 h.4 in
    let turn = h.5 in
    let known = zip_get Known gs h.2 turn.program turn.g turn.t on turn.is_program turn.there in
    subst (AllZip Known gs) (sym turn.after)
    (zip_set Known gs h.2 turn.program turn.g (told_on turn.t turn.strand (having_told turn.s turn.turn turn.met turn.answers) turn.turn turn.is_last) on turn.is_program
    (known_on turn.g turn.t turn.strand turn.s turn.turn turn.is_last turn.met turn.answers (strand_program turn.g (looks_if turn.is_last turn.g.looks) turn.strand (strand_at turn.g.program turn.strand))
    (detached (suc count) detaches h.3) ds' known turn.strand_there turn.whole turn.calls))
