-- Three strands of a small module take turns.
use Rattle.std.proofs.Common.{◌≡◌, ℕ, zero, suc, ◌<◌, ◌^◌, List, [], ◌∷◌, length, All, Option, Some, None, Bool, true, false, refl, arith, subst, ⊎_elim}
use Rattle.std.specs.Prelude.{◌&&◌}
use Rattle.std.proofs.lemmas.Bool.{cases_lt}
use Rattle.std.proofs.lemmas.List.Elements.{All-cons, All-nil}
use Rattle.wa_types.specs.declared.values.Value.TheVariants as V
use Rattle.wa_types.specs.Base.{Base}
use Rattle.wa_types.specs.Counts.{depth_of}
use Rattle.wa_types.specs.Frames.{results_in}
use Rattle.wa_types.specs.Liveness.{behind_calls, live}
use Rattle.wa_types.specs.Pausing.{Policy, calls_of, save_all, save_live}
use Rattle.wa_types.specs.Points.{call_points, points}
use Rattle.wa_types.specs.Pruned.{pruned}
use Rattle.wa_types.specs.Sizes.{value_fits}
use Rattle.wa_model.specs.declared.answers.Area.{Area}
use Rattle.wa_model.specs.declared.answers.Said.TheVariants as S
use Rattle.wa_model.specs.Behaves.{IsPrefix}
use Rattle.wa_model.specs.Blocking.{State, begins, between, halts, runs}
use Rattle.wa_model.specs.Plan.{AreaFits, EntryFits, Fits, Outcome, OutcomeFits, PokeFits, given}
use Rattle.wa_model.specs.Store.{Range}
use Rattle.wa_model.specs.Untouched.{IsCalm, StaysOff, next_ranges}
use Rattle.wa_model.proofs.StayingOff.{nothing_off}
use Rattle.image_laws.specs.Example.{adding, may_pause, sample, saving}
use Rattle.image_laws.proofs.ExampleModule.{can_there, formed_there, free_there, no_run}
use Rattle.strand_laws.proofs.Emitted.{strands_of_emitted}
use Rattle.strand_laws.proofs.Numbered.{pauses_at_numbers}
use Rattle.strand_laws.specs.Example.{ThreeTakeTurns, notes_of_three, outcomes_of_three, said_after, strand_of, three_strands, told_by_emitted, told_of_three, used_by}
use Rattle.strand_laws.specs.Strands.{AreApart, BlockingStrands, IsCalmAt, IsCalmNow, Strand, StrandsBehaveOn, StrandsCompared, StrandsNumbered}
use Rattle.strand_laws.specs.Strands.{StrandsUntouched, Strung, events_told, on, plan_of, strand_at, waits}
use Rattle.strand_laws.specs.Woven.{Ready, standing_now}

pub turns_there : (policy : Policy) → events_told (notes_of_three policy) ≡ told_of_three (used_by policy)
unfolding Base pruned points call_points live behind_calls depth_of results_in calls_of
turns_there save_all = refl
turns_there save_live = refl

-- ---- no move reaches a byte

abbrev IsNil : List Range → Bool
IsNil [] = true
IsNil (x ∷ xs) = false

abbrev IsIdle : State → Bool
IsIdle (runs task c l) = IsNil (next_ranges c)
IsIdle (between s l) = true
IsIdle (begins x s l) = true
IsIdle (halts s) = true

abbrev IsIdleAt : Strung → Bool
IsIdleAt (on t) = IsIdle t
IsIdleAt (waits task c a l) = true

abbrev IsIdleNow : Option (Ready Strung) → Bool
IsIdleNow None = true
IsIdleNow (Some r) = IsIdleAt r.at

false_not_true : false ≡ true → ⊥
false_not_true e = cc

none_off : (area : Area) (size : ℕ) (xs : List Range) → IsNil xs ≡ true → StaysOff area size xs
none_off area size [] e = nothing_off area size
none_off area size (x ∷ xs) e = absurd (false_not_true e)

calm_state : (area : Area) (t : State) → IsIdle t ≡ true → IsCalm area t
calm_state area (between s l) e = tt
calm_state area (begins x s l) e = tt
calm_state area (runs task c l) e = none_off area (length c.store.memory) (next_ranges c) e
calm_state area (halts s) e = tt

calm_at : (ss : List Strand) (x : Strung) → IsIdleAt x ≡ true → IsCalmAt ss x
calm_at ss (on t) e = λ k d lt. calm_state _ t e
calm_at ss (waits task c a l) e = tt

calm_now : (ss : List Strand) (o : Option (Ready Strung)) → IsIdleNow o ≡ true → IsCalmNow ss o
calm_now ss None e = tt
calm_now ss (Some r) e = calm_at ss r.at e

abbrev idle_at : Policy → ℕ → Bool
idle_at policy j = IsIdleNow (standing_now (BlockingStrands (saving policy) three_strands outcomes_of_three j).last)

abbrev idle_below : Policy → ℕ → Bool
idle_below policy zero = true
idle_below policy (suc n) = idle_at policy n && idle_below policy n

both_hold : (a b : Bool) → (a && b) ≡ true → (a ≡ true) × (b ≡ true)
both_hold true b e = (refl, e)
both_hold false b e = absurd (false_not_true e)

one_below : (policy : Policy) (n : ℕ) → idle_below policy n ≡ true → (j : ℕ) → j < n → idle_at policy j ≡ true
one_below policy zero e j lt = let no_way : ⊥ = omega arith in absurd no_way
one_below policy (suc n) e j lt =
    let h = both_hold (idle_at policy n) (idle_below policy n) e in
    ⊎_elim (λ less. one_below policy n h.1 j less) (λ ge. let z : n ≡ j = omega arith in subst (λ i. idle_at policy i ≡ true) z h.0) (cases_lt j n)

all_idle : (policy : Policy) → idle_below policy 40 ≡ true
unfolding Base pruned points call_points live behind_calls depth_of results_in calls_of
all_idle save_all = refl
all_idle save_live = refl

untouched : (policy : Policy) → StrandsUntouched (saving policy) three_strands outcomes_of_three 40
untouched policy j lt = calm_now three_strands.strands _ (one_below policy 40 (all_idle policy) j lt)

-- ---- what is compared

fits_there : (parameter at : ℕ) → parameter < 2 ^ 32 → AreaFits (Base sample) (record { at = at; len = 64 }) → Fits sample (plan_of three_strands (strand_of parameter at))
unfolding Base
fits_there parameter at small area = record {
  globals = record { typed = refl; ranges = All-nil value_fits };
  entries = All-cons (EntryFits sample) (record { func = 1; args = V.I32 parameter ∷ [] }) [] (record {
    defined = (adding, refl);
    exported = (_, (0, omega arith, refl), record { space = refl; index = refl; name = no_run });
    args = record { typed = refl; ranges = All-cons value_fits (V.I32 parameter) [] small (All-nil value_fits) };
  }) (All-nil (EntryFits sample));
  area = area;
}

abbrev FitsThere : Strand → Type 0
FitsThere x = Fits sample (plan_of three_strands x)

all_fit : All FitsThere three_strands.strands
unfolding Base
all_fit =
    All-cons FitsThere (strand_of 7 1024) (strand_of 9 1088 ∷ strand_of 1 1152 ∷ []) (fits_there 7 1024 (omega arith) (record { aligned = refl; least = omega arith; inside = omega arith }))
    (All-cons FitsThere (strand_of 9 1088) (strand_of 1 1152 ∷ []) (fits_there 9 1088 (omega arith) (record { aligned = refl; least = omega arith; inside = omega arith }))
    (All-cons FitsThere (strand_of 1 1152) [] (fits_there 1 1152 (omega arith) (record { aligned = refl; least = omega arith; inside = omega arith })) (All-nil FitsThere)))

apart_there : (i j : ℕ) → i < 3 → j < 3 → (i ≡ j → ⊥) → AreApart (strand_at three_strands i).area (strand_at three_strands j).area
apart_there zero zero li lj ne = absurd (ne refl)
apart_there zero (suc zero) li lj ne = refl
apart_there zero (suc (suc zero)) li lj ne = refl
apart_there (suc zero) zero li lj ne = refl
apart_there (suc zero) (suc zero) li lj ne = absurd (ne refl)
apart_there (suc zero) (suc (suc zero)) li lj ne = refl
apart_there (suc (suc zero)) zero li lj ne = refl
apart_there (suc (suc zero)) (suc zero) li lj ne = refl
apart_there (suc (suc zero)) (suc (suc zero)) li lj ne = absurd (ne refl)
apart_there (suc (suc (suc i))) j li lj ne = let no_way : ⊥ = omega arith in absurd no_way
apart_there i (suc (suc (suc j))) li lj ne = let no_way : ⊥ = omega arith in absurd no_way

abbrev OutFits : List Outcome → Type 0
OutFits os = All OutcomeFits os

one_fits : (o : Outcome) → OutcomeFits o → OutFits (o ∷ [])
one_fits o h = All-cons OutcomeFits o [] h (All-nil OutcomeFits)

abbrev answered_42 : List Outcome
answered_42 = said_after 5 (S.Value (Some (V.I32 42)))

abbrev answered_1 : List Outcome
answered_1 = said_after 3 (S.Value (Some (V.I32 1)))

abbrev trapped : List Outcome
trapped = said_after 4 S.Trap

pub compared_there : (policy : Policy) → StrandsCompared (saving policy) three_strands outcomes_of_three 40
compared_there policy = record {
  some = omega arith;
  fits = all_fit;
  listed = refl;
  apart = apart_there;
  wide = refl;
  outcomes = All-cons OutFits answered_42 (answered_1 ∷ trapped ∷ []) (one_fits (given (record { said = S.Value (Some (V.I32 42)); pokes = []; ticks = 5 })) (record { said = omega arith; pokes = All-nil PokeFits; ticks = omega arith }))
      (All-cons OutFits answered_1 (trapped ∷ []) (one_fits (given (record { said = S.Value (Some (V.I32 1)); pokes = []; ticks = 3 })) (record { said = omega arith; pokes = All-nil PokeFits; ticks = omega arith }))
      (All-cons OutFits trapped [] (one_fits (given (record { said = S.Trap; pokes = []; ticks = 4 })) (record { said = tt; pokes = All-nil PokeFits; ticks = omega arith })) (All-nil OutFits)));
  untouched = untouched policy;
}

numbered_there : (policy : Policy) → StrandsNumbered (saving policy) may_pause three_strands outcomes_of_three 40
numbered_there policy = pauses_at_numbers (saving policy) may_pause three_strands outcomes_of_three 40 (can_there policy).tells refl refl

pub three_take_turns : ThreeTakeTurns
three_take_turns policy q em =
    let b : StrandsBehaveOn (saving policy) may_pause three_strands q outcomes_of_three 40 =
    strands_of_emitted sample (saving policy) may_pause q (can_there policy) free_there em formed_there may_pause (can_there policy).tells three_strands refl outcomes_of_three 40
    (compared_there policy) (numbered_there policy) in
    record {
      compared = compared_there policy;
      numbered = numbered_there policy;
      original = turns_there policy;
      emitted = subst (λ es. IsPrefix es (told_by_emitted policy q)) (turns_there policy) b.reaches;
    }
