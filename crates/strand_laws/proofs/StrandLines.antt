-- The worlds of two strands have their lines.
use Rattle.std.proofs.Common.{arith, ◌≡◌, ℕ, List, [], ◌∷◌, ◌++◌, length, Some, refl, ap, sym, ◌∙◌, ◌+◌}
use Rattle.std.specs.Prelude.{nat_eq}
use Rattle.std.proofs.lemmas.List.Elements.{All-nil, All-cons}
use Rattle.wa_types.specs.declared.values.Value.TheVariants as V
use Rattle.wa_model.specs.declared.answers.Said.TheVariants as S
use Rattle.wa_types.specs.Base.{Base}
use Rattle.wa_types.specs.Pruned.{pruned}
use Rattle.wa_types.specs.Pausing.{calls_of, save_all}
use Rattle.wa_types.specs.Points.{points}
use Rattle.wa_model.specs.Outside.{Event, returned}
use Rattle.wa_model.specs.Plan.{Outcome, given}
use Rattle.world_model.specs.World.{Actor, IsOver, Program, an_event, at_start, no_event, turn_lines}
use Rattle.image_laws.specs.Example.{saving}
use Rattle.strand_laws.specs.StrandWorld.{Staged, StrandOriginal, StrandsInWorld, answers_of, last_strand, looks_if, notes_of, strand_actors, strand_programs, whole}
use Rattle.strand_laws.specs.Strands.{BlockingStrands, Strand, StrandEvent, StrandProgram, plan_of, strand_at}
use Rattle.strand_laws.specs.WorldExample.{DividingTellsItsLines, NarrowTellsItsLines, StrandReadings, SummingTellsItsLines, told_by_two, told_of_summing, alone_in_world, answers_with}
use Rattle.strand_laws.specs.WorldExample.{dividing_strands, gives_number, narrow_strands, summing_strands}
use Rattle.strand_laws.specs.Woven.{Told}
use Rattle.strand_laws.proofs.TwoActors.{first_next, gone_on, one_turn, second_next}

abbrev told_of : StrandProgram → (one other : List Outcome) → List Told
told_of g one other = (BlockingStrands (saving save_all) g (one ∷ other ∷ []) 100).events

abbrev one_given : (number ticks : ℕ) → Outcome
one_given n ticks = given (record { said = S.Value (Some (V.I32 n)); pokes = []; ticks = ticks })

-- the strands as programs and actors
abbrev staged_of : StrandsInWorld → (one other : List Outcome) → List Told → Staged
staged_of g one other ts = record { programs = strand_programs g (last_strand ts) 0 g.program.strands; actors = strand_actors g ts 0 (one ∷ other ∷ []) }

abbrev program_of : StrandsInWorld → List Told → ℕ → Strand → Program
program_of g ts i s =
    record {
      source = g.program.source;
      plan = plan_of g.program s;
      steps = g.steps;
      answers = answers_of g i;
      binds = g.binds;
      looks = looks_if (nat_eq (last_strand ts) i) g.looks;
      origin = at_start;
    }

abbrev actor_of : StrandsInWorld → List Told → ℕ → List Outcome → Actor
actor_of g ts i os = record { due = 0; notes = notes_of i ts; outcomes = os; answers = answers_of g i }

abbrev EndsNow : Actor → Type 0
EndsNow a = a.notes ≡ []

both_over : (a b : Actor) → EndsNow a → EndsNow b → IsOver (a ∷ b ∷ [])
both_over a b x y = All-cons EndsNow a (b ∷ []) x (All-cons EndsNow b [] y (All-nil EndsNow))

-- ---- a store that all strands share

abbrev summing : StrandOriginal
summing = alone_in_world summing_strands (answers_with 10 2) (answers_with 100 1)

abbrev summing_told : List Told
summing_told = told_of summing_strands (gives_number 10 2) (gives_number 100 1)

abbrev summing_staged : Staged
summing_staged = staged_of summing.program (gives_number 10 2) (gives_number 100 1) summing_told

abbrev summing_first : Program
summing_first = program_of summing.program summing_told 0 (strand_at summing_strands 0)

abbrev summing_second : Program
summing_second = program_of summing.program summing_told 1 (strand_at summing_strands 1)

abbrev summing_a0 : Actor
summing_a0 = actor_of summing.program summing_told 0 (gives_number 10 2)

abbrev summing_b0 : Actor
summing_b0 = actor_of summing.program summing_told 1 (gives_number 100 1)

abbrev summing_a1 : Actor
summing_a1 = gone_on summing_a0 [] []

abbrev summing_b1 : Actor
summing_b1 = gone_on summing_b0 [] []

abbrev summing_b2 : Actor
summing_b2 = gone_on summing_b1 [] []

abbrev summing_a2 : Actor
summing_a2 = gone_on summing_a1 [] []

pub summing_tells : SummingTellsItsLines
unfolding pruned calls_of points Base
summing_tells = record {
  staged = summing_staged ∷ [];
  starts = (
    record {
      outcomes = gives_number 10 2 ∷ gives_number 100 1 ∷ [];
      told = summing_told;
      wide = refl;
      tells = whole summing_told refl refl;
      programs_are = refl;
      actors_are = refl;
    },
    tt,
  );
  runs = record {
    flat = turn_lines 0 summing_first summing_a0 ++ (turn_lines 1 summing_second summing_b0 ++ (turn_lines 1 summing_second summing_b1 ++ (turn_lines 0 summing_first summing_a1 ++ ([]))));
    last = summing_a2 ∷ summing_b2 ∷ [];
    events = an_event (one_turn summing_staged.programs 1 0 (summing_a0 ∷ summing_b0 ∷ []) summing_a0 summing_first [] [] (first_next summing_a0 summing_b0 (omega arith) (λ h. omega
        (arith, h))) refl (one_given 10 2, [], [], [], refl, ((refl, refl), refl), (refl, refl, refl)))
        (an_event (one_turn summing_staged.programs 2 1 (summing_a1 ∷ summing_b0 ∷ []) summing_b0 summing_second [] [] (second_next summing_a1 summing_b0 (omega arith) (λ h. omega
        (arith, h))) refl (one_given 100 1, [], [], [], refl, ((refl, refl), refl), (refl, refl, refl)))
        (an_event (one_turn summing_staged.programs 3 1 (summing_a1 ∷ summing_b1 ∷ []) summing_b1 summing_second [] [] (second_next summing_a1 summing_b1 (omega arith) (λ h. omega
        (arith, h))) refl (refl, refl, refl))
        (an_event (one_turn summing_staged.programs 4 0 (summing_a1 ∷ summing_b2 ∷ []) summing_a1 summing_first [] [] (first_next summing_a1 summing_b2 (omega arith) (λ h. omega
        (arith, h))) refl (refl, refl, refl)) no_event refl) refl) refl) refl;
    over = both_over summing_a2 summing_b2 refl refl;
    made = refl;
  };
}

-- ---- a trap ends its strand alone

abbrev dividing : StrandOriginal
dividing = alone_in_world dividing_strands (answers_with 0 1) (answers_with 1000 2)

abbrev dividing_told : List Told
dividing_told = told_of dividing_strands (gives_number 0 1) (gives_number 1000 2)

abbrev dividing_staged : Staged
dividing_staged = staged_of dividing.program (gives_number 0 1) (gives_number 1000 2) dividing_told

abbrev dividing_first : Program
dividing_first = program_of dividing.program dividing_told 0 (strand_at dividing_strands 0)

abbrev dividing_second : Program
dividing_second = program_of dividing.program dividing_told 1 (strand_at dividing_strands 1)

abbrev dividing_a0 : Actor
dividing_a0 = actor_of dividing.program dividing_told 0 (gives_number 0 1)

abbrev dividing_b0 : Actor
dividing_b0 = actor_of dividing.program dividing_told 1 (gives_number 1000 2)

abbrev dividing_a1 : Actor
dividing_a1 = gone_on dividing_a0 [] []

abbrev dividing_b1 : Actor
dividing_b1 = gone_on dividing_b0 [] []

abbrev dividing_a2 : Actor
dividing_a2 = gone_on dividing_a1 [] []

abbrev dividing_b2 : Actor
dividing_b2 = gone_on dividing_b1 [] []

pub dividing_tells : DividingTellsItsLines
unfolding pruned calls_of points Base
dividing_tells = record {
  staged = dividing_staged ∷ [];
  starts = (
    record {
      outcomes = gives_number 0 1 ∷ gives_number 1000 2 ∷ [];
      told = dividing_told;
      wide = refl;
      tells = whole dividing_told refl refl;
      programs_are = refl;
      actors_are = refl;
    },
    tt,
  );
  runs = record {
    flat = turn_lines 0 dividing_first dividing_a0 ++ (turn_lines 1 dividing_second dividing_b0 ++ (turn_lines 0 dividing_first dividing_a1 ++ (turn_lines 1 dividing_second dividing_b1 ++ ([]))));
    last = dividing_a2 ∷ dividing_b2 ∷ [];
    events = an_event (one_turn dividing_staged.programs 1 0 (dividing_a0 ∷ dividing_b0 ∷ []) dividing_a0 dividing_first [] [] (first_next dividing_a0 dividing_b0 (omega arith)
        (λ h. omega (arith, h))) refl (one_given 0 1, [], [], [], refl, ((refl, refl), refl), (refl, refl, refl)))
        (an_event (one_turn dividing_staged.programs 2 1 (dividing_a1 ∷ dividing_b0 ∷ []) dividing_b0 dividing_second [] [] (second_next dividing_a1 dividing_b0 (omega arith) (λ h. omega
        (arith, h))) refl (one_given 1000 2, [], [], [], refl, ((refl, refl), refl), (refl, refl, refl)))
        (an_event (one_turn dividing_staged.programs 3 0 (dividing_a1 ∷ dividing_b1 ∷ []) dividing_a1 dividing_first [] [] (first_next dividing_a1 dividing_b1 (omega arith) (λ h. omega
        (arith, h))) refl (refl, refl, refl))
        (an_event (one_turn dividing_staged.programs 4 1 (dividing_a2 ∷ dividing_b1 ∷ []) dividing_b1 dividing_second [] [] (second_next dividing_a2 dividing_b1 (omega arith) (λ h. omega
        (arith, h))) refl (refl, refl, refl)) no_event refl) refl) refl) refl;
    over = both_over dividing_a2 dividing_b2 refl refl;
    made = refl;
  };
}

-- ---- an unwind that traps ends the program

abbrev narrow : StrandOriginal
narrow = alone_in_world narrow_strands (answers_with 10 2) (answers_with 100 1)

abbrev narrow_told : List Told
narrow_told = told_of narrow_strands (gives_number 10 2) (gives_number 100 1)

abbrev narrow_staged : Staged
narrow_staged = staged_of narrow.program (gives_number 10 2) (gives_number 100 1) narrow_told

abbrev narrow_first : Program
narrow_first = program_of narrow.program narrow_told 0 (strand_at narrow_strands 0)

abbrev narrow_second : Program
narrow_second = program_of narrow.program narrow_told 1 (strand_at narrow_strands 1)

abbrev narrow_a0 : Actor
narrow_a0 = actor_of narrow.program narrow_told 0 (gives_number 10 2)

abbrev narrow_b0 : Actor
narrow_b0 = actor_of narrow.program narrow_told 1 (gives_number 100 1)

abbrev narrow_a1 : Actor
narrow_a1 = gone_on narrow_a0 [] []

abbrev narrow_b1 : Actor
narrow_b1 = gone_on narrow_b0 [] []

pub narrow_tells : NarrowTellsItsLines
unfolding pruned calls_of points Base
narrow_tells = record {
  staged = narrow_staged ∷ [];
  starts = (
    record {
      outcomes = gives_number 10 2 ∷ gives_number 100 1 ∷ [];
      told = narrow_told;
      wide = refl;
      tells = whole narrow_told refl refl;
      programs_are = refl;
      actors_are = refl;
    },
    tt,
  );
  runs = record {
    flat = turn_lines 0 narrow_first narrow_a0 ++ (turn_lines 1 narrow_second narrow_b0 ++ ([]));
    last = narrow_a1 ∷ narrow_b1 ∷ [];
    events = an_event (one_turn narrow_staged.programs 1 0 (narrow_a0 ∷ narrow_b0 ∷ []) narrow_a0 narrow_first [] [] (first_next narrow_a0 narrow_b0 (omega arith) (λ h. omega
        (arith, h))) refl (one_given 10 2, [], [], [], refl, ((refl, refl), refl), (refl, refl, refl)))
        (an_event (one_turn narrow_staged.programs 2 1 (narrow_a1 ∷ narrow_b0 ∷ []) narrow_b0 narrow_second [] [] (second_next narrow_a1 narrow_b0 (omega arith) (λ h. omega
        (arith, h))) refl (one_given 100 1, [], [], [], refl, ((refl, refl), refl), (refl, refl, refl))) no_event refl) refl;
    over = both_over narrow_a1 narrow_b1 refl refl;
    made = refl;
  };
}

-- ---- what the strands tell

abbrev value_in : Event → ℕ
value_in (returned n (Some (V.I32 v))) = v
value_in _ = 0

abbrev sum_in : List StrandEvent → ℕ
sum_in [] = 0
sum_in (x ∷ xs) = value_in x.event + sum_in xs

not_ten : told_of_summing 110 ≡ told_of_summing 10 → ⊥
not_ten e = let z : 210 ≡ 110 = ap sum_in e in omega (arith, z)

shares : told_by_two summing_strands (gives_number 10 2) (gives_number 100 1) ≡ told_of_summing 110
unfolding pruned calls_of points Base
shares = refl

nine_are_told : length (told_by_two dividing_strands (gives_number 0 1) (gives_number 1000 2)) ≡ 9
unfolding pruned calls_of points Base
nine_are_told = refl

pub readings : StrandReadings
readings = record {
  shared = shares;
  globals_of_pause = λ e. not_ten (sym shares ∙ e);
  trap_for_all = λ e. let z : 9 ≡ 6 = sym nine_are_told ∙ ap length e in omega (arith, z);
}
