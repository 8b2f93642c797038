-- Three strands over what is emitted of a small module tell in a world all that its own strands tell.
use Rattle.std.proofs.Common.{arith, ◌≡◌, ◌≤◌, ◌<◌, ◌+◌, ◌⊎◌, inl, inr, ℕ, zero, suc, List, [], ◌∷◌, ◌++◌, length, Some, Bool, true, false, refl, ◌∙◌, subst, ⊎_elim, eqb-true, leb-true, ltb-true}
use Rattle.std.specs.Prelude.{nat_eq, nat_le, nat_lt, slice_get, ◌&&◌, ◌||◌}
use Rattle.std.proofs.lemmas.List.Elements.{All-cons, All-nil}
use Rattle.std.proofs.lemmas.Option.{same_Some}
use Rattle.wa_types.specs.declared.values.Value.TheVariants as V
use Rattle.wa_types.specs.Base.{Base}
use Rattle.wa_types.specs.Bounds.{Bound}
use Rattle.wa_types.specs.Counts.{depth_of}
use Rattle.wa_types.specs.Frames.{results_in}
use Rattle.wa_types.specs.Liveness.{behind_calls, live}
use Rattle.wa_types.specs.Pausing.{Policy, calls_of, save_all, save_live}
use Rattle.wa_types.specs.Points.{call_points, points}
use Rattle.wa_types.specs.Pruned.{pruned}
use Rattle.wa_types.specs.Syntax.{Module}
use Rattle.wa_model.specs.declared.answers.Said.TheVariants as S
use Rattle.wa_model.specs.Behaves.{pause_stacks}
use Rattle.wa_model.specs.Plan.{given}
use Rattle.world_model.specs.World.{Actor, HasNotes, IsNext, Program, an_event, at_start, no_event, turn_lines}
use Rattle.emitted_form.specs.EmittedAs.{EmittedAs}
use Rattle.image_laws.specs.Example.{may_pause, sample, saving}
use Rattle.image_laws.proofs.ExampleModule.{can_there, formed_there, free_there}
use Rattle.strand_laws.proofs.StrandStories.{bound_above, bounded_strands_end, compared_on, ended_on}
use Rattle.strand_laws.proofs.StrandWorlds.{bounded_worlds_held, compared_are_orderly, emitted_are_rewritten}
use Rattle.strand_laws.proofs.Turns.{compared_there, turns_there}
use Rattle.strand_laws.proofs.TwoActors.{gone_on, one_turn}
use Rattle.strand_laws.specs.Example.{notes_of_three, outcomes_of_three, three_strands}
use Rattle.strand_laws.specs.StrandOriginals.{LooksOff, StrandsBounded, StrandsMayRun, StrandsOrderly, StrandsStandIn}
use Rattle.strand_laws.specs.StrandWorld.{BlockingStrandWorld, IsFinished, Staged, StrandOriginal, answers_of, last_strand, looks_if, notes_of, strand_actors, strand_programs, StrungStrands, whole}
use Rattle.strand_laws.specs.Strands.{BlockingStrands, areas_of, outcomes_at, plan_of, strand_at}
use Rattle.strand_laws.specs.WorldExample.{EmittedTellsItsLines, ThreeTellAll, lines_of_three, three_over}
use Rattle.strand_laws.specs.Woven.{Told, notes_told}

-- the module's own strands, as an original of a world
abbrev three_there : Policy → StrandOriginal
three_there policy = record { program = three_over policy sample; settings = saving policy }

ended_there : (policy : Policy) → IsFinished (BlockingStrands (saving policy) three_strands outcomes_of_three 40).last
unfolding Base pruned points call_points live behind_calls depth_of results_in calls_of
ended_there save_all = refl
ended_there save_live = refl

same_least : (n : ℕ) → n ≤ n
same_least n = omega arith

least : (policy : Policy) → 40 ≤ Bound sample 40 (pause_stacks (notes_told (notes_of_three policy)))
least policy =
    bound_above sample 40 (Bound sample 40 (pause_stacks (notes_told (notes_of_three policy)))) (pause_stacks (notes_told (notes_of_three policy)))
    (same_least (Bound sample 40 (pause_stacks (notes_told (notes_of_three policy)))))

-- what is asked of it
stands_there : (policy : Policy) (q : Module) → EmittedAs sample (saving policy) may_pause q → StrandsStandIn (three_there policy) (three_over policy q)
stands_there policy q em =
    record { rewritten = emitted_are_rewritten sample (saving policy) may_pause q (can_there policy) free_there em; program = refl; steps = refl; answers = refl; binds = refl; looks = refl }

may_there : (policy : Policy) → StrandsMayRun (three_there policy)
may_there policy = record { well_formed = formed_there; looks = All-nil (LooksOff (areas_of three_strands)) }

orderly_there : (policy : Policy) → StrandsOrderly (three_there policy) outcomes_of_three
orderly_there policy =
    compared_are_orderly (three_there policy) outcomes_of_three may_pause (can_there policy).tells refl
    (compared_on (saving policy) three_strands outcomes_of_three 40 (Bound sample 40 (pause_stacks (notes_told (notes_of_three policy)))) (least policy) (ended_there policy) (compared_there policy))

bounded_there : (policy : Policy) → StrandsBounded (three_there policy) outcomes_of_three
bounded_there policy = record { cost = 40; over = ended_there policy; within = same_least (Bound sample 40 (pause_stacks (notes_told (notes_of_three policy)))) }

pub three_tell_all : ThreeTellAll
unfolding Base bounded_there
three_tell_all policy q ts em held =
    bounded_strands_end (three_there policy) (three_over policy q) outcomes_of_three ts (stands_there policy q em) (may_there policy) (orderly_there policy) held (bounded_there policy)
    ∙ turns_there policy

-- ---- their world

-- no actor that has notes comes before this one
abbrev comes_first : (i due k : ℕ) → List Actor → Bool
comes_first i due k [] = true
comes_first i due k (b ∷ bs) = (nat_eq (length b.notes) 0 || (nat_lt due b.due || (nat_eq due b.due && nat_le i k))) && comes_first i due (suc k) bs

both_true : (a b : Bool) → (a && b) ≡ true → (a ≡ true) × (b ≡ true)
both_true true b e = (refl, e)
both_true false b e = let no_way : ⊥ = cc in absurd no_way

one_true : (a b : Bool) → (a || b) ≡ true → (a ≡ true) ⊎ (b ≡ true)
one_true true b e = inl refl
one_true false b e = inr e

next_by : (acts : List Actor) (i : ℕ) (a : Actor) → slice_get acts i ≡ Some a → HasNotes a → comes_first i a.due 0 acts ≡ true → IsNext acts i a
next_by acts i a there has e = record { there = there; unfinished = has; least = λ j b eb hb. ⊎_elim (λ lt. inl lt) (λ same. let le = same.1 in inr (same.0, omega (arith, le))) (from acts 0 j b e eb hb) }
  where
    from : (bs : List Actor) (k j : ℕ) (b : Actor) → comes_first i a.due k bs ≡ true → slice_get bs j ≡ Some b → HasNotes b → (a.due < b.due) ⊎ ((a.due ≡ b.due) × (i ≤ k + j))
    from [] k j b e eb hb = let no_way : ⊥ = cc in absurd no_way
    from (c ∷ bs) k zero b e eb hb = subst Here (same_Some c b eb) here hb
      where
        Here : Actor → Type 0
        Here d = HasNotes d → (a.due < d.due) ⊎ ((a.due ≡ d.due) × (i ≤ k + 0))

        parts : (nat_eq (length c.notes) 0 ≡ true) ⊎ ((nat_lt a.due c.due || (nat_eq a.due c.due && nat_le i k)) ≡ true)
        parts =
            one_true (nat_eq (length c.notes) 0) (nat_lt a.due c.due || (nat_eq a.due c.due && nat_le i k))
            (both_true (nat_eq (length c.notes) 0 || (nat_lt a.due c.due || (nat_eq a.due c.due && nat_le i k))) (comes_first i a.due (suc k) bs) e).0

        here : Here c
        here hc =
            ⊎_elim (λ none. let z = eqb-true (length c.notes) 0 none in let no_way : ⊥ = omega (arith, z, hc) in absurd no_way)
            (λ some.
            ⊎_elim (λ lt. inl (ltb-true a.due c.due lt))
            (λ same.
            let h = both_true (nat_eq a.due c.due) (nat_le i k) same in
            let le : i ≤ k = leb-true i k h.1 in
            inr (eqb-true a.due c.due h.0, omega (arith, le)))
            (one_true (nat_lt a.due c.due) (nat_eq a.due c.due && nat_le i k) some))
            parts
    from (c ∷ bs) k (suc j) b e eb hb =
        ⊎_elim (λ lt. inl lt) (λ same. let le = same.1 in inr (same.0, omega (arith, le)))
        (from bs (suc k) j b
        (both_true (nat_eq (length c.notes) 0 || (nat_lt a.due c.due || (nat_eq a.due c.due && nat_le i k))) (comes_first i a.due (suc k) bs) e).1 eb hb)

abbrev there : StrandOriginal
there = three_there save_live

abbrev told : List Told
told = (BlockingStrands (saving save_live) three_strands outcomes_of_three 40).events

abbrev program : ℕ → Program
program i =
    record {
      source = sample;
      plan = plan_of three_strands (strand_at three_strands i);
      steps = there.program.steps;
      answers = answers_of there.program i;
      binds = there.program.binds;
      looks = looks_if (nat_eq (last_strand told) i) [];
      origin = at_start;
    }

abbrev start : ℕ → Actor
start i = record { due = 0; notes = notes_of i told; outcomes = outcomes_at outcomes_of_three i; answers = answers_of there.program i }

abbrev paused_there : ℕ → Actor
paused_there i = gone_on (start i) [] []

abbrev gone : ℕ → Actor
gone i = gone_on (paused_there i) [] []

abbrev EndsNow : Actor → Type 0
EndsNow a = a.notes ≡ []

abbrev staged : Staged
staged = record { programs = strand_programs there.program (last_strand told) 0 three_strands.strands; actors = strand_actors there.program told 0 outcomes_of_three }

tells_there : StrungStrands (saving save_live) there.program outcomes_of_three told
tells_there =
    let e = ended_on (saving save_live) three_strands outcomes_of_three 40 there.program.steps (least save_live) (ended_there save_live) in
    whole told e.0 e.1

blocking_there : BlockingStrandWorld (there ∷ []) [] [] (lines_of_three 20) []
unfolding Base pruned points call_points live behind_calls depth_of results_in calls_of
blocking_there = record {
  staged = staged ∷ [];
  starts = (
    record {
      outcomes = outcomes_of_three;
      told = told;
      wide = refl;
      tells = tells_there;
      programs_are = refl;
      actors_are = refl;
    },
    tt,
  );
  runs = record {
    flat = turn_lines 0 (program 0) (start 0) ++ (turn_lines 1 (program 1) (start 1) ++ (turn_lines 2 (program 2) (start 2)
        ++ (turn_lines 1 (program 1) (paused_there 1) ++ (turn_lines 2 (program 2) (paused_there 2) ++ (turn_lines 0 (program 0) (paused_there 0) ++ [])))));
    last = gone 0 ∷ gone 1 ∷ gone 2 ∷ [];
    events = an_event (one_turn staged.programs 1 0 (start 0 ∷ start 1 ∷ start 2 ∷ []) (start 0) (program 0) [] [] (next_by (start 0 ∷ start 1 ∷ start 2 ∷ []) 0 (start 0) refl (omega arith) refl) refl
        (given (record { said = S.Value (Some (V.I32 42)); pokes = []; ticks = 5 }), [], [], [], refl, ((refl, refl), refl), (refl, refl, refl)))
        (an_event (one_turn staged.programs 2 1 (paused_there 0 ∷ start 1 ∷ start 2 ∷ []) (start 1) (program 1) [] [] (next_by (paused_there 0 ∷ start 1 ∷ start 2 ∷ []) 1 (start 1) refl (omega arith) refl) refl
        (given (record { said = S.Value (Some (V.I32 1)); pokes = []; ticks = 3 }), [], [], [], refl, ((refl, refl), refl), (refl, refl, refl)))
        (an_event (one_turn staged.programs 3 2 (paused_there 0 ∷ paused_there 1 ∷ start 2 ∷ []) (start 2) (program 2) [] [] (next_by (paused_there 0 ∷ paused_there 1 ∷ start 2 ∷ []) 2 (start 2) refl (omega arith) refl) refl
        (given (record { said = S.Trap; pokes = []; ticks = 4 }), [], [], [], refl, ((refl, refl), refl), (refl, refl, refl)))
        (an_event (one_turn staged.programs 4 1 (paused_there 0 ∷ paused_there 1 ∷ paused_there 2 ∷ []) (paused_there 1) (program 1) [] [] (next_by (paused_there 0 ∷ paused_there 1 ∷ paused_there 2 ∷ []) 1 (paused_there 1) refl (omega arith) refl) refl
        (refl, refl, refl))
        (an_event (one_turn staged.programs 5 2 (paused_there 0 ∷ gone 1 ∷ paused_there 2 ∷ []) (paused_there 2) (program 2) [] [] (next_by (paused_there 0 ∷ gone 1 ∷ paused_there 2 ∷ []) 2 (paused_there 2) refl (omega arith) refl) refl
        (refl, refl, refl))
        (an_event (one_turn staged.programs 6 0 (paused_there 0 ∷ gone 1 ∷ gone 2 ∷ []) (paused_there 0) (program 0) [] [] (next_by (paused_there 0 ∷ gone 1 ∷ gone 2 ∷ []) 0 (paused_there 0) refl (omega arith) refl) refl
        (refl, refl, refl)) no_event refl) refl) refl) refl) refl) refl;
    over = All-cons EndsNow (gone 0) (gone 1 ∷ gone 2 ∷ []) refl (All-cons EndsNow (gone 1) (gone 2 ∷ []) refl (All-cons EndsNow (gone 2) [] refl (All-nil EndsNow)));
    made = refl;
  };
}

pub emitted_tells : EmittedTellsItsLines
unfolding blocking_there
emitted_tells q em =
    bounded_worlds_held (there ∷ []) (three_over save_live q ∷ []) [] [] [] (lines_of_three 20) (stands_there save_live q em, tt)
    (All-cons StrandsMayRun there [] (may_there save_live) (All-nil StrandsMayRun)) blocking_there ((orderly_there save_live, bounded_there save_live), tt)
