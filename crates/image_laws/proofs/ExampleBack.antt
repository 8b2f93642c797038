-- The stores that are written by hand come back.
use Rattle.std.proofs.Common.{List, Some, [], arith, refl, subst, ℕ, ◌+◌, ◌∷◌, ◌≡◌}
use Rattle.wa_types.specs.declared.values.Value.TheVariants as V
use Rattle.wa_types.specs.Base.{Base}
use Rattle.wa_types.specs.Pausing.{Policy}
use Rattle.wa_types.specs.Syntax.{Module}
use Rattle.wa_model.specs.declared.answers.Said.TheVariants as S
use Rattle.wa_model.specs.declared.events.End.TheVariants.{Done}
use Rattle.wa_model.specs.Behaves.{IsPrefix, pause_stacks}
use Rattle.wa_model.specs.Blocking.{blocking, events_of}
use Rattle.wa_model.specs.Machine.{run}
use Rattle.wa_model.specs.Outside.{Event, answered, ended, returned}
use Rattle.wa_model.specs.Store.{Store}
use Rattle.emitted_form.specs.EmittedAs.{EmittedAs}
use Rattle.image_laws.specs.Example.{ComesBack, HandWrittenComesBack, Holds, image_with, may_pause, outcomes_there, pause_there, plan_there, sample, saving, store_of}
use Rattle.image_laws.specs.Image.{GoesOnFrom, RestBound, answer_there, expected_from, goes_on_there, held_rest, held_there, rest_of_cost, stack_there}
use Rattle.image_laws.proofs.Emitted.{image_goes_on}
use Rattle.image_laws.proofs.ExampleHolds.{hand_written_holds}
use Rattle.image_laws.proofs.ExampleRuns.{pause_of_run, run_there}

goes_on_from : (policy : Policy) (q : Module) (t : Store) → EmittedAs sample (saving policy) may_pause q → Holds policy q t → (n : ℕ)
    → GoesOnFrom sample (saving policy) q plan_there may_pause n pause_there t
goes_on_from policy q t em holds n =
    let z : rest_of_cost (8 + n) pause_there ≡ n = omega arith in
    subst (λ k. GoesOnFrom sample (saving policy) q plan_there may_pause k pause_there t) z
    (image_goes_on sample (saving policy) may_pause q plan_there outcomes_there (8 + n) (run_there policy (8 + n)) em pause_there (pause_of_run policy n) t holds)

-- the original's events from the answer on
abbrev events_there : List Event
events_there = answered (S.Value (Some (V.I32 42))) ∷ returned 0 (Some (V.I32 47)) ∷ ended Done ∷ []

expected_there : (policy : Policy) → events_of (expected_from sample (saving policy) plan_there (answer_there pause_there) (goes_on_there pause_there) 2) ≡ events_there
unfolding Base
expected_there policy = refl

no_pause : pause_stacks (run (blocking (Base sample) plan_there) 2 (goes_on_there pause_there)).events ≡ []
unfolding Base
no_pause = refl

comes_back : (policy : Policy) (q : Module) (t : Store) → EmittedAs sample (saving policy) may_pause q → Holds policy q t → ComesBack policy q t
comes_back policy q t em holds =
    let g = goes_on_from policy q t em holds 2 in
    record {
      goes_on = goes_on_from policy q t em holds;
      events = subst (λ stacks. IsPrefix events_there (events_of (held_rest q plan_there (held_there q plan_there pause_there t) (RestBound sample 2 (stack_there sample pause_there) stacks)).events)) no_pause
          (subst (λ events. IsPrefix events (events_of (held_rest q plan_there (held_there q plan_there pause_there t)
          (RestBound sample 2 (stack_there sample pause_there) (pause_stacks (run (blocking (Base sample) plan_there) 2 (goes_on_there pause_there)).events))).events)) (expected_there policy) g.reaches);
    }

pub hand_written_comes_back : HandWrittenComesBack
hand_written_comes_back policy q em free address lf la =
    comes_back policy q (store_of 0 address (image_with policy free)) em (hand_written_holds policy q em free address lf la)
