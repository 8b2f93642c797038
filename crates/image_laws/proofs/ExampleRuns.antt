-- A run of the small module: it comes to the pause, and is compared whatever it may cost.
use Rattle.std.proofs.Common.{All, List, Some, [], arith, length, refl, ℕ, ◌+◌, ◌∷◌, ◌≡◌, ◌≤◌}
use Rattle.std.proofs.lemmas.List.Elements.{All-cons, All-nil}
use Rattle.wa_types.specs.declared.values.Value.{Value}
use Rattle.wa_types.specs.declared.values.Value.TheVariants as V
use Rattle.wa_types.specs.declared.operators.NumOp.TheVariants.{I32Add}
use Rattle.wa_types.specs.Base.{Base}
use Rattle.wa_types.specs.Frames.{Room, Suspended, results_in}
use Rattle.wa_types.specs.Counts.{depth_of}
use Rattle.wa_types.specs.Liveness.{behind_calls, live}
use Rattle.wa_types.specs.Pausing.{Policy, calls_of, save_all, save_live}
use Rattle.wa_types.specs.Points.{call_points, points}
use Rattle.wa_types.specs.Pruned.{pruned}
use Rattle.wa_types.specs.Sizes.{value_fits}
use Rattle.wa_types.specs.Syntax.{const, num, basic, local_get, Code, plain, done}
use Rattle.wa_model.specs.declared.answers.Said.TheVariants as S
use Rattle.wa_model.specs.declared.events.End.TheVariants.{Done}
use Rattle.wa_model.specs.Behaves.{Compared, PauseNumbered, StandsNumbered}
use Rattle.wa_model.specs.Blocking.{Blocking, Note, State, all_left, an_entry, between, blocking, call_note, halts, note, poked, runs}
use Rattle.wa_model.specs.Configuration.{running}
use Rattle.run_theory.specs.DeterminedRuns.{start_of}
use Rattle.wa_model.specs.Machine.{Leads, moves, stays}
use Rattle.wa_model.specs.Outside.{answered, ended, returned}
use Rattle.wa_model.specs.Plan.{AreLawful, EntryFits, Fits, OutcomeFits, PokeFits}
use Rattle.wa_model.specs.Untouched.{IsCalm, StaysOff}
use Rattle.wa_model.proofs.StayingOff.{nothing_off}
use Rattle.run_theory.proofs.Invariants.{RanKeeps, TurnKeeps, after_keeps}
use Rattle.image_laws.specs.Example.{adding, at_call, behind_call, called_with_7, fresh, may_pause, outcomes_there, pause_there, plan_there, sample, saving}
use Rattle.image_laws.specs.Image.{ComesThere, answer_there, left_there, stack_there}
use Rattle.image_laws.specs.HeldPauses.{PauseOf, RunCompared}
use Rattle.image_laws.proofs.ExampleModule.{can_there, formed_there, free_there, no_run}

-- ---- where it stands

-- before the call, and behind it
abbrev before : (operands : List Value) → Code → State
before operands code = runs (an_entry called_with_7) (running fresh 1 [] (V.I32 7 ∷ []) operands code []) pause_there.left

abbrev behind : (operands : List Value) → Code → State
behind operands code = runs (an_entry called_with_7) (running fresh 1 [] (V.I32 7 ∷ []) operands code []) (left_there pause_there)

abbrev from_add : Code
from_add = plain (basic (num I32Add)) at_call

abbrev from_one : Code
from_one = plain (basic (const (V.I32 1))) from_add

abbrev from_parameter : Code
from_parameter = plain (local_get 0) from_one

abbrev begun_there : State
begun_there = between fresh (all_left plan_there outcomes_there)

data Along : State → Type 0 where
  at_start : Along begun_there
  entered : Along (before [] adding.body)
  has_five : Along (before (V.I32 5 ∷ []) from_parameter)
  has_seven : Along (before (V.I32 7 ∷ V.I32 5 ∷ []) from_one)
  has_one : Along (before (V.I32 1 ∷ V.I32 7 ∷ V.I32 5 ∷ []) from_add)
  calls_import : Along (before (V.I32 8 ∷ V.I32 5 ∷ []) at_call)
  is_answered : Along (behind (V.I32 42 ∷ V.I32 5 ∷ []) behind_call)
  has_sum : Along (behind (V.I32 47 ∷ []) done)
  is_over : Along (halts fresh)

-- ---- to the pause

leads_there : Leads (blocking (Base sample) plan_there) (start_of sample plan_there outcomes_there).last 6 [] (before (V.I32 8 ∷ V.I32 5 ∷ []) at_call)
unfolding Base
leads_there = moves refl (moves refl (moves refl (moves refl (moves refl stays refl refl) refl refl) refl refl) refl refl) refl refl

room_there : (policy : Policy) → Room sample policy (stack_there sample pause_there) ≤ 64
unfolding Base pruned points call_points live behind_calls depth_of results_in calls_of
room_there save_all = let e : Room sample save_all (stack_there sample pause_there) ≡ 28 = refl in omega arith
room_there save_live = let e : Room sample save_live (stack_there sample pause_there) ≡ 20 = refl in omega arith

comes_there : (policy : Policy) → ComesThere sample (saving policy) plan_there outcomes_there pause_there
unfolding Base
comes_there policy = record {
  leads = leads_there;
  roomy = All-nil (λ (stack : List Suspended). Room sample policy stack ≤ 64);
  asks_there = refl;
  outcome = refl;
  passes = refl;
  pauses = refl;
  room = room_there policy;
}

pub pause_of_run : (policy : Policy) (n : ℕ) → PauseOf sample (saving policy) plan_there outcomes_there (8 + n) pause_there
pause_of_run policy n = record { there = comes_there policy; within = omega arith }

-- ---- what is asked of the run

abbrev Numbered_at : Policy → Note → Type 0
Numbered_at policy x = PauseNumbered sample (saving policy) may_pause x.stack x.pause

numbered_there : (policy : Policy) → All (StandsNumbered sample (saving policy) may_pause) (stack_there sample pause_there)
unfolding Base pruned calls_of
numbered_there policy =
    let P = StandsNumbered sample (saving policy) may_pause in
    All-cons P _ [] (record { instrumented = refl; numbered = (adding, refl, (0, omega arith, refl)) }) (All-nil P)

-- what is told at the call and at the end
abbrev at_import : List Note
at_import = call_note 0 (V.I32 8 ∷ []) fresh (stack_there sample pause_there) (Some 5) ∷ answer_there pause_there

abbrev at_end : List Note
at_end = note (returned 0 (Some (V.I32 47))) fresh ∷ note (ended Done) fresh ∷ []

import_numbered : (policy : Policy) → All (Numbered_at policy) at_import
import_numbered policy =
    let P = Numbered_at policy in let a : Note = note (answered (S.Value (Some (V.I32 42)))) (poked fresh []) in
    All-cons P (call_note 0 (V.I32 8 ∷ []) fresh (stack_there sample pause_there) (Some 5)) (a ∷ []) (numbered_there policy) (All-cons P a [] tt (All-nil P))

end_numbered : (policy : Policy) → All (Numbered_at policy) at_end
end_numbered policy =
    let P = Numbered_at policy in let e = note (ended Done) fresh in
    All-cons P (note (returned 0 (Some (V.I32 47))) fresh) (e ∷ []) tt (All-cons P e [] tt (All-nil P))

each_move : (policy : Policy) (s : State) → Along s → TurnKeeps (blocking (Base sample) plan_there) Along (Numbered_at policy) (blocking (Base sample) plan_there s)
unfolding Base
each_move policy _ at_start = (All-nil (Numbered_at policy), entered)
each_move policy _ entered = (All-nil (Numbered_at policy), has_five)
each_move policy _ has_five = (All-nil (Numbered_at policy), has_seven)
each_move policy _ has_seven = (All-nil (Numbered_at policy), has_one)
each_move policy _ has_one = (All-nil (Numbered_at policy), calls_import)
each_move policy _ calls_import = (import_numbered policy, is_answered)
each_move policy _ is_answered = (All-nil (Numbered_at policy), has_sum)
each_move policy _ has_sum = (end_numbered policy, is_over)
each_move policy _ is_over = tt

all_along : (policy : Policy) (n : ℕ) → RanKeeps (blocking (Base sample) plan_there) Along (Numbered_at policy) (Blocking sample plan_there outcomes_there n)
unfolding Base
all_along policy n =
    after_keeps (blocking (Base sample) plan_there) Along (Numbered_at policy) (each_move policy) n (start_of sample plan_there outcomes_there) (All-nil (Numbered_at policy), at_start)

none : StaysOff plan_there.area (length fresh.memory) []
none = nothing_off plan_there.area (length fresh.memory)

calm : (s : State) → Along s → IsCalm plan_there.area s
calm _ at_start = tt
calm _ entered = none
calm _ has_five = none
calm _ has_seven = none
calm _ has_one = none
calm _ calls_import = none
calm _ is_answered = none
calm _ has_sum = none
calm _ is_over = tt

no_values : AreLawful [] []
no_values = record { typed = refl; ranges = All-nil value_fits }

fits_there : Fits sample plan_there
unfolding Base
fits_there = record {
  globals = no_values;
  entries = All-cons (EntryFits sample) called_with_7 [] (record {
    defined = (adding, refl);
    exported = (_, (0, omega arith, refl), record { space = refl; index = refl; name = no_run });
    args = record { typed = refl; ranges = All-cons value_fits (V.I32 7) [] (omega arith) (All-nil value_fits) };
  }) (All-nil (EntryFits sample));
  area = record { aligned = refl; least = omega arith; inside = omega arith };
}

compared_there : (policy : Policy) (n : ℕ) → Compared sample (saving policy) plan_there outcomes_there n
compared_there policy n = record {
  fits = fits_there;
  listed = refl;
  outcomes = All-cons OutcomeFits _ [] (record { said = omega arith; pokes = All-nil PokeFits; ticks = omega arith }) (All-nil OutcomeFits);
  untouched = λ j lt. calm (Blocking sample plan_there outcomes_there j).last (all_along policy j).1;
}

pub run_there : (policy : Policy) (n : ℕ) → RunCompared sample (saving policy) may_pause plan_there outcomes_there n
run_there policy n = record {
  can = can_there policy;
  free = free_there;
  formed = formed_there;
  compared = compared_there policy n;
  numbered = (all_along policy n).0;
}
