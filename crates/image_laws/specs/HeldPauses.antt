-- Laws of stores that hold a pause.
use Rattle.std.specs.Prelude.{drop, slice_get, Some, ◌≡◌, ℕ, suc, ◌+◌, ◌≤◌, List, ◌∷◌, ◌++◌, Bool}
use Rattle.wa_types.specs.Base.{Base}
use Rattle.wa_types.specs.Bounds.{Bound}
use Rattle.wa_types.specs.Frames.{Suspended}
use Rattle.wa_types.specs.Pausing.{Settings}
use Rattle.wa_types.specs.Sizes.{WellFormed}
use Rattle.wa_types.specs.Syntax.{Module}
use Rattle.wa_model.specs.Behaves.{Compared, PausesNumbered, pause_stacks}
use Rattle.wa_model.specs.Machine.{run}
use Rattle.wa_model.specs.Blocking.{Blocking, blocking}
use Rattle.wa_model.specs.Plan.{Outcome, Plan}
use Rattle.run_theory.specs.Quiet.{FreeOfNames}
use Rattle.wa_model.specs.Store.{Store}
use Rattle.emitted_form.specs.EmittedAs.{EmittedAs}
use Rattle.emitted_form.specs.PolicyLaws.{CanBeEmitted}
use Rattle.image_laws.specs.Image.{ComesThere, ComesToPause, GoesOnFrom, HoldsPause, Pause, RestBound, UntilBound, goes_on_there, rest_of_cost, stack_there}

-- What is asked of an original and of a run of it: what the headline asks, for a run up to a cost of n.
pub record RunCompared (m : Module) (s : Settings) (which : List Bool) (plan : Plan) (os : List Outcome) (n : ℕ) : Type 0 where
  pub can : CanBeEmitted m s which
  pub free : FreeOfNames m
  pub formed : WellFormed m
  pub compared : Compared m s plan os n
  pub numbered : PausesNumbered m s which (Blocking m plan os n).events

-- A pause of such a run, whose call is within its cost.
pub record PauseOf (m : Module) (s : Settings) (plan : Plan) (os : List Outcome) (n : ℕ) (x : Pause) : Type 0 where
  pub there : ComesThere m s plan os x
  pub within : x.cost + suc x.own_cost ≤ n

-- From any store that holds the pause at which the original stands along a run that is compared, whatever wrote it, the emitted module,
-- rewound, does what the original does from its answer on, for what is left of the run's cost, within the headline's bound.
abbrev pub ImageGoesOn : Type 0
ImageGoesOn =
    (m : Module) (s : Settings) (which : List Bool) (p : Module) (plan : Plan) (os : List Outcome) (n : ℕ) → RunCompared m s which plan os n → EmittedAs m s which p
    → (x : Pause) → PauseOf m s plan os n x → (t : Store) → HoldsPause m p s which plan x.waits t → GoesOnFrom m s p plan which (rest_of_cost n x) x t

-- There the emitted module itself comes to the pause, and its own store holds it.
abbrev pub PausesHold : Type 0
PausesHold =
    (m : Module) (s : Settings) (which : List Bool) (p : Module) (plan : Plan) (os : List Outcome) (n : ℕ) → RunCompared m s which plan os n → EmittedAs m s which p
    → (x : Pause) → PauseOf m s plan os n x → ComesToPause m s p plan which os x

-- One emitted module comes to the pause, and another one goes on from its store.
abbrev pub OneSavesAnotherGoesOn : Type 0
OneSavesAnotherGoesOn =
    (m : Module) (s : Settings) (which : List Bool) (p q : Module) (plan : Plan) (os : List Outcome) (n : ℕ) → RunCompared m s which plan os n → EmittedAs m s which p → EmittedAs m s which q
    → (x : Pause) → PauseOf m s plan os n x → (z : ComesToPause m s p plan which os x) × GoesOnFrom m s q plan which (rest_of_cost n x) x z.store

-- What a run may cost up to a pause and what the rest may cost behind it are together the headline's bound for the whole, also where one
-- emitted module unwinds and another rewinds.
abbrev pub BoundsJoin : Type 0
BoundsJoin =
    (m : Module) (j n : ℕ) (stack : List Suspended) (before behind : List (List Suspended)) → UntilBound m j stack before + RestBound m n stack behind ≡ Bound m (j + 1 + n) (before ++ stack ∷ behind)

-- For a pause along a run that is the bound of the whole run.
abbrev pub WholeBound : Type 0
WholeBound =
    (m : Module) (s : Settings) (plan : Plan) (os : List Outcome) (n : ℕ) (x : Pause) → PauseOf m s plan os n x
    → UntilBound m (x.cost + x.own_cost) (stack_there m x) (pause_stacks x.notes)
    + RestBound m (rest_of_cost n x) (stack_there m x) (pause_stacks (run (blocking (Base m) plan) (rest_of_cost n x) (goes_on_there x)).events)
    ≡ Bound m n (pause_stacks (Blocking m plan os n).events)

-- The entry that runs is the one of its number in the plan, and those behind it are left: so the place at the pause is told by that number.
abbrev pub EntryIsNumbered : Type 0
EntryIsNumbered =
    (m : Module) (s : Settings) (plan : Plan) (os : List Outcome) (x : Pause) → ComesThere m s plan os x
    → (slice_get plan.entries x.left.number ≡ Some x.entry) × (x.left.entries ≡ drop (suc x.left.number) plan.entries)
