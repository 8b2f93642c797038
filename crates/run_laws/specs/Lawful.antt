-- What suspended activations hold: code behind their calls, and operands of the types of their points.
use Rattle.std.specs.Prelude.{◌≡◌, ℕ, List, [], ◌∷◌, map, take, Some, Bool, All, slice_get}
use Rattle.wa_types.specs.declared.values.Value.{Value}
use Rattle.wa_types.specs.Base.{Base}
use Rattle.wa_types.specs.Syntax.{Func, Module}
use Rattle.wa_types.specs.Pruned.{pruned}
use Rattle.wa_types.specs.Modules.{defined_at}
use Rattle.wa_types.specs.Sizes.{WellFormed}
use Rattle.wa_types.specs.Validity.{Valid}
use Rattle.wa_types.specs.Pausing.{Settings}
use Rattle.wa_types.specs.Liveness.{position, behind_calls}
use Rattle.wa_model.specs.Configuration.{Activation, Configuration, place_of}
use Rattle.wa_model.specs.Step.{asks, step}
use Rattle.wa_model.specs.Plan.{Entry, Plan, Outcome, OutcomeFits, Fits}
use Rattle.wa_model.specs.Blocking.{Note, Task, Left, runs, Blocking}
use Rattle.wa_model.specs.Outside.{Call, called}
use Rattle.wa_model.specs.Behaves.{Compared, PausesNumbered}
use Rattle.run_theory.specs.LawfulStacks.{LawfulActivation, LawfulStack}
use Rattle.run_laws.specs.Standing.{returned_by}
use Rattle.run_laws.specs.Sites.{continuation}

-- Each activation of the stack at each call of a run is lawful: it stands at a call, over operands of the types that the typing of
-- its body finds just before that call, and all its values are in range.
abbrev pub StacksAreLawful : Type 0
StacksAreLawful =
    (m : Module) (plan : Plan) (os : List Outcome) (n : ℕ) → WellFormed m → Valid m → Fits m plan → All OutcomeFits os
    → All (λ (x : Note). All (LawfulActivation m) x.stack) (Blocking m plan os n).events

-- The code and the labels of an activation that waits are those behind the call of its place in the pruned body, the labels'
-- heights aside.
abbrev pub StandsBehind : Module → Activation → Type 0
StandsBehind m a =
    (f : Func) × (defined_at m a.func ≡ Some f)
    × (slice_get (behind_calls [] (pruned f.body)) (place_of (Some f) a.code a.labels) ≡ Some (position (pruned a.code) (map continuation a.labels)))

-- Where a run is about to call an import, that holds of each activation of the stack.
abbrev pub CodeStandsBehind : Type 0
CodeStandsBehind =
    (m : Module) (plan : Plan) (os : List Outcome) (n : ℕ) (task : Task) (c d : Configuration) (l : Left) (k import : ℕ) (args : List Value)
    → Valid m → Fits m plan → (Blocking m plan os n).last ≡ runs task c l → step (Base m) c ≡ asks k import args d
    → All (StandsBehind m) (d.here ∷ d.under)

-- At each pause of a run that is compared, and that finds its activations at numbered calls, the suspended stack is lawful for
-- the import that is called and the entry that runs: the one whose number is that of the entries that have returned.
abbrev pub PausesAreLawful : Type 0
PausesAreLawful =
    (m : Module) (s : Settings) (which : List Bool) (plan : Plan) (os : List Outcome) (n i ticks : ℕ) (x : Note)
    → WellFormed m → Valid m → Compared m s plan os n → PausesNumbered m s which (Blocking m plan os n).events
    → slice_get (Blocking m plan os n).events i ≡ Some x → x.pause ≡ Some ticks
    → (entry : Entry) × (call : Call) × (slice_get plan.entries (returned_by 0 (take i (Blocking m plan os n).events)) ≡ Some entry) × (x.event ≡ called call)
    × LawfulStack m s which x.store.table entry.func call.import x.stack
