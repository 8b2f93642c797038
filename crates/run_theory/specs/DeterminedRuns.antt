-- Laws of runs. Functions with an empty body have them as their contracts.
use Rattle.std.specs.Prelude.{◌≡◌, ℕ, ◌+◌, List}
use Rattle.wa_types.specs.declared.values.Trap.{Trap}
use Rattle.wa_types.specs.declared.values.Trap.TheVariants.{Import}
use Rattle.wa_types.specs.Syntax.{Module}
use Rattle.wa_types.specs.Base.{Base}
use Rattle.wa_model.specs.Machine.{Ran, after, run, Leads, IsRun}
use Rattle.wa_model.specs.Configuration.{Configuration}
use Rattle.wa_model.specs.Store.{Store}
use Rattle.wa_model.specs.Step.{traps, Step, step}
use Rattle.wa_model.specs.Plan.{Plan, Outcome}
use Rattle.wa_model.specs.Instantiation.{opening}
use Rattle.wa_model.specs.Blocking.{Note, State, begun, all_left, blocking, Blocking, store_of}
use Rattle.wa_model.specs.Protocol.{Held, exports_of, protocol, held_begun, Protocol}
use Rattle.wa_model.specs.Behaves.{IsPrefix}
use Rattle.run_theory.specs.Alone.{Finish, EndsAs}
use Rattle.run_theory.specs.Pruning.{pruned_module}

-- From a configuration a module goes to one next one at most, at one cost.
abbrev pub OneNext : Type 0
OneNext = (m : Module) (c d e : Configuration) (j k : ℕ) → Step m c d j → Step m c e k → (d ≡ e) × (j ≡ k)

-- What a run with blocking imports has made before its first move, and where it then stands.
abbrev pub start_of : Module → Plan → List Outcome → Ran State Note
start_of m plan os = begun (Base m).start (all_left plan os) (opening (Base m) plan.globals)

-- The same of a run under the protocol.
abbrev pub held_start_of : Module → Plan → List Outcome → Ran Held Note
held_start_of p plan os = held_begun p.start (all_left plan os) (opening p plan.globals)

-- A module, a plan and outcomes determine a run: moves of one total cost make the same notes and lead to the same state.
abbrev pub RunsDetermined : Type 0
RunsDetermined =
    (m : Module) (plan : Plan) (os : List Outcome) (n : ℕ) (es fs : List Note) (t u : State)
    → Leads (blocking (Base m) plan) (start_of m plan os).last n es t → Leads (blocking (Base m) plan) (start_of m plan os).last n fs u
    → (es ≡ fs) × (t ≡ u)

-- So it is under the protocol.
abbrev pub ProtocolDetermined : Type 0
ProtocolDetermined =
    (p : Module) (plan : Plan) (os : List Outcome) (n : ℕ) (es fs : List Note) (t u : Held)
    → Leads (protocol p (exports_of p) plan) (held_start_of p plan os).last n es t → Leads (protocol p (exports_of p) plan) (held_start_of p plan os).last n fs u
    → (es ≡ fs) × (t ≡ u)

-- A run up to a cost of n is made by the moves that n pays, and by no others.
abbrev pub RunsAreMoves : Type 0
RunsAreMoves =
    (m : Module) (plan : Plan) (os : List Outcome) (n : ℕ)
    → (r : Ran State Note) × (Blocking m plan os n ≡ after (start_of m plan os).events r) × IsRun (blocking (Base m) plan) n (start_of m plan os).last r

-- So it is under the protocol.
abbrev pub ProtocolAreMoves : Type 0
ProtocolAreMoves =
    (p : Module) (plan : Plan) (os : List Outcome) (n : ℕ)
    → (r : Ran Held Note) × (Protocol p plan os n ≡ after (held_start_of p plan os).events r) × IsRun (protocol p (exports_of p) plan) n (held_start_of p plan os).last r

-- What a run makes within a cost begins what it makes within more.
abbrev pub RunsGrow : Type 0
RunsGrow =
    (m : Module) (plan : Plan) (os : List Outcome) (n more : ℕ) → IsPrefix (Blocking m plan os n).events (Blocking m plan os (n + more)).events

-- So it is under the protocol.
abbrev pub ProtocolGrows : Type 0
ProtocolGrows =
    (p : Module) (plan : Plan) (os : List Outcome) (n more : ℕ) → IsPrefix (Protocol p plan os n).events (Protocol p plan os (n + more)).events

-- After moves of a cost and some events, a run goes on as it does from where they lead.
abbrev pub MovesAddUp : Type 0
MovesAddUp =
    (m : Module) (plan : Plan) (k n : ℕ) (es : List Note) (s t : State) → Leads (blocking m plan) s k es t → run (blocking m plan) (k + n) s ≡ after es (run (blocking m plan) n t)

-- A module and the one whose bodies are pruned make the same notes, the stacks at calls with them, and have the same stores.
abbrev pub PrunedRunsSame : Type 0
PrunedRunsSame =
    (m : Module) (plan : Plan) (os : List Outcome) (n : ℕ)
    → ((Blocking (pruned_module m) plan os n).events ≡ (Blocking m plan os n).events)
    × (store_of (Blocking (pruned_module m) plan os n).last ≡ store_of (Blocking m plan os n).last)

-- The reductions from a configuration come to one end, at one cost, whatever they may cost.
abbrev pub EndsOneWay : Type 0
EndsOneWay =
    (m : Module) (c : Configuration) (left used used' : ℕ) (end end' : Finish) → EndsAs m c left used end → EndsAs m c left used' end'
    → (used ≡ used') × (end ≡ end')

-- No reduction traps for an import.
abbrev pub ReductionsTrapThemselves : Type 0
ReductionsTrapThemselves = (m : Module) (c : Configuration) (k : ℕ) (t : Trap) (s : Store) → step m c ≡ traps k t s → t ≡ Import → ⊥
