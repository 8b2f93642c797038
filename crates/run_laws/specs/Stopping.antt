-- Where runs stop. A machine whose last outcome is used up is over too: it makes the call, and halts.
use Rattle.std.specs.Prelude.{◌≡◌, ◌↔◌, ℕ, List}
use Rattle.wa_types.specs.Base.{Base}
use Rattle.wa_types.specs.Syntax.{Module}
use Rattle.wa_types.specs.Runtime.{with_runtime}
use Rattle.wa_types.specs.Validity.{Valid}
use Rattle.wa_model.specs.Machine.{stops, Leads}
use Rattle.wa_model.specs.Store.{Store}
use Rattle.wa_model.specs.Plan.{Plan, Outcome, Fits}
use Rattle.wa_model.specs.Blocking.{Note, State, halts, blocking, Blocking}
use Rattle.wa_model.specs.Protocol.{Held, over, exports_of, protocol, Protocol}
use Rattle.run_laws.specs.FittingStates.{StateFits, HeldFits, ExportsTyped}
use Rattle.run_laws.specs.RuntimeParts.{RuntimeExported}

-- ---- states over fitting stores

-- From a state over a store that fits a valid module the machine with blocking imports makes no move exactly where all is over.
abbrev pub BlockingStatesStop : Type 0
BlockingStatesStop = (m : Module) (plan : Plan) (t : State) → Valid m → StateFits m t → (blocking m plan t ≡ stops) ↔ ((s : Store) × (t ≡ halts s))

-- So it is under the protocol, where the exports that the host calls are there.
abbrev pub ProtocolStatesStop : Type 0
ProtocolStatesStop =
    (p : Module) (plan : Plan) (t : Held) → Valid p → ExportsTyped p → HeldFits p t → (protocol p (exports_of p) plan t ≡ stops) ↔ ((s : Store) × (t ≡ over s))

-- Moves lead from such a state to such states.
abbrev pub BlockingStatesStay : Type 0
BlockingStatesStay =
    (m : Module) (plan : Plan) (t u : State) (n : ℕ) (notes : List Note) → Valid m → StateFits m t → Leads (blocking m plan) t n notes u → StateFits m u

-- So they do under the protocol.
abbrev pub ProtocolStatesStay : Type 0
ProtocolStatesStay =
    (p : Module) (plan : Plan) (t u : Held) (n : ℕ) (notes : List Note) → Valid p → ExportsTyped p → HeldFits p t
    → Leads (protocol p (exports_of p) plan) t n notes u → HeldFits p u

-- Runs of plans that fit stand at such states.
abbrev pub BlockingRunsFit : Type 0
BlockingRunsFit = (m : Module) (plan : Plan) (os : List Outcome) (n : ℕ) → Valid m → Fits m plan → StateFits (Base m) (Blocking m plan os n).last

-- So they do under the protocol.
abbrev pub ProtocolRunsFit : Type 0
ProtocolRunsFit = (p : Module) (plan : Plan) (os : List Outcome) (n : ℕ) → Valid p → Fits p plan → ExportsTyped p → HeldFits p (Protocol p plan os n).last

-- ---- runs

-- A run of a valid module with blocking imports, of a plan that fits it, stops only where all is over.
abbrev pub BlockingStopsOver : Type 0
BlockingStopsOver =
    (m : Module) (plan : Plan) (os : List Outcome) (n : ℕ) → Valid m → Fits m plan → blocking (Base m) plan (Blocking m plan os n).last ≡ stops
    → (s : Store) × ((Blocking m plan os n).last ≡ halts s)

-- So it is under the protocol, where the exports that the host calls are there.
abbrev pub ProtocolStopsOver : Type 0
ProtocolStopsOver =
    (p : Module) (plan : Plan) (os : List Outcome) (n : ℕ) → Valid p → Fits p plan → ExportsTyped p → protocol p (exports_of p) plan (Protocol p plan os n).last ≡ stops
    → (s : Store) × ((Protocol p plan os n).last ≡ over s)

-- They are in a valid module that has the runtime's types and exports.
abbrev pub RuntimeIsTyped : Type 0
RuntimeIsTyped = (m p : Module) → Valid p → p.types ≡ (with_runtime m).types → RuntimeExported m p → ExportsTyped p
