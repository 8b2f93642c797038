-- What stays of runs when they may cost more, or less; and how they end.
use Rattle.std.specs.Prelude.{◌≡◌, ◌≤◌, ℕ, suc, ◌+◌, List, length, Bool, Some, true, slice_get}
use Rattle.wa_types.specs.Syntax.{Module}
use Rattle.wa_types.specs.Pausing.{Settings}
use Rattle.wa_model.specs.Plan.{Plan, Outcome}
use Rattle.wa_model.specs.Blocking.{Note, Blocking}
use Rattle.wa_model.specs.Protocol.{Protocol}
use Rattle.wa_model.specs.Behaves.{IsPrefix, PausesNumbered, Compared, expected_notes}
use Rattle.world_model.specs.World.{is_end}

-- What is expected within a cost begins what is expected within more.
abbrev pub ExpectedGrow : Type 0
ExpectedGrow = (m : Module) (s : Settings) (plan : Plan) (os : List Outcome) (n more : ℕ) → IsPrefix (expected_notes m s plan os n) (expected_notes m s plan os (n + more))

-- A run that is compared up to a cost is compared up to each lower one,
abbrev pub ComparedLower : Type 0
ComparedLower = (m : Module) (s : Settings) (plan : Plan) (os : List Outcome) (n k : ℕ) → k ≤ n → Compared m s plan os n → Compared m s plan os k

-- and its pauses up to there stand at numbered calls.
abbrev pub PausesLower : Type 0
PausesLower =
    (m : Module) (s : Settings) (which : List Bool) (plan : Plan) (os : List Outcome) (n k : ℕ) → k ≤ n
    → PausesNumbered m s which (Blocking m plan os n).events → PausesNumbered m s which (Blocking m plan os k).events

-- An end is the last of these notes.
abbrev pub EndIsLast : List Note → Type 0
EndIsLast notes = (i : ℕ) (x : Note) → slice_get notes i ≡ Some x → is_end x.event ≡ true → length notes ≡ suc i

-- Nothing follows an end in a run with blocking imports.
abbrev pub BlockingEndIsLast : Type 0
BlockingEndIsLast = (m : Module) (plan : Plan) (os : List Outcome) (n : ℕ) → EndIsLast (Blocking m plan os n).events

-- Nothing follows one in what is expected.
abbrev pub ExpectedEndIsLast : Type 0
ExpectedEndIsLast = (m : Module) (s : Settings) (plan : Plan) (os : List Outcome) (n : ℕ) → EndIsLast (expected_notes m s plan os n)

-- Nothing follows one under the protocol.
abbrev pub ProtocolEndIsLast : Type 0
ProtocolEndIsLast = (p : Module) (plan : Plan) (os : List Outcome) (n : ℕ) → EndIsLast (Protocol p plan os n).events
