-- A program with one strand runs as its plan does without strands.
use Rattle.std.specs.Prelude.{◌≡◌, ℕ, List, [], ◌∷◌, Option, Some, None}
use Rattle.wa_types.specs.Pausing.{Settings}
use Rattle.wa_model.specs.Behaves.{expected_notes}
use Rattle.wa_model.specs.Plan.{Outcome, Plan}
use Rattle.wa_model.specs.Protocol.{Held, Protocol, over}
use Rattle.wa_model.specs.Store.{Store}
use Rattle.strand_laws.specs.Strands.{BlockingStrands, ProtocolStrands, Strand, StrandProgram}
use Rattle.strand_laws.specs.Woven.{Ready, standing_now, told_by}

-- the program with this strand alone
abbrev pub with_one : StrandProgram → Strand → StrandProgram
with_one g s = record { source = g.source; globals = g.globals; listed = g.listed; strands = s ∷ [] }

-- the plan of a strand where there are no others: answers leave no range alone but its area
abbrev pub plan_alone : StrandProgram → Strand → Plan
plan_alone g s = record { globals = g.globals; entries = s.entries; area = s.area; others = []; listed = g.listed }

-- the strand that goes on stands there; where none does, all is over there
abbrev pub StandsThere : Held → Option (Ready Held) → Type 0
StandsThere h None = (s : Store) × (h ≡ over s)
StandsThere h (Some r) = r.at ≡ h

-- Under the protocol, within a cost of n, the strand makes the notes of its plan's run, with their stores, and stands where that does.
pub record RunsAsItsPlan (g : StrandProgram) (s : Strand) (os : List Outcome) (n : ℕ) : Type 0 where
  pub notes : (ProtocolStrands (with_one g s) (os ∷ []) n).events ≡ told_by 0 (Protocol g.source (plan_alone g s) os n).events
  pub stands : StandsThere (Protocol g.source (plan_alone g s) os n).last (standing_now (ProtocolStrands (with_one g s) (os ∷ []) n).last)

-- Every program with one strand does, for all outcomes and costs.
abbrev pub OneStrandRuns : Type 0
OneStrandRuns = (g : StrandProgram) (s : Strand) (os : List Outcome) (n : ℕ) → RunsAsItsPlan g s os n

-- With blocking imports the strand makes the notes that are expected of its plan's run, at the same costs.
abbrev pub OneStrandIsExpected : Type 0
OneStrandIsExpected =
    (st : Settings) (g : StrandProgram) (s : Strand) (os : List Outcome) (n : ℕ)
    → (BlockingStrands st (with_one g s) (os ∷ []) n).events ≡ told_by 0 (expected_notes g.source st (plan_alone g s) os n)
