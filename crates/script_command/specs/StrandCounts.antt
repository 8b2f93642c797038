-- What lines of strands take of the devices and their counts.
use Rattle.std.specs.Prelude.{◌≡◌, ◌+◌, ◌++◌, if◌then◌else◌, ℕ, nat_eq, List, [], ◌∷◌, Some, slice_get}
use Rattle.wa_model.specs.declared.answers.Detach.{Detach}
use Rattle.wa_model.specs.Plan.{Outcome}
use Rattle.wa_model.specs.Behaves.{IsPrefix}
use Rattle.world_model.specs.World.{Actor, ends_turn}
use Rattle.event_order.specs.Left.{Counted}
use Rattle.many_host.specs.Calls.{left_at}
use Rattle.strand_laws.specs.StrandWorld.{Staged, StrandLine, StrandsInWorld}
use Rattle.strand_host.specs.StrandCalls.{TakesStrandCall}
use Rattle.world_hosting.specs.Counts.{IsBegunBy, closes}

-- how many events end in these lines: the turn of a strand ends with one line, of a pause or of an end
abbrev pub strand_turn_count : List StrandLine → ℕ
strand_turn_count [] = 0
strand_turn_count (l ∷ ls) = closes ends_turn l.event + strand_turn_count ls

-- Line by line: the outcome that a line's new call met, and what it took of the devices and their counts, once those were taken out
-- whose event began with it. So many events had begun and so many had ended before, and so many had begun by the last line.
abbrev pub TookStrands : List StrandsInWorld → List Detach → (begun ended : ℕ) → List StrandLine → (met : List (List Outcome)) → (old : List Counted) → (last : ℕ) → (new : List Counted) → Type 0
TookStrands programs detaches begun ended [] [] old last new = (last ≡ begun) × (new ≡ old)
TookStrands programs detaches begun ended (l ∷ ls) (os ∷ met) old last new =
    (now : ℕ) × (mid : List Counted) × IsBegunBy begun ended l.event now × TakesStrandCall programs l os (left_at begun now detaches old) mid
    × TookStrands programs detaches now (ended + closes ends_turn l.event) ls met mid last new
TookStrands programs detaches begun ended _ _ old last new = ⊥

-- the outcomes that the lines of a program's strand tell
abbrev pub strand_met_by : (program strand : ℕ) → List StrandLine → (met : List (List Outcome)) → List Outcome
strand_met_by p k (l ∷ ls) (os ∷ met) = (if nat_eq p l.program then (if nat_eq k l.strand then os else []) else []) ++ strand_met_by p k ls met
strand_met_by p k _ _ = []

-- What is told of each strand are the first outcomes that its actor's calls meet.
abbrev pub AreStrandsMet : List StrandLine → (met : List (List Outcome)) → List Staged → Type 0
AreStrandsMet lines met staged =
    (p k : ℕ) (x : Staged) (a : Actor) → slice_get staged p ≡ Some x → slice_get x.actors k ≡ Some a → IsPrefix (strand_met_by p k lines met) a.outcomes
