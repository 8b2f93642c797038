-- Devices with their counts of faults, and what lines take of them.
use Rattle.std.specs.Prelude.{◌≡◌, ◌⊎◌, ◌+◌, ◌++◌, if◌then◌else◌, Bool, ℕ, suc, nat_eq, List, [], ◌∷◌, Some, slice_get}
use Rattle.wa_model.specs.declared.answers.Detach.{Detach}
use Rattle.wa_model.specs.Outside.{Event, Line}
use Rattle.wa_model.specs.Plan.{Outcome}
use Rattle.wa_model.specs.Behaves.{IsPrefix}
use Rattle.world_model.specs.World.{Actor, Device, Program, ends_turn}
use Rattle.device_port.specs.declared.devices.Devices.{Devices}
use Rattle.device_port.specs.Listed.{of_all}
use Rattle.event_order.specs.Left.{Counted}
use Rattle.many_host.specs.Calls.{IsShown, TakesCall, left_at}

-- the devices of a list, each with its count of faults
abbrev pub counted : {X : Type 0} {F : X → Type 0} → ((x : X) × F x → Device) → ((x : X) × F x → ℕ) → Devices X F → List Counted
counted seen faults devices = of_all (λ d. record { device = seen d; faults = faults d }) devices

-- how many events end with a line, where such lines end one: one or none
abbrev pub closes : (Event → Bool) → Event → ℕ
closes ends e = if ends e then 1 else 0

-- how many events end in these lines
abbrev pub ended_in : (Event → Bool) → List Line → ℕ
ended_in ends [] = 0
ended_in ends (l ∷ ls) = closes ends l.event + ended_in ends ls

-- each turn of a program ends with one line, of a pause or of an end
abbrev pub turns_at : Event → ℕ
turns_at = closes ends_turn

-- So many events have begun by a line, where so many had by the line before and so many turns had ended: that of its own turn is one
-- more than those; and what is shown of memory behind a program's end begins none.
abbrev pub IsBegunBy : (before ended : ℕ) → Event → (now : ℕ) → Type 0
IsBegunBy before ended e now = (now ≡ suc ended) ⊎ ((now ≡ ended) × (before ≡ ended) × IsShown e)

-- Line by line: the outcome that a line's new call met, and what it took of the devices and their counts, once those were taken out
-- whose event began with it. So many events had begun and so many had ended before, and so many had begun by the last line.
abbrev pub TookBy : (ends : Event → Bool) → (takes : Line → List Outcome → (old new : List Counted) → Type 0) → List Detach → (begun ended : ℕ) → List Line → (met : List (List Outcome)) → (old : List Counted)
    → (last : ℕ) → (new : List Counted) → Type 0
TookBy ends takes detaches begun ended [] [] old last new = (last ≡ begun) × (new ≡ old)
TookBy ends takes detaches begun ended (l ∷ ls) (os ∷ met) old last new =
    (now : ℕ) × (mid : List Counted) × IsBegunBy begun ended l.event now × takes l os (left_at begun now detaches old) mid
    × TookBy ends takes detaches now (ended + closes ends l.event) ls met mid last new
TookBy ends takes detaches begun ended _ _ old last new = ⊥

-- the same of the calls of programs without mailboxes
abbrev pub Took : List Program → List Detach → (begun ended : ℕ) → List Line → (met : List (List Outcome)) → (old : List Counted) → (last : ℕ) → (new : List Counted) → Type 0
Took programs = TookBy ends_turn (TakesCall programs)

-- the outcomes that the lines of the program of this number tell
abbrev pub met_by : (number : ℕ) → List Line → (met : List (List Outcome)) → List Outcome
met_by number (l ∷ ls) (os ∷ met) = (if nat_eq number l.program then os else []) ++ met_by number ls met
met_by number _ _ = []

-- What is told of each program are the first outcomes that its actor's calls meet.
abbrev pub AreMet : List Line → (met : List (List Outcome)) → List Actor → Type 0
AreMet lines met actors = (i : ℕ) (a : Actor) → slice_get actors i ≡ Some a → IsPrefix (met_by i lines met) a.outcomes
