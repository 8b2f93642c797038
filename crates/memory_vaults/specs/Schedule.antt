-- Calls that fail by their number.
use Rattle.std.specs.Prelude.{ℕ, ◌≡◌, List}
use Rattle.vault_port.specs.Counts.{one_more}
use Rattle.memory_vaults.specs.declared.schedule.Schedule.{Schedule}

-- the numbers of the calls that fail
abbrev pub failing : Schedule → List ℕ
failing schedule = schedule.fail.items

-- the number of the next call, from 1
abbrev pub next_call : Schedule → ℕ
next_call schedule = one_more schedule.calls

-- after a call the same numbers fail, and the next call has the next number
pub record GoesOn (old new : Schedule) : Type 0 where
  pub same : failing new ≡ failing old
  pub counted : new.calls ≡ next_call old
