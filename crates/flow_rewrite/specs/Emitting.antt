-- What guards are written by.
use Rattle.std.specs.Prelude.{◌<◌, ℕ, List, length, get_or}
use Rattle.guard_form.specs.Guarded.{GuardIndices}
use Rattle.flow_rewrite.specs.declared.guards.Guards.{Guards}

-- each number is below the next one
abbrev pub Rises : List ℕ → Type 0
Rises xs = (i j : ℕ) → i < j → j < length xs → get_or xs i 0 < get_or xs j 0

-- the global of the state and the local of the index, and whether call 0 isn't noted
abbrev pub indices : Guards → GuardIndices
indices g = record { state = g.state; index = g.index; first_unnoted = g.first_unnoted }
