-- The turn that `next_turn` answers.
use Rattle.std.specs.Prelude.{ℕ, List, Option, Some, None}
use Rattle.event_order.specs.declared.turns.Turn.{Turn}
use Rattle.event_order.specs.Dues.{IsLeast, HaveEnded}

-- the next turn; there is none exactly where all programs have ended
abbrev pub IsTurn : List (Option ℕ) → Option Turn → Type 0
IsTurn dues None = HaveEnded dues
IsTurn dues (Some turn) = IsLeast dues turn.program turn.due
