-- When programs are due: for each of them a tick, and none once it has ended.
use Rattle.std.specs.Prelude.{◌≡◌, ◌<◌, ◌≤◌, ◌⊎◌, ℕ, List, [], ◌∷◌, Option, Some, None, slice_get}
use Rattle.wa_model.specs.Blocking.{Note}
use Rattle.world_model.specs.World.{Actor}

-- The least pair of due tick and number among the programs that haven't ended.
pub record IsLeast (dues : List (Option ℕ)) (program due : ℕ) : Type 0 where
  pub there : slice_get dues program ≡ Some (Some due)
  pub least : (other tick : ℕ) → slice_get dues other ≡ Some (Some tick) → (due < tick) ⊎ ((due ≡ tick) × (program ≤ other))

-- all programs have ended
abbrev pub HaveEnded : List (Option ℕ) → Type 0
HaveEnded dues = (program due : ℕ) → slice_get dues program ≡ Some (Some due) → ⊥

-- when a program of a world is due: one without notes has ended
abbrev pub unless_ended : (due : ℕ) → List Note → Option ℕ
unless_ended due [] = None
unless_ended due (x ∷ xs) = Some due

-- the same of an actor
abbrev pub due_of : Actor → Option ℕ
due_of a = unless_ended a.due a.notes
