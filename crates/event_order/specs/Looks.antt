-- What is shown of a program's memory after its end.
use Rattle.std.specs.Prelude.{◌≡◌, ◌≤◌, ℕ, suc, nat_eq, List, drop, ◌∷◌, slice_get, Option, Some, None, if◌then◌else◌}
use Rattle.std.specs.List.{filter_map}
use Rattle.world_model.specs.World.{Look}
use Rattle.event_order.specs.declared.shows.Show.{Show}

-- the part of a program's memory that is shown
abbrev pub look_of : Show → Look
look_of s = record { at = s.at; len = s.len }

-- the same where it is of this program
abbrev pub look_at : (program : ℕ) → Show → Option Look
look_at program s = if nat_eq s.program program then Some (look_of s) else None

-- a program's looks, in order
abbrev pub looks_of : (program : ℕ) → List Show → List Look
looks_of program shows = filter_map (look_at program) shows

-- The program's first show at this place or behind it stands here.
pub record IsNextShow (program : ℕ) (shows : List Show) (from place : ℕ) : Type 0 where
  pub behind : from ≤ place
  pub show : Show
  pub there : slice_get shows place ≡ Some show
  pub first : looks_of program (drop from shows) ≡ look_of show ∷ looks_of program (drop (suc place) shows)
