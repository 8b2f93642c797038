-- Sets of locals, and what is read first from code on, told by sets.
use Rattle.std.specs.Prelude.{◌≡◌, ◌<◌, ◌||◌, ℕ, List, length, map, reverse, get_or, Bool, false, Vec}
use Rattle.std.specs.List.{list_any}
use Rattle.std.specs.declared.alloc.Global.{Global}
use Rattle.wa_types.specs.Syntax.{Code}
use Rattle.wa_types.specs.Liveness.{live, told_at}

-- a set tells of each local whether it's in it
abbrev pub has : List Bool → ℕ → Bool
has set x = get_or set x false

-- What sets tell of a local for the target of each label, the innermost label first; its set stands last.
abbrev pub told_of : ℕ → List (Vec Bool Global) → List Bool
told_of x tos = map (λ (set : Vec Bool Global). has set.items x) (reverse tos)

-- the same as a function of the local
abbrev pub told_by : List (Vec Bool Global) → ℕ → List Bool
told_by tos x = told_of x tos

-- `before` tells which locals are read before they are written from this code on, where `behind` tells it for what stands behind it,
-- and `told` of each local for the target of each label.
pub record TellsBefore (told : ℕ → List Bool) (behind before : List Bool) (k : Code) : Type 0 where
  pub size : length before ≡ length behind
  pub each : (x : ℕ) → x < length behind → has before x ≡ live x (told x) (has behind x) k

-- the same whatever is told for labels
abbrev pub TellsAnywhere : (behind before : List Bool) → Code → Type 0
TellsAnywhere behind before k = (told : ℕ → List Bool) → TellsBefore told behind before k

-- a set has what is told for one of these labels too
pub record Joined (told : ℕ → List Bool) (labels : List ℕ) (old new : List Bool) : Type 0 where
  pub size : length new ≡ length old
  pub each : (x : ℕ) → x < length old → has new x ≡ (list_any (told_at (told x)) labels || has old x)

-- the same sets are there for labels, and `before` tells it
pub record Passed (tos tos_now : List (Vec Bool Global)) (behind before : List Bool) (k : Code) : Type 0 where
  pub labels : tos_now ≡ tos
  pub tells : TellsBefore (told_by tos) behind before k
