-- Functions by their indices, with the callers of each.
use Rattle.std.specs.Prelude.{◌≡◌, ℕ, ◌+◌, List, [], ◌∷◌, length, Contains, Option, Some, None, Bool, true, false, slice_get, ◌⊎◌}
use Rattle.std.specs.declared.vec.Vec.{Vec}
use Rattle.std.specs.declared.alloc.Global.{Global}

-- the items of a list that is there
abbrev pub items_or_none : Option (Vec ℕ Global) → List ℕ
items_or_none None = []
items_or_none (Some v) = v.items

-- the callers of this function
abbrev pub callers_at : List (Vec ℕ Global) → ℕ → List ℕ
callers_at callers y = items_or_none (slice_get callers y)

-- The function is told at the start, or calls one that is reached. It is the least such set.
pub data Reached (callers : List (Vec ℕ Global)) (starts : List Bool) : ℕ → Type 0 where
  at_start : (x : ℕ) → slice_get starts x ≡ Some true → Reached callers starts x
  by_caller : (x y : ℕ) → Contains (callers_at callers y) x → Reached callers starts y → Reached callers starts x

-- the number of those that aren't told
abbrev pub untold : List Bool → ℕ
untold [] = 0
untold (true ∷ told) = untold told
untold (false ∷ told) = 1 + untold told

-- These functions are told, and nothing else is. Those that weren't told are pending now, so that with those that
-- aren't told there are as many as before.
pub record Tells (funcs : List ℕ) (told new : List Bool) (pending after : List ℕ) : Type 0 where
  pub len : length new ≡ length told
  pub kept : (x : ℕ) → slice_get told x ≡ Some true → slice_get new x ≡ Some true
  pub these : (x : ℕ) → Contains funcs x → slice_get new x ≡ Some true
  pub still : (x : ℕ) → Contains pending x → Contains after x
  pub fresh : (x : ℕ) → slice_get new x ≡ Some true → (slice_get told x ≡ Some true) ⊎ (Contains funcs x × Contains after x)
  pub later : (x : ℕ) → Contains after x → Contains pending x ⊎ (slice_get new x ≡ Some true)
  pub fewer : untold new + length after ≡ untold told + length pending
