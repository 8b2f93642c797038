-- Which locals of a flat function its calls keep under the policy `live`.
use Rattle.std.specs.Prelude.{◌≡◌, ◌↔◌, ◌⊎◌, ◌<◌, ℕ, List, [], length, map, get_or, Some, Bool, true, slice_get, Vec}
use Rattle.std.specs.declared.alloc.Global.{Global}
use Rattle.wa_types.specs.Liveness.{Position, ReadsFirst, behind_calls}
use Rattle.run_theory.specs.Flat.{FlatFunc, body_of}
use Rattle.flat_laws.specs.FlatModule.{stacks_in}
use Rattle.flat_laws.specs.Behind.{Among}
use Rattle.call_frames.specs.Classes.{AreKept}
use Rattle.live_locals.specs.Sets.{has}

-- the sets as lists
abbrev pub lists_of : List (Vec Bool Global) → List (List Bool)
lists_of sets = map (λ (set : Vec Bool Global). set.items) sets

-- The local is an entry of the call's stack, its arguments and table operand included.
abbrev pub OnStack : FlatFunc → (place x : ℕ) → Type 0
OnStack f place x = (stack : List ℕ) × (slice_get (stacks_in f.body) place ≡ Some stack) × Among x stack

-- Some path from just after the call reads the local before it writes it. The call's own result is written first.
abbrev pub ReadBehind : FlatFunc → (place x : ℕ) → Type 0
ReadBehind f place x = (at : Position) × (slice_get (behind_calls [] (body_of f)) place ≡ Some at) × ReadsFirst x at

-- The call at this place, counted among all calls in order of code, keeps the local.
abbrev pub KeepsAt : FlatFunc → (place x : ℕ) → Type 0
KeepsAt f place x = OnStack f place x ⊎ ReadBehind f place x

-- For each of the calls at these places, a set that has exactly the locals that it keeps.
pub record LiveAtCalls (f : FlatFunc) (numbers : List ℕ) (sets : List (List Bool)) : Type 0 where
  pub calls : length sets ≡ length numbers
  pub locals : (k : ℕ) → k < length numbers → length (get_or sets k []) ≡ length f.locals
  pub exact : (k place x : ℕ) → slice_get numbers k ≡ Some place → x < length f.locals → (has (get_or sets k []) x ≡ true) ↔ KeepsAt f place x

-- For each local the calls that keep it, counted among these calls: there are sets as above that these calls tell.
pub record LiveRows (f : FlatFunc) (numbers : List ℕ) (keepers : List (List ℕ)) : Type 0 where
  pub sets : List (List Bool)
  pub live : LiveAtCalls f numbers sets
  pub kept : AreKept (length f.locals) (length numbers) sets keepers
