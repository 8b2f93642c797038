-- What flat code reads behind its calls.
use Rattle.std.specs.Prelude.{◌≡◌, ◌≤◌, ℕ, ◌⊎◌, List, [], ◌∷◌, length, Some, slice_get}
use Rattle.wa_types.specs.Syntax.{Func, Module}
use Rattle.wa_types.specs.Liveness.{LiveAfter}
use Rattle.wa_types.specs.Validity.{Valid}
use Rattle.wa_types.specs.Modules.{defined_at, locals_of}
use Rattle.flat_laws.specs.Flatten.{flattened}
use Rattle.flat_laws.specs.FlatModule.{flat_func, stacks_in}

-- a local is one of these
abbrev pub Among : ℕ → List ℕ → Type 0
Among y [] = ⊥
Among y (x ∷ xs) = (y ≡ x) ⊎ Among y xs

-- A slot or a result local that some path from just after a call reads before it writes it is one of the call's stack: the path
-- reads no result local, and no slot of another operand. The call's own result is written first.
abbrev pub StackAloneIsRead : Type 0
StackAloneIsRead =
    (m : Module) (x : ℕ) (f : Func) (place y : ℕ) → Valid m → defined_at m x ≡ Some f → length (locals_of m f) ≤ y → LiveAfter (flat_func m x f) place y
    → (stack : List ℕ) × (slice_get (stacks_in (flattened m x f).body) place ≡ Some stack) × Among y stack
