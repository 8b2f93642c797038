-- The frames of the functions that may pause.
use Rattle.std.specs.Prelude.{◌≡◌, ℕ, suc, List, [], ◌∷◌, Bool, true, false}
use Rattle.wa_types.specs.Pausing.{Settings}
use Rattle.wa_types.specs.Syntax.{Func, Module}
use Rattle.func_rewrite.specs.Frames.{FramesOf}
use Rattle.module_rewrite.specs.declared.layouts.FuncLayout.{FuncLayout}

-- The frames of the functions that are told, in order, the first function having this index.
abbrev pub LaidOut : Module → Settings → (which : List Bool) → (index : ℕ) → List Bool → List Func → List FuncLayout → Type 0
LaidOut m s which x [] fs ls = ls ≡ []
LaidOut m s which x (w ∷ ws) [] ls = ls ≡ []
LaidOut m s which x (true ∷ ws) (f ∷ fs) [] = ⊥
LaidOut m s which x (true ∷ ws) (f ∷ fs) (l ∷ ls) = (l.func ≡ x) × FramesOf m s which f l.calls.items × LaidOut m s which (suc x) ws fs ls
LaidOut m s which x (false ∷ ws) (f ∷ fs) ls = LaidOut m s which (suc x) ws fs ls
