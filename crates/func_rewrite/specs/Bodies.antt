-- The body of a written function.
use Rattle.std.specs.Prelude.{◌≡◌, ℕ, List, None}
use Rattle.wa_types.specs.Syntax.{a_block, nest, Code, Func, Module}
use Rattle.run_theory.specs.Flat.{followed_by}
use Rattle.frame_laws.specs.Function.{result_type, value_code}
use Rattle.flat_laws.specs.Flatten.{flattened}
use Rattle.slim_rewrite.specs.Told.{GuardedSlim}

-- Guarded code of slim pieces of a function with the code that restores its frame, in a block, and behind it the code that saves its frame and
-- gives a value for the result.
pub record IsSlimBody (m : Module) (places : List ℕ) (state x : ℕ) (f : Func) (restored saved body : Code) : Type 0 where
  pub guarded : Code
  pub slim : GuardedSlim m places state x f restored guarded
  pub is : body ≡ nest a_block None guarded (followed_by saved (value_code (result_type (flattened m x f).locals (flattened m x f).result)))
