-- What is told of the guarded code of a module's function.
use Rattle.std.specs.Prelude.{◌≡◌, ℕ, List, length}
use Rattle.wa_types.specs.Frames.{SlotPairs}
use Rattle.wa_types.specs.Modules.{locals_of}
use Rattle.wa_types.specs.Syntax.{Code, done, Func, Module}
use Rattle.run_theory.specs.Flat.{FlatFunc, followed_by}
use Rattle.guard_form.specs.Guarded.{block_unit, guard_indices, guarded_body}
use Rattle.flat_laws.specs.Flatten.{flattened}
use Rattle.slim_laws.specs.SlimModule.{Pieces, SlimPieces}

-- This is guarded code of slim pieces of a function, with the code that restores its frame.
pub record GuardedSlim (m : Module) (places : List ℕ) (state x : ℕ) (f : Func) (restored c : Code) : Type 0 where
  pub pieces : Pieces
  pub slim : SlimPieces m places x f pieces
  pub code : c ≡ guarded_body (guard_indices state (length (flattened m x f).locals) pieces.exits (block_unit pieces.first pieces.units (flattened m x f).result)) (followed_by restored) done
      (block_unit pieces.first pieces.units (flattened m x f).result)

-- It is such code of whatever function has this flat form.
abbrev pub GuardedTold : (places : List ℕ) → (low count state : ℕ) → FlatFunc → (restored : Code) → Code → Type 0
GuardedTold ps low count state g r c =
    (m : Module) (x : ℕ) (f : Func) → g ≡ flattened m x f → low ≡ length (locals_of m f) → count ≡ length (SlotPairs m f) → GuardedSlim m ps state x f r c
