-- What the calls that take a flat function ask of it, of each flat function of a valid module.
use Rattle.std.specs.Prelude.{◌≡◌, ◌≤◌, ℕ, ◌+◌, length, Some}
use Rattle.wa_types.specs.Syntax.{Func, Module}
use Rattle.wa_types.specs.Modules.{func_sorts, defined_at}
use Rattle.wa_types.specs.Sizes.{StrictSizeRule}
use Rattle.wa_types.specs.Pausing.{calls_of, calls_in}
use Rattle.wa_types.specs.Frames.{Count}
use Rattle.wa_types.specs.Validity.{Valid}
use Rattle.run_theory.specs.Flat.{code_of}
use Rattle.run_theory.specs.FlatFits.{FlatFits, FlatOf, CalleesInRange}
use Rattle.flat_laws.specs.Flatten.{flattened}

-- The flat function of this index can be rewritten, it stands for the function, and it names functions of the module alone.
pub record Meets (m : Module) (x : ℕ) (f : Func) : Type 0 where
  pub fits : FlatFits (flattened m x f)
  pub stands_for : FlatOf m x f (flattened m x f)
  pub callees : CalleesInRange (length (func_sorts m)) (flattened m x f).body

-- Of a valid module under the strict size rule each flat function with at most 50,000 locals does.
abbrev pub FlatMeets : Type 0
FlatMeets = (m : Module) (x : ℕ) (f : Func) → Valid m → StrictSizeRule m → defined_at m x ≡ Some f → length (flattened m x f).locals ≤ 50000 → Meets m x f

-- The calls of a flat function are those of the pruned body, in order.
abbrev pub CallsStay : Type 0
CallsStay = (m : Module) (x : ℕ) (f : Func) → calls_of (code_of (flattened m x f).body) ≡ calls_in f

-- The rewritten function has three locals more than the flat one.
abbrev pub LocalsCounted : Type 0
LocalsCounted = (m : Module) (x : ℕ) (f : Func) → length (flattened m x f).locals + 3 ≡ Count m f
