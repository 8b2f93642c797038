-- Which parameters and declared locals code reads and writes, among its calls and control.
use Rattle.std.specs.Prelude.{◌≡◌, ℕ, suc, nat_lt, length, Some, None, Bool, true, false}
use Rattle.wa_types.specs.Syntax.{Plain, basic, local_get, local_set, local_tee, br, return, Code, done, plain, nest, branch, Func, Module}
use Rattle.wa_types.specs.Pruned.{pruned}
use Rattle.wa_types.specs.Validity.{Valid}
use Rattle.wa_types.specs.Modules.{defined_at, locals_of}
use Rattle.run_theory.specs.Flat.{code_of}
use Rattle.flat_laws.specs.Flatten.{flattened}

-- an instruction in front of code, where told
abbrev pub keep_if : Bool → Plain → Code → Code
keep_if true p rest = plain p rest
keep_if false p rest = rest

-- A `local.tee` writes its local. A `return` is a branch to the function's own label, which has this number.
abbrev pub uses_plain : (first own : ℕ) → Plain → Code → Code
uses_plain first own (basic b) rest = rest
uses_plain first own (local_get x) rest = keep_if (nat_lt x first) (local_get x) rest
uses_plain first own (local_set x) rest = keep_if (nat_lt x first) (local_set x) rest
uses_plain first own (local_tee x) rest = keep_if (nat_lt x first) (local_set x) rest
uses_plain first own return rest = plain (br own) rest
uses_plain first own p rest = plain p rest

-- The accesses of the first so many locals in code, its calls and its control, all in their places.
unfoldable pub uses : (first own : ℕ) → Code → Code
uses first own done = done
uses first own (plain p rest) = uses_plain first own p (uses first own rest)
uses first own (nest s r body rest) = nest s None (uses first (suc own) body) (uses first own rest)
uses first own (branch r a b rest) = branch None (uses first (suc own) a) (uses first (suc own) b) (uses first own rest)

-- Flat code and the pruned body of its function access the function's parameters and declared locals at the same places.
abbrev pub OwnUsesStay : Type 0
OwnUsesStay =
    (m : Module) (x : ℕ) (f : Func) → Valid m → defined_at m x ≡ Some f
    → uses (length (locals_of m f)) 0 (code_of (flattened m x f).body) ≡ uses (length (locals_of m f)) 0 (pruned f.body)
