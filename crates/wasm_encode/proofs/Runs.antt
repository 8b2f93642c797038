-- How many locals runs declare.
use Rattle.std.proofs.Common.{ℕ, ◌≤◌, List, arith, drop}
use Rattle.std.proofs.lemmas.List.Sums.{sum_by-take-drop}
use Rattle.wa_types.specs.declared.syntax.Run.{Run}
use Rattle.wasm_encode.specs.Locals.{local_count}

pub local_count_le : (xs : List Run) (i : ℕ) → local_count (drop i xs) ≤ local_count xs
local_count_le xs i = let whole = sum_by-take-drop (λ (r : Run). r.count) xs i in omega (arith, whole)
