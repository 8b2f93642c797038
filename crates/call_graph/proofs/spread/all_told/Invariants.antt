use Rattle.std.proofs.Common.{◌≡◌, ℕ, ◌<◌, Some, true, slice_get}
use Rattle.std.specs.Prelude.{◌↔◌, Contains}
use Rattle.call_graph.proofs.spread.all_told.Given as goal

abbrev pub invariant-loop-func : goal.invariant-loop-func
invariant-loop-func l = (x : ℕ) → Contains l.places.items x ↔ ((x < l.func) × (slice_get l.told x ≡ Some true))
