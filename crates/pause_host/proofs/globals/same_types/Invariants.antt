use Rattle.std.proofs.Common.{◌≡◌, ◌<◌, ℕ}
use Rattle.std.specs.Prelude.{slice_get}
use Rattle.std.specs.Option.{option_map}
use Rattle.wa_types.specs.Typing.{type_of}
use Rattle.pause_host.proofs.globals.same_types.Given as goal

abbrev pub invariant-loop-i : goal.invariant-loop-i
invariant-loop-i l = (k : ℕ) → k < l.i → option_map type_of (slice_get l.those k) ≡ option_map type_of (slice_get l.these k)
