use Rattle.std.proofs.Common.{◌≡◌, map, take}
use Rattle.local_spill.specs.Laying.{saved_local}
use Rattle.func_rewrite.specs.WrittenFrames.{numbered_places}
use Rattle.func_rewrite.proofs.frames.saved_places.Given as goal

abbrev pub invariant-loop-local : goal.invariant-loop-local
invariant-loop-local l = map saved_local l.places.items ≡ numbered_places 0 (take l.local l.locals)
