use Rattle.std.proofs.Common.{◌≡◌, map, take}
use Rattle.wa_types.specs.Frames.{named_places}
use Rattle.local_spill.specs.Laying.{saved_local}
use Rattle.live_locals.specs.Sets.{has}
use Rattle.func_rewrite.proofs.layouts.set_places.Given as goal

abbrev pub invariant-loop-local : goal.invariant-loop-local
invariant-loop-local l = map saved_local l.places.items ≡ named_places (has l.set) 0 (take l.local l.locals)
