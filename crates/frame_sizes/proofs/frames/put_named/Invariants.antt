use Rattle.std.proofs.Common.{◌≡◌, ◌++◌, drop}
use Rattle.wa_types.specs.View.{code}
use Rattle.wa_types.specs.Frames.{named_places}
use Rattle.call_graph.specs.Settings.{policy_of}
use Rattle.frame_sizes.specs.Frames.{keep_local, places_of}
use Rattle.frame_sizes.proofs.frames.put_named.Given as goal

abbrev pub invariant-loop-local : goal.invariant-loop-local
invariant-loop-local l =
    places_of l.places.items ++ named_places (keep_local (policy_of l.policy) (code l.body) l.place) l.local (drop l.local l.locals)
    ≡ places_of l.fn.places.items ++ named_places (keep_local (policy_of l.policy) (code l.body) l.place) 0 l.locals
