use Rattle.std.proofs.Common.{◌≡◌, ◌≤◌, drop}
use Rattle.event_order.specs.Looks.{looks_of}
use Rattle.event_order.proofs.shows.next_show.Given as goal

abbrev pub invariant-loop-place : goal.invariant-loop-place
invariant-loop-place l = (l.fn.from ≤ l.place) × (looks_of l.fn.program (drop l.place l.fn.shows) ≡ looks_of l.fn.program (drop l.fn.from l.fn.shows))
